use Rattle.std.proofs.Common.{◌≤◌, ap, length, map, List}
use Rattle.std.specs.Prelude.{option_copied}
use Rattle.std.proofs.Common.{Global}
use Rattle.std.specs.declared.rc.Rc.{Rc}
use Rattle.dfs_table.specs.declared.run.Run.{Run}
use Rattle.std.specs.List.{AllByRecursion}
use Rattle.dfs_record.specs.declared.Record.{Record}
use Rattle.dfs_record.specs.Delta.{merged}
use Rattle.dfs_cursor.specs.Ranges.{is_within}
use Rattle.dfs_merge.specs.Laws.{none_unread}
use Rattle.dfs_table.specs.Writer.{KeyPasses}
use Rattle.dfs_compact.specs.Parts.{count_all}
use Rattle.dfs_compact.proofs.Cutting.{few_of, merged_within}
use Rattle.dfs_compact.proofs.Ranges.{ok_by, ok_to}
use Rattle.dfs_compact.proofs.sources.merged.Goals as goal

pub returns-clause-rest : goal.returns-clause-rest
returns-clause-rest c = λ files ds are.
    ok_to c.new.result _ (c.new.ensures.whole (none_unread _ _ _ c.in_ok-parts.parts.items c.in_ok-parts.ensures.loaded)) (ap merged (c.in_ok-parts.ensures.rests files ds are))

pub returns-clause-unread : goal.returns-clause-unread
returns-clause-unread c = ok_to c.new.result _ c.new.ensures.unread (none_unread _ _ _ c.in_ok-parts.parts.items c.in_ok-parts.ensures.loaded)

pub returns-clause-few : goal.returns-clause-few
returns-clause-few c =
    let parts = c.in_ok-parts.parts.items in
    ok_by c.new.result _ (λ (l : List Record). length l ≤ count_all (map (λ (r : Rc Run Global). r.value) c.args.sources.now)) _ (c.new.ensures.whole (none_unread _ _ _ parts c.in_ok-parts.ensures.loaded))
    (few_of _ parts _ c.in_ok-parts.ensures.few)

pub returns-clause-within : goal.returns-clause-within
returns-clause-within c =
    let parts = c.in_ok-parts.parts.items in
    ok_by c.new.result _ (AllByRecursion (KeyPasses (is_within (option_copied c.args.low) (option_copied c.args.high)))) _ (c.new.ensures.whole (none_unread _ _ _ parts c.in_ok-parts.ensures.loaded))
    (merged_within (option_copied c.args.low) (option_copied c.args.high) _ parts c.in_ok-parts.ensures.within)
