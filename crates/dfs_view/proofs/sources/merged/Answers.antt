use Rattle.std.proofs.Common.{◌∙◌, ap, ℕ, List}
use Rattle.std.specs.Prelude.{Some, option_copied, flat_map}
use Rattle.dfs_record.specs.declared.Record.{Record}
use Rattle.dfs_record.specs.Delta.{delta, records_of}
use Rattle.dfs_merge.specs.Laws.{none_unread}
use Rattle.dfs_table.specs.declared.run.Run.{Run}
use Rattle.dfs_view.specs.Layers.{records_on, runs_of}
use Rattle.dfs_view.proofs.Parts.{ok_to, parts_joined}
use Rattle.dfs_view.proofs.sources.merged.Goals as goal

pub returns-clause-rest : goal.returns-clause-rest
returns-clause-rest c = λ host stand.
    let layers = c.args.layers.now in
    ok_to c.new.result _ (c.new.ensures.whole (none_unread _ _ _ c.in_ok-sources.sources.items c.in_ok-sources.ensures.loaded))
    (ap (λ (ls : List (List Record)). records_of (delta (flat_map (λ rs. rs) ls))) (c.in_ok-sources.ensures.rests host stand)
    ∙ ap (λ l. records_of (delta l)) (parts_joined (Some c.args.low.now) (option_copied c.args.high) (λ (r : ℕ × Run). records_on host r.1) (runs_of layers) (records_of layers.buffer.held)))

pub returns-clause-unread : goal.returns-clause-unread
returns-clause-unread c = ok_to c.new.result _ c.new.ensures.unread (none_unread _ _ _ c.in_ok-sources.sources.items c.in_ok-sources.ensures.loaded)
