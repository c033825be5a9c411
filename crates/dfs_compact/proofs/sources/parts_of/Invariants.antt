use Rattle.std.proofs.Common.{◌≡◌, ◌≤◌, List, length, take, map}
use Rattle.std.specs.Prelude.{option_copied}
use Rattle.std.specs.List.{AllByRecursion, sum_by}
use Rattle.dfs_record.specs.Delta.{Delta, records_of}
use Rattle.dfs_record.specs.Records.{Files}
use Rattle.dfs_cursor.specs.Ranges.{is_within, part, unread_of}
use Rattle.dfs_table.specs.Writer.{KeyPasses}
use Rattle.dfs_table.specs.Cursors.{run_rest}
use Rattle.dfs_compact.specs.Parts.{AreSources, count_all}
use Rattle.dfs_compact.proofs.sources.parts_of.Given as goal

abbrev pub invariant-loop-run : goal.invariant-loop-run
invariant-loop-run l = record {
  rests : (files : Files) (ds : List Delta) → AreSources files (map (λ r. r.value) l.sources) ds
      → map (λ s. part (option_copied s.low) (option_copied s.high) (run_rest s.inner)) l.parts.items ≡ map (λ d. part (option_copied l.low) (option_copied l.high) (records_of d)) (take l.run-index ds);
  loaded : AllByRecursion (λ s. unread_of (option_copied s.high) (run_rest s.inner) 0 ≡ 0) l.parts.items;
  few : sum_by (λ s. length (part (option_copied s.low) (option_copied s.high) (run_rest s.inner))) l.parts.items ≤ count_all (map (λ r. r.value) (take l.run-index l.sources));
  within : AllByRecursion (λ s. AllByRecursion (KeyPasses (is_within (option_copied l.low) (option_copied l.high))) (part (option_copied s.low) (option_copied s.high) (run_rest s.inner))) l.parts.items;
}
