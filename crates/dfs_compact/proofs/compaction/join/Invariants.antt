use Rattle.std.proofs.Common.{◌≡◌, ◌≤◌, ◌++◌, length, vec_capacity}
use Rattle.std.specs.Vec.Iter.{into_iter_items}
use Rattle.dfs_compact.specs.Parts.{tables_of}
use Rattle.dfs_compact.proofs.compaction.join.Given as goal

abbrev pub invariant-loop-run : goal.invariant-loop-run
invariant-loop-run l = (l.fn.merged.items ≡ l.yielded ++ into_iter_items l.run-iterator) × (l.joined.items ≡ tables_of l.yielded) × (length (tables_of l.fn.merged.items) ≤ vec_capacity l.joined)
