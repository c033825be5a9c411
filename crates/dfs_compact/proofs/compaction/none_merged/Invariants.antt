use Rattle.std.proofs.Common.{◌≡◌, replicate}
use Rattle.std.specs.Prelude.{None}
use Rattle.dfs_compact.proofs.compaction.none_merged.Given as goal

abbrev pub invariant-loop : goal.invariant-loop
invariant-loop l = l.merged.items ≡ replicate l.counter None
