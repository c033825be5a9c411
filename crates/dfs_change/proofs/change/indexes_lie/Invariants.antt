use Rattle.std.proofs.Common.{take}
use Rattle.dfs_change.specs.Whole.{IndexesLie}
use Rattle.dfs_change.proofs.change.indexes_lie.Given as goal

abbrev pub invariant-loop-index : goal.invariant-loop-index
invariant-loop-index l = IndexesLie l.end (take l.index l.manifest)
