use Rattle.std.proofs.Common.{◌≡◌, take}
use Rattle.dfs_change.specs.Whole.{extents_of}
use Rattle.dfs_change.proofs.sealing.extents_of.Given as goal

abbrev pub invariant-loop-index : goal.invariant-loop-index
invariant-loop-index l = l.places.items ≡ extents_of (take l.index l.fn.tables)
