use Rattle.std.proofs.Common.{List}
use Rattle.dfs_fence.specs.declared.fence.Fence.{Fence}
use Rattle.dfs_fence.specs.Places.{BlockLies}
use Rattle.dfs_fence.specs.Spelled.{AreSpelled}
use Rattle.dfs_fence.proofs.Placing.{HasPassed}
use Rattle.dfs_fence.proofs.places.all_lie.Given as goal

abbrev pub invariant-loop-turn : goal.invariant-loop-turn
invariant-loop-turn l = (fs : List Fence) → AreSpelled l.count l.bytes fs → HasPassed (BlockLies l.end) l.rest l._turn fs
