use Rattle.std.proofs.Common.{◌≡◌, ◌++◌, take}
use Rattle.std.specs.List.{flat_map}
use Rattle.dfs_fence.specs.Index.{fence_bytes}
use Rattle.dfs_fence.proofs.writing.append_fences.Given as goal

abbrev pub invariant-loop-fence : goal.invariant-loop-fence
invariant-loop-fence l = l.out.items ≡ l.initial.out.items ++ flat_map fence_bytes (take l.fence-index l.fences)
