use Rattle.std.proofs.Common.{length, ◌-◌, ◌≤◌}
use Rattle.dfs_folder.proofs.folder.read_full.Given as goal

abbrev pub invariant-loop-count : goal.invariant-loop-count
invariant-loop-count l = l.count ≤ length l.initial.out

abbrev pub decreases-loop-count : goal.decreases-loop-count
decreases-loop-count l = length l.initial.out - l.count
