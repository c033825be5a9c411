use Rattle.std.proofs.Common.{◌-◌}
use Rattle.dfs_merge.proofs.tree.Tree.+build.Given as goal

abbrev pub decreases-build : goal.decreases-build
decreases-build g l = l.high - l.low
