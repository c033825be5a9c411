use Rattle.dfs_ops.proofs.Bounds.{each_bounded}
use Rattle.dfs_ops.proofs.laws.outcomes_bounded.Goals as goal

pub returns : goal.returns
returns c = each_bounded
