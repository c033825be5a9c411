use Rattle.dfs_fence.proofs.Apart.{one_covers}
use Rattle.dfs_fence.proofs.laws.one_covers.Goals as goal

pub returns : goal.returns
returns c = one_covers
