use Rattle.dfs_session.proofs.Places.{placed}
use Rattle.dfs_session.proofs.placed.Goals as goal

pub returns : goal.returns
returns c = placed
