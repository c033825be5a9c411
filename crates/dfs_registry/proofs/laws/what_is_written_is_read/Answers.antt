use Rattle.dfs_registry.proofs.Bodies.{reads_back}
use Rattle.dfs_registry.proofs.Commit.{rests}
use Rattle.dfs_registry.proofs.ReadBack.{are_spelled}
use Rattle.dfs_registry.proofs.laws.what_is_written_is_read.Goals as goal

pub returns-clause-bodies : goal.returns-clause-bodies
returns-clause-bodies c b rest is = reads_back b is rest

pub returns-clause-spelled : goal.returns-clause-spelled
returns-clause-spelled c = are_spelled

pub returns-clause-lists : goal.returns-clause-lists
returns-clause-lists c = rests
