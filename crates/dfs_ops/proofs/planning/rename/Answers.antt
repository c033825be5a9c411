use Rattle.dfs_space.proofs.Reading.{read_on}
use Rattle.dfs_ops.proofs.planning.rename.Goals as goal

pub returns-clause-reads : goal.returns-clause-reads
returns-clause-reads g c = read_on g.met.S.Space.follows_on c.in_ok-answer.ensures.reads c.take.ensures.reads
