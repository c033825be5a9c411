use Rattle.dfs_space.proofs.Reading.{read_on}
use Rattle.dfs_ops.proofs.planning.take.Goals as goal

pub returns-in-At-clause-reads : goal.returns-in-At-clause-reads
returns-in-At-clause-reads g c = read_on g.met.S.Space.follows_on c.in_ok-answer.ensures.reads c.place.ensures.reads
