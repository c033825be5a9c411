use Rattle.dfs_walk.proofs.Walks.{OnTheWay}
use Rattle.dfs_walk.proofs.walking.descend.Given as goal

abbrev pub invariant-loop-index : goal.invariant-loop-index
invariant-loop-index g l = OnTheWay g.S.Space.StandsFor g.S.Space.follows g.S.Space.state l.fn.space l.space l.path l.passed l.index l.dir
