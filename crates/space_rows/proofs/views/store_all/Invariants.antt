use Rattle.dfs_space.specs.Space.{IsReady}
use Rattle.space_rows.proofs.views.store_all.Given as goal

abbrev pub invariant-loop-name : goal.invariant-loop-name
invariant-loop-name g l = IsReady (g.S.Space.state l.space)
