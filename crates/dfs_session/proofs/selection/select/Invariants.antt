use Rattle.std.proofs.Common.{map}
use Rattle.dfs_session.proofs.Selecting.{SoFar}
use Rattle.dfs_session.proofs.selection.select.Given as goal

abbrev pub invariant-loop-index : goal.invariant-loop-index
invariant-loop-index g l = SoFar (g.H.Host.state l.fn.host) (g.H.Host.state l.host) l.registry.entries l.kept l.names l.index (map (λ c. c.value) l.changes.items)
