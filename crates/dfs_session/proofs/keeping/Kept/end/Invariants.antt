use Rattle.std.proofs.Common.{map, drop}
use Rattle.dfs_session.proofs.Uses.{Ending}
use Rattle.dfs_session.proofs.keeping.Kept.end.Given as goal

-- the changes from the index on are left
abbrev pub invariant-loop-change : goal.invariant-loop-change
invariant-loop-change l = Ending l.initial.self l.self l.number (map (λ c. c.value) (drop l.change-index l.change-items))
