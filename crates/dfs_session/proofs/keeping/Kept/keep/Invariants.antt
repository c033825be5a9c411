use Rattle.std.proofs.Common.{◌≡◌, map, take}
use Rattle.dfs_session.proofs.Uses.{Keeping}
use Rattle.dfs_session.proofs.keeping.Kept.keep.Given as goal

-- the changes before the index are kept
abbrev pub invariant-loop-change : goal.invariant-loop-change
invariant-loop-change l = Keeping l.fn.self l.self l.number (map (λ c. c.value) (take l.change-index l.changes)) × (map (λ c. c.value) l.begun.items ≡ map (λ c. c.value) (take l.change-index l.changes))
