use Rattle.std.proofs.Common.{◌≡◌, take}
use Rattle.std.specs.Prelude.{map}
use Rattle.dfs_session.proofs.commands.snapshots.Given as goal

-- the list has the publications before the index
abbrev pub invariant-loop-index : goal.invariant-loop-index
invariant-loop-index l = l.list ≡ map (λ p. (p.name, p.job)) (take l.index l.registry.entries)
