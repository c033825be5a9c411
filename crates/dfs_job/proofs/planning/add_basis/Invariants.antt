use Rattle.std.proofs.Common.{◌≡◌, ◌++◌, take, map}
use Rattle.dfs_job.proofs.planning.add_basis.Given as goal

abbrev pub invariant-loop-change : goal.invariant-loop-change
invariant-loop-change l = map (λ r. r.value) l.sources.items ≡ map (λ r. r.value) l.fn.sources.items ++ map (λ c. c.run.value) (map (λ c. c.value) (take l.change-index l.basis))
