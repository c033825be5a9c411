use Rattle.std.proofs.Common.{◌≡◌, ◌++◌, take, map}
use Rattle.dfs_job.proofs.planning.add_runs.Given as goal

abbrev pub invariant-loop-run : goal.invariant-loop-run
invariant-loop-run l = map (λ r. r.value) l.sources.items ≡ map (λ r. r.value) l.fn.sources.items ++ map (λ r. r.value) (take l.run-index l.runs)
