use Rattle.std.proofs.Common.{◌≡◌, take}
use Rattle.std.specs.Prelude.{min}
use Rattle.std.specs.List.{sum_by}
use Rattle.dfs_view.specs.Layers.{own_runs, run_count}
use Rattle.dfs_job.proofs.job.Job.stats.Given as goal

abbrev pub invariant-loop-index : goal.invariant-loop-index
invariant-loop-index l = l.records ≡ min (sum_by run_count (take l.index (own_runs l.self.layers))) 18446744073709551615
