-- Where the tables lie that a live job reads.
use Rattle.std.specs.Prelude.{◌≡◌, ◌⊎◌, ℕ, List, [], map, Option, Some, None}
use Rattle.std.specs.List.{AllByRecursion, Contains}
use Rattle.dfs_table.specs.declared.run.Run.{Run}
use Rattle.dfs_view.specs.Layers.{own_runs, selected}
use Rattle.dfs_job.specs.declared.job.Job.{Job as LiveJob}
use Rattle.dfs_job.specs.declared.planning.UnderWay.{UnderWay}
use Rattle.dfs_session.specs.declared.keeping.Kept.{Kept}
use Rattle.dfs_session.specs.declared.session.Session.{Session as LiveSession}
use Rattle.dfs_session.specs.Kept.{begin_in}
use Rattle.dfs_session.specs.Sound.{IsSoundInMemory, jobs_of, number_of}

-- the job's own file, or that of a publication that its begin selected
abbrev pub IsFileOf : Kept → LiveJob → ℕ → Type 0
IsFileOf kept job file = (file ≡ number_of job) ⊎ Contains (map (λ c. c.listed.job) (begin_in kept (number_of job))) file

-- the tables of the runs lie in such files
abbrev pub LieInFilesOf : Kept → LiveJob → List Run → Type 0
LieInFilesOf kept job runs = AllByRecursion (λ r. AllByRecursion (λ t. IsFileOf kept job t.file) r.tables) runs

-- the runs that the plan under way merges
abbrev pub plan_sources : Option UnderWay → List Run
plan_sources None = []
plan_sources (Some u) = u.compaction.sources

-- Each change of the job's basis is one of those that are kept of its begin, and the tables of its basis, of its closed layers and of
-- the sources of its plan lie in its own file or in that of a name of its begin.
pub record IsPlaced (kept : Kept) (job : LiveJob) : Type 0 where
  pub kept_of_begin : AllByRecursion (Contains (begin_in kept (number_of job))) (selected job.layers)
  pub basis : LieInFilesOf kept job (map (λ c. c.run.value) (selected job.layers))
  pub layers : LieInFilesOf kept job (own_runs job.layers)
  pub sources : LieInFilesOf kept job (plan_sources job.plan)

-- so each live job of a session is, on every host
abbrev pub ArePlaced : Type 0
ArePlaced = (session : LiveSession) → IsSoundInMemory session → AllByRecursion (λ e. IsPlaced session.kept e.1) (jobs_of session)
