-- What is kept of the begins of live jobs.
use Rattle.std.specs.Prelude.{◌≡◌, ◌≤◌, ℕ, List, [], map, Option, Some, None, IsSome, IfSome, option_map}
use Rattle.std.specs.BTreeMap.{get}
use Rattle.std.specs.List.{AllByRecursion, Contains}
use Rattle.std.specs.Ordering.{nat_cmp, ordering_then}
use Rattle.std.specs.declared.cmp.Ordering.{Ordering}
use Rattle.dfs_host.specs.Host.{HostState, bytes_of}
use Rattle.dfs_record.specs.Delta.{Delta}
use Rattle.dfs_registry.specs.declared.listed.Listed.{Listed}
use Rattle.dfs_change.specs.declared.change.Change.{Change}
use Rattle.dfs_change.specs.Meant.{log_meaning}
use Rattle.dfs_table.specs.Writer.{AreIn}
use Rattle.dfs_job.specs.Stands.{IsSelectable, IsStoredFor}
use Rattle.dfs_session.specs.declared.keeping.Kept.{Kept}
use Rattle.dfs_session.specs.declared.keeping.Use.{Use}

abbrev pub use_cmp : Use → Use → Ordering
use_cmp a b = ordering_then (nat_cmp a.change b.change) (nat_cmp a.job b.job)

-- the use of a change by a job
abbrev pub use_of : ℕ → Change → Use
use_of job c = record { change = c.listed.job; job = job }

-- the change that is kept for a use
abbrev pub kept_at : Kept → Use → Option Change
kept_at kept u = option_map (λ c. c.value) (get use_cmp kept.uses u)

abbrev pub or_nothing : Option (List Change) → List Change
or_nothing None = []
or_nothing (Some cs) = cs

-- the changes that a job's begin selected, in the order of its names
abbrev pub begin_in : Kept → ℕ → List Change
begin_in kept job = or_nothing (option_map (λ cs. map (λ c. c.value) cs.items) (get nat_cmp kept.begins job))

abbrev pub EachBegun : (Change → Type 0) → Kept → Type 0
EachBegun P kept = (job : ℕ) → AllByRecursion P (begin_in kept job)

-- a change is kept of the publication that the job made
abbrev pub IsKept : Kept → ℕ → Type 0
IsKept kept made = (user : ℕ) × (user ≤ 4294967295) × IsSome (kept_at kept (record { change = made; job = user }))

-- A change that is kept for a use is one of the begin of its job, and each change of a begin is kept.
pub record IsIndexed (kept : Kept) : Type 0 where
  pub begun : (u : Use) → IfSome (kept_at kept u) (λ c. (u.change ≡ c.listed.job) × Contains (begin_in kept u.job) c)
  pub each : (job : ℕ) → AllByRecursion (λ c. IsSome (kept_at kept (use_of job c))) (begin_in kept job)

-- its tables lie in the file of the job that made it
abbrev pub IsInside : Change → Type 0
IsInside c = AreIn c.listed.job c.run.value.tables

-- An opened change set: it is stored for what the log of the entry means, and may be selected.
pub record IsOpened (host : HostState) (l : Listed) (c : Change) : Type 0 where
  pub changes : Delta
  pub meant : log_meaning (bytes_of host l.job) l ≡ Some changes
  pub stored : IsStoredFor host c changes
  pub selectable : IsSelectable host c

-- it is opened for its own entry
abbrev pub IsOwn : HostState → Change → Type 0
IsOwn host c = IsOpened host c.listed c
