-- What is so of every session, whether the host tells or not.
use Rattle.std.specs.Prelude.{◌≡◌, ◌≢◌, ◌≤◌, ◌⊎◌, ℕ, true, false, IsFalse, List, [], ◌∷◌, find, Option, Some}
use Rattle.std.specs.BTreeMap.{is_at}
use Rattle.std.specs.Map.{lookup}
use Rattle.std.specs.List.{AllByRecursion}
use Rattle.dfs_host.specs.Host.{HostState, Told}
use Rattle.dfs_registry.specs.declared.listed.Listed.{Listed}
use Rattle.dfs_registry.specs.Body.{greatest_job, has_name, lists_job}
use Rattle.dfs_registry.specs.Standing.{RegistryStands}
use Rattle.dfs_change.specs.declared.change.Change.{Change}
use Rattle.dfs_script.specs.declared.JobWord.{JobWord}
use Rattle.dfs_view.specs.Layers.{selected}
use Rattle.dfs_job.specs.declared.job.Job.{Job as LiveJob}
use Rattle.dfs_job.specs.Stands.{AreSettings, JobIsFit, StandsForOne}
use Rattle.dfs_session.specs.declared.keeping.Kept.{Kept}
use Rattle.dfs_session.specs.declared.session.Session.{Session as LiveSession}
use Rattle.dfs_session.specs.Kept.{EachBegun, IsIndexed, IsInside, IsOwn, begin_in}
use Rattle.dfs_session.specs.Session.{word_cmp}

-- the live jobs, in rising order of their words
abbrev pub jobs_of : LiveSession → List (JobWord × LiveJob)
jobs_of session = session.jobs.entries

-- the live job of a word
abbrev pub live_in : LiveSession → JobWord → Option LiveJob
live_in session word = lookup (is_at (word_cmp word)) (jobs_of session)

abbrev pub listed_in : LiveSession → List Listed
listed_in session = session.registry.entries

abbrev pub number_of : LiveJob → ℕ
number_of job = job.ids.job

-- the change set is that of a listed job
abbrev pub IsListed : List Listed → Change → Type 0
IsListed ls c = lists_job ls c.listed.job ≡ true

-- the change set is that of an entry of the registry, which is found by its name
abbrev pub IsEntry : List Listed → Change → Type 0
IsEntry ls c = find (has_name c.listed.name) ls ≡ Some c.listed

-- A live job has a number up to the greatest one and no log that is listed, and what it selected is listed.
pub record IsLive (greatest : ℕ) (listed : List Listed) (job : LiveJob) : Type 0 where
  pub fit : JobIsFit job
  pub numbered : number_of job ≤ greatest
  pub unlisted : lists_job listed (number_of job) ≡ false
  pub basis : AllByRecursion (IsListed listed) (selected job.layers)

-- The job's basis is what is kept of its begin, in the order of the names. Behind a plan over all it is empty.
abbrev pub HasItsBegin : Kept → LiveJob → Type 0
HasItsBegin kept job = (selected job.layers ≡ begin_in kept (number_of job)) ⊎ (selected job.layers ≡ [])

-- no two of the jobs have one number
abbrev pub AreApart : List (JobWord × LiveJob) → Type 0
AreApart [] = Unit {0}
AreApart (e ∷ es) = AllByRecursion (λ f. number_of e.1 ≢ number_of f.1) es × AreApart es

-- none of the jobs has the number
abbrev pub NoneHas : ℕ → List (JobWord × LiveJob) → Type 0
NoneHas number es = AllByRecursion (λ e. number_of e.1 ≢ number) es

-- What is so of a session in memory. A begin is kept only as long as its job lives.
pub record IsSoundInMemory (session : LiveSession) : Type 0 where
  pub live : IsFalse session.spent
  pub registry : IsFalse session.registry.spent
  pub settings : AreSettings session.settings
  pub greatest : session.greatest ≤ 4294967294
  pub listed : greatest_job (listed_in session) ≤ session.greatest
  pub jobs : AllByRecursion (λ e. IsLive session.greatest (listed_in session) e.1) (jobs_of session)
  pub apart : AreApart (jobs_of session)
  pub kept : IsIndexed session.kept
  pub entries : EachBegun (IsEntry (listed_in session)) session.kept
  pub inside : EachBegun IsInside session.kept
  pub basis : AllByRecursion (λ e. HasItsBegin session.kept e.1) (jobs_of session)
  pub ended : (job : ℕ) → NoneHas job (jobs_of session) → begin_in session.kept job ≡ []

-- a plain job that the live one stands for
abbrev pub PlainOf : HostState → JobWord × LiveJob → Type 0
PlainOf host e = StandsForOne host e.1

-- The same, and where the host tells its registry and its jobs stand on the host, and what is kept is opened there.
pub record IsSound (host : HostState) (session : LiveSession) : Type 0 where
  pub memory : IsSoundInMemory session
  pub registry : Told host (RegistryStands host session.registry)
  pub jobs : Told host (AllByRecursion (PlainOf host) (jobs_of session))
  pub kept : Told host (EachBegun (IsOwn host) session.kept)
