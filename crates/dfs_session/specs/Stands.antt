-- What a session in memory and the files of a host stand for.
use Rattle.std.specs.Prelude.{◌≡◌, Option, Some, Result, Ok, Err}
use Rattle.std.specs.List.{AllByRecursion, AllZip}
use Rattle.dfs_host.specs.Disk.{IsSettled}
use Rattle.dfs_host.specs.Host.{HostState, bytes_of}
use Rattle.dfs_host.specs.declared.fault.Fault.{Fault}
use Rattle.dfs_host.specs.declared.fault.Fault.TheVariants as fault
use Rattle.dfs_registry.specs.declared.listed.Listed.{Listed}
use Rattle.dfs_script.specs.declared.JobWord.{JobWord}
use Rattle.dfs_job.specs.declared.job.Job.{Job as LiveJob}
use Rattle.dfs_job.specs.Job.{Job}
use Rattle.dfs_job.specs.Stands.{JobStands}
use Rattle.dfs_session.specs.declared.session.Session.{Session as LiveSession}
use Rattle.dfs_session.specs.Files.{publications_of}
use Rattle.dfs_session.specs.Session.{Session, Registry}
use Rattle.dfs_session.specs.Sound.{jobs_of, listed_in}

-- a live job stands for the plain one under the same word
pub record EntryStands (host : HostState) (e : JobWord × LiveJob) (f : JobWord × Job) : Type 0 where
  pub word : f.0 ≡ e.0
  pub job : JobStands host e.1 f.1

abbrev pub LogIsSettled : HostState → Listed → Type 0
LogIsSettled host l = IsSettled (host.disk.files l.job)

-- The listed logs are settled and mean what the session has, and each live job stands for its job.
pub record Stands (host : HostState) (session : LiveSession) (s : Session) : Type 0 where
  pub registry : s.registry ≡ publications_of (bytes_of host) (listed_in session)
  pub settled : AllByRecursion (LogIsSettled host) (listed_in session)
  pub jobs : AllZip (EntryStands host) (jobs_of session) s.jobs
  pub greatest : s.greatest ≡ session.greatest
  pub settings : s.settings ≡ session.settings

-- What the files stand for after a line: with a reply the registry after it; want of memory, a full log and a changed block leave
-- the one before it; of a disk fault nothing is said.
abbrev pub LeavesValue : {T : Type 0} → Result T Fault → Registry → Registry → Option Registry → Type 0
LeavesValue (Ok _) before after files = files ≡ Some after
LeavesValue (Err fault.Disk) before after files = Unit {0}
LeavesValue (Err fault.NoMemory) before after files = files ≡ Some before
LeavesValue (Err fault.LogFull) before after files = files ≡ Some before
LeavesValue (Err (fault.Changed file at)) before after files = files ≡ Some before
