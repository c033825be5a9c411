-- What the working of a line does.
use Rattle.std.specs.Prelude.{◌≡◌, ◌≤◌, ◌<◌, ◌+◌, ◌⊎◌, ℕ, Bool, false, ◌||◌, nat_eq, nat_lt, IsTrue, List, [], length, map, Option, Some, None, Result, Ok, Err, OnOk, IfErr, IfOk, IsErrOf, IsSomeAnd}
use Rattle.std.specs.BTreeMap.{is_at}
use Rattle.std.specs.List.{AllByRecursion, list_all, list_any}
use Rattle.std.specs.Map.{lookup}
use Rattle.std.specs.Global.{Vec}
use Rattle.dfs_host.specs.Fault.{HasFaultCause}
use Rattle.dfs_host.specs.Host.{HostState, Told, LeavesOnly}
use Rattle.dfs_host.specs.declared.fault.Fault.{Fault}
use Rattle.dfs_host.specs.declared.fault.Fault.TheVariants.{LogFull, NoMemory}
use Rattle.dfs_reply.specs.declared.Reply.{Reply}
use Rattle.dfs_reply.specs.declared.Reply.TheVariants.{Nothing as NoReply, Ok as OkReply, Job as JobReply, Stat as StatReply, Listing as ListingReply, Snapshots as SnapshotsReply, Merged as MergedReply, Stats as StatsReply, Published as PublishedReply, Damaged as DamagedReply, Error}
use Rattle.dfs_reply.specs.declared.Word.TheVariants as word
use Rattle.dfs_reply.specs.Text.{text}
use Rattle.dfs_registry.specs.Reading.{Reading, listing, not_a_registry, damaged}
use Rattle.dfs_registry.specs.declared.listed.Listed.{Listed}
use Rattle.dfs_registry.specs.declared.fault.RegFault.{RegFault}
use Rattle.dfs_registry.specs.declared.fault.RegFault.TheVariants as reg
use Rattle.dfs_session.specs.declared.session.Session.{Session as LiveSession}
use Rattle.dfs_session.specs.Files.{value_on}
use Rattle.dfs_session.specs.Images.{HoldsEither}
use Rattle.dfs_record.specs.declared.SnapName.{SnapName}
use Rattle.dfs_record.specs.Delta.{Delta}
use Rattle.dfs_path.specs.declared.Op.{Op}
use Rattle.dfs_path.specs.declared.Scope.{Scope}
use Rattle.dfs_script.specs.declared.JobWord.{JobWord}
use Rattle.dfs_script.specs.declared.Line.{Line}
use Rattle.dfs_script.specs.declared.Line.TheVariants.{Nothing, Set, Snapshots, Begin, Space, Flush, Plan, Part, Stats, Publish, End}
use Rattle.dfs_script.specs.declared.LineFault.{LineFault}
use Rattle.dfs_script.specs.declared.Setting.{Setting}
use Rattle.dfs_script.specs.Line.{meaning}
use Rattle.dfs_job.specs.declared.settings.Settings.{Settings}
use Rattle.dfs_job.specs.declared.job.Job.{Job as LiveJob}
use Rattle.dfs_job.specs.Job.{Job, after, after_flush, after_plan, does, layer_changes, need}
use Rattle.dfs_job.specs.Stands.{Passes, PassesWith, flushed_firsts, merges_too_many, publishes_too_many}
use Rattle.dfs_session.specs.Selected.{is_selected}
use Rattle.dfs_session.specs.Session.{Session, Step, after_command, after_meaning, begins, begins_over, flushes, live_job, merges, of_job, operates_for, plans, publishes_anew, publishes_for, sets, with_setting, word_cmp}
use Rattle.dfs_session.specs.Kept.{begin_in}
use Rattle.dfs_session.specs.Sound.{IsSound, jobs_of, live_in, number_of}
use Rattle.dfs_session.specs.Stands.{Stands, LeavesValue}
use Rattle.dfs_session.specs.Writes.{OnlyThese}

-- the answer of an opening, by what the registry's file stands for
abbrev pub OpensAs : {T : Type 0} → Reading → Result T RegFault → Type 0
OpensAs reading (Ok _) = (ls : List Listed) × (reading ≡ listing ls)
OpensAs reading (Err reg.NotRegistry) = reading ≡ not_a_registry
OpensAs reading (Err (reg.Damaged place)) = reading ≡ damaged place
OpensAs reading (Err reg.NoMemory) = Unit {0}
OpensAs reading (Err reg.Disk) = Unit {0}

-- whether the log of a live job has refused a piece
abbrev pub has_refused : LiveSession → Bool
has_refused session = list_any (λ e. nat_lt 0 e.1.layers.log.refused) (jobs_of session)

-- whether there is a job that the test holds of
abbrev pub job_is : (LiveJob → Bool) → Option LiveJob → Bool
job_is test None = false
job_is test (Some job) = test job

-- a piece that the job's log refused did not fit into the bytes that the settings give it
abbrev pub IsPast : LiveJob → Type 0
IsPast job = 0 < job.layers.log.refused → job.settings.log_bytes < job.layers.log.len + job.layers.log.refused

-- whether the log of the job under the word has refused a piece
abbrev pub refused_of : List (JobWord × LiveJob) → JobWord → Bool
refused_of jobs w = job_is (λ j. nat_lt 0 j.layers.log.refused) (lookup (is_at (word_cmp w)) jobs)

-- `LogFull` where the log of the line's job refused a piece that did not fit, and else only where a run may need too many tables.
pub record IsFullWhere {T : Type 0} (result : Result T Fault) (logged many : Bool) (new : LiveSession) : Type 0 where
  pub only : IsErrOf result LogFull → IsTrue logged ⊎ IsTrue many
  pub past : AllByRecursion (λ e. IsPast e.1) (jobs_of new)
  pub refused : IsTrue (has_refused new) → IsErrOf result LogFull

-- the reply is that of a refused line, but for a damaged snapshot
abbrev pub IsError : Reply → Type 0
IsError NoReply = ⊥
IsError OkReply = ⊥
IsError (JobReply job) = ⊥
IsError (StatReply entry) = ⊥
IsError (ListingReply entries) = ⊥
IsError (SnapshotsReply snapshots) = ⊥
IsError MergedReply = ⊥
IsError (StatsReply runs records) = ⊥
IsError (PublishedReply name count) = ⊥
IsError (DamagedReply name) = ⊥
IsError (Error w) = Unit {0}

-- The line is refused by what the session has in memory. An operation is so only where its word names no job.
abbrev pub IsRefusedAtOnce : Line → Reply → Type 0
IsRefusedAtOnce Nothing reply = IsError reply
IsRefusedAtOnce (Set what value) reply = IsError reply
IsRefusedAtOnce Snapshots reply = IsError reply
IsRefusedAtOnce (Begin w names) reply = IsError reply
IsRefusedAtOnce (Space w op) reply = reply ≡ Error word.NoJob
IsRefusedAtOnce (Flush w) reply = IsError reply
IsRefusedAtOnce (Plan w scope parts) reply = IsError reply
IsRefusedAtOnce (Part w part) reply = IsError reply
IsRefusedAtOnce (Stats w) reply = IsError reply
IsRefusedAtOnce (Publish w name) reply = IsError reply
IsRefusedAtOnce (End w) reply = IsError reply

abbrev pub refused_at_once : Result Line LineFault → Reply → Type 0
refused_at_once (Ok line) reply = IsRefusedAtOnce line reply
refused_at_once (Err fault) reply = IsError reply

-- the reply of a line that is refused, also for a damaged snapshot
abbrev pub IsRefusal : Reply → Type 0
IsRefusal NoReply = ⊥
IsRefusal OkReply = ⊥
IsRefusal (JobReply job) = ⊥
IsRefusal (StatReply entry) = ⊥
IsRefusal (ListingReply entries) = ⊥
IsRefusal (SnapshotsReply snapshots) = ⊥
IsRefusal MergedReply = ⊥
IsRefusal (StatsReply runs records) = ⊥
IsRefusal (PublishedReply name count) = ⊥
IsRefusal (DamagedReply name) = Unit {0}
IsRefusal (Error w) = Unit {0}

-- the reply of an operation that makes no record: a refusal, an entry or a listing
abbrev pub IsSeen : Reply → Type 0
IsSeen NoReply = ⊥
IsSeen OkReply = ⊥
IsSeen (JobReply job) = ⊥
IsSeen (StatReply entry) = Unit {0}
IsSeen (ListingReply entries) = Unit {0}
IsSeen (SnapshotsReply snapshots) = ⊥
IsSeen MergedReply = ⊥
IsSeen (StatsReply runs records) = ⊥
IsSeen (PublishedReply name count) = ⊥
IsSeen (DamagedReply name) = ⊥
IsSeen (Error w) = Unit {0}

-- The line changes nothing: it is refused, or it only looks at what its job sees.
abbrev pub ChangesNone : Line → Reply → Type 0
ChangesNone Nothing reply = IsError reply
ChangesNone (Set what value) reply = IsError reply
ChangesNone Snapshots reply = IsError reply
ChangesNone (Begin w names) reply = IsRefusal reply
ChangesNone (Space w op) reply = IsSeen reply
ChangesNone (Flush w) reply = IsError reply
ChangesNone (Plan w scope parts) reply = IsError reply
ChangesNone (Part w part) reply = IsError reply
ChangesNone (Stats w) reply = IsError reply
ChangesNone (Publish w name) reply = IsError reply
ChangesNone (End w) reply = IsError reply

abbrev pub changes_none : Result Line LineFault → Reply → Type 0
changes_none (Ok line) reply = ChangesNone line reply
changes_none (Err fault) reply = IsError reply

-- The records of the operation fit into the open layer of its job, or a flush finds none there: no layer closes.
abbrev pub HasRoom : Session → Line → Type 0
HasRoom s Nothing = ⊥
HasRoom s (Set what value) = ⊥
HasRoom s Snapshots = ⊥
HasRoom s (Begin w names) = ⊥
HasRoom s (Space w op) = IsSomeAnd (live_job s w) (λ j. length j.layers.open_ + length (does j op).records < j.settings.buffer)
HasRoom s (Flush w) = IsSomeAnd (live_job s w) (λ j. j.layers.open_ ≡ [])
HasRoom s (Plan w scope parts) = ⊥
HasRoom s (Part w part) = ⊥
HasRoom s (Stats w) = ⊥
HasRoom s (Publish w name) = ⊥
HasRoom s (End w) = ⊥

abbrev pub has_room : Session → Result Line LineFault → Type 0
has_room s (Ok line) = HasRoom s line
has_room s (Err fault) = ⊥

-- what the line asks for is in the session
abbrev pub IsFromMemory : Line → Type 0
IsFromMemory Nothing = Unit {0}
IsFromMemory (Set what value) = Unit {0}
IsFromMemory Snapshots = Unit {0}
IsFromMemory (Begin w names) = ⊥
IsFromMemory (Space w op) = ⊥
IsFromMemory (Flush w) = ⊥
IsFromMemory (Plan w scope parts) = ⊥
IsFromMemory (Part w part) = ⊥
IsFromMemory (Stats w) = Unit {0}
IsFromMemory (Publish w name) = ⊥
IsFromMemory (End w) = Unit {0}

abbrev pub from_memory : Result Line LineFault → Type 0
from_memory (Ok line) = IsFromMemory line
from_memory (Err fault) = Unit {0}

-- no fault but want of memory came, and no call was made on the host
abbrev pub StaysInMemory : {T : Type 0} → Result T Fault → HostState → HostState → Type 0
StaysInMemory result before after = IfErr result (λ fault. fault ≡ NoMemory) × (after ≡ before)

-- ---- what a line works

-- What a line does, the job that it works, with what it makes of that job, what it leaves of the settings, the sessions of which it
-- reads nothing, the names that a job selects which it begins, and, of the session before it, which files it may write; whether the log
-- of the job refused a piece, whether the run that it merges may need too many tables; and, of the plain session and of the session
-- before and after it, whether that run would pass 131,072 tables.
pub record Work : Type 1 where
  pub step : Session → Step
  pub job : Session → Option Job
  pub settings : Settings → Settings
  pub quiet : LiveSession → Type 0
  pub names : Option (List SnapName)
  pub writes : LiveSession → ℕ → Bool
  pub log : List (JobWord × LiveJob) → Bool
  pub many : LiveSession → Bool
  pub passes : Session → LiveSession → Type 0

-- no file
abbrev pub none_written : ℕ → Bool
none_written n = false

-- the log of the next job
abbrev pub next_log : LiveSession → ℕ → Bool
next_log session n = nat_eq n (session.greatest + 1)

-- the log of the live job under the word
abbrev pub own_log : LiveSession → JobWord → ℕ → Bool
own_log session w n = job_is (λ j. nat_eq n (number_of j)) (live_in session w)

-- the same, and the registry
abbrev pub log_and_registry : LiveSession → JobWord → ℕ → Bool
log_and_registry session w n = nat_eq n 0 || own_log session w n

-- a line that no log is written for and that leaves the settings
abbrev pub plain : (Session → Step) → Work
plain does = record { step = does; job = λ s. None; settings = λ t. t; quiet = λ session. ⊥; names = None; writes = λ session. none_written; log = λ jobs. false; many = λ session. false; passes = λ s old. ⊥ }

-- each of the names stands in the begin of a live job
abbrev pub AreSelected : List SnapName → LiveSession → Type 0
AreSelected names session = IsTrue (list_all (is_selected session) names)

-- a begin reads nothing where each of its names was selected before
abbrev pub beginning : JobWord → List SnapName → Work
beginning w names = record (plain (λ s. begins s w names)) { quiet = λ session. AreSelected names session; names = Some names; writes = next_log }

-- the same over what was selected, which reads nothing
abbrev pub beginning_over : JobWord → List SnapName → List Delta → Work
beginning_over w names basis = record (plain (λ s. begins_over s w basis)) { quiet = λ session. Unit {0}; names = Some names; writes = next_log }

abbrev pub setting : Setting → ℕ → Work
setting what value = record (plain (λ s. sets s what value)) { settings = with_setting what value }

-- the job after an operation
abbrev pub with_op : Op → Option Job → Option Job
with_op op None = None
with_op op (Some j) = Some (after j (does j op))

abbrev pub operating : JobWord → Op → Work
operating w op = record (plain (λ s. operates_for s w op)) { job = λ s. with_op op (live_job s w); writes = λ session. own_log session w; log = λ jobs. refused_of jobs w }

abbrev pub flushing : JobWord → Work
flushing w = record (plain (λ s. flushes s w)) { job = λ s. live_job s w; writes = λ session. own_log session w; log = λ jobs. refused_of jobs w }

-- the job with a plan more
abbrev pub with_plan_made : Scope → Option ℕ → Option Job → Option Job
with_plan_made scope parts None = None
with_plan_made scope parts (Some j) = Some (after_plan j scope parts)

abbrev pub planning : JobWord → Scope → Option ℕ → Work
planning w scope parts = record (plain (λ s. plans s w scope parts)) { job = λ s. with_plan_made scope parts (live_job s w); writes = λ session. own_log session w; log = λ jobs. refused_of jobs w }

-- with this part the run of the job's plan would pass the most tables
abbrev pub PartPasses : Option LiveJob → Option Job → ℕ → Type 0
PartPasses None o part = ⊥
PartPasses (Some live) None part = ⊥
PartPasses (Some live) (Some j) part = PassesWith live.plan j.plan j part

abbrev pub merging : JobWord → ℕ → Work
merging w part = record (plain (λ s. merges s w part)) { job = λ s. live_job s w; writes = λ session. own_log session w; log = λ jobs. refused_of jobs w; many = λ session. job_is merges_too_many (live_in session w); passes = λ s old. PartPasses (live_in old w) (live_job s w) part }

-- the run of the job's layers, the open one closed, would pass the most tables
abbrev pub PublicationPasses : Option LiveJob → Option Job → Type 0
PublicationPasses None o = ⊥
PublicationPasses (Some live) None = ⊥
PublicationPasses (Some live) (Some j) = Passes (flushed_firsts live j) j.settings.parts (layer_changes (after_flush j))

-- the publication is not refused
abbrev pub NameIsFree : Session → JobWord → SnapName → Type 0
NameIsFree s w name = ¬ (IsError (publishes_for s w name).reply)

abbrev pub publishing : JobWord → SnapName → Work
publishing w name = record (plain (λ s. publishes_for s w name)) { job = λ s. live_job s w; writes = λ session. log_and_registry session w; log = λ jobs. refused_of jobs w; many = λ session. job_is publishes_too_many (live_in session w); passes = λ s old. NameIsFree s w name × PublicationPasses (live_in old w) (live_job s w) }

-- the same under a new name
abbrev pub publishing_anew : JobWord → SnapName → Work
publishing_anew w name = record (plain (λ s. of_job s w (λ j. publishes_anew s w j name))) { job = λ s. live_job s w; writes = λ session. log_and_registry session w; log = λ jobs. refused_of jobs w; many = λ session. job_is publishes_too_many (live_in session w); passes = λ s old. PublicationPasses (live_in old w) (live_job s w) }

-- the job that a command works
abbrev pub job_of : Session → Line → Option Job
job_of s Nothing = None
job_of s (Set what value) = None
job_of s Snapshots = None
job_of s (Begin w names) = None
job_of s (Space w op) = with_op op (live_job s w)
job_of s (Flush w) = live_job s w
job_of s (Plan w scope parts) = with_plan_made scope parts (live_job s w)
job_of s (Part w part) = live_job s w
job_of s (Stats w) = None
job_of s (Publish w name) = live_job s w
job_of s (End w) = None

-- the settings after a command
abbrev pub settings_of : Settings → Line → Settings
settings_of t Nothing = t
settings_of t (Set what value) = with_setting what value t
settings_of t Snapshots = t
settings_of t (Begin w names) = t
settings_of t (Space w op) = t
settings_of t (Flush w) = t
settings_of t (Plan w scope parts) = t
settings_of t (Part w part) = t
settings_of t (Stats w) = t
settings_of t (Publish w name) = t
settings_of t (End w) = t

-- the sessions of which a command reads nothing
abbrev pub IsQuiet : Line → LiveSession → Type 0
IsQuiet Nothing session = ⊥
IsQuiet (Set what value) session = ⊥
IsQuiet Snapshots session = ⊥
IsQuiet (Begin w names) session = AreSelected names session
IsQuiet (Space w op) session = ⊥
IsQuiet (Flush w) session = ⊥
IsQuiet (Plan w scope parts) session = ⊥
IsQuiet (Part w part) session = ⊥
IsQuiet (Stats w) session = ⊥
IsQuiet (Publish w name) session = ⊥
IsQuiet (End w) session = ⊥

-- the names that a job selects which a command begins
abbrev pub names_of : Line → Option (List SnapName)
names_of Nothing = None
names_of (Set what value) = None
names_of Snapshots = None
names_of (Begin w names) = Some names
names_of (Space w op) = None
names_of (Flush w) = None
names_of (Plan w scope parts) = None
names_of (Part w part) = None
names_of (Stats w) = None
names_of (Publish w name) = None
names_of (End w) = None

-- the files that a command may write
abbrev pub writes_of : Line → LiveSession → ℕ → Bool
writes_of Nothing session = none_written
writes_of (Set what value) session = none_written
writes_of Snapshots session = none_written
writes_of (Begin w names) session = next_log session
writes_of (Space w op) session = own_log session w
writes_of (Flush w) session = own_log session w
writes_of (Plan w scope parts) session = own_log session w
writes_of (Part w part) session = own_log session w
writes_of (Stats w) session = none_written
writes_of (Publish w name) session = log_and_registry session w
writes_of (End w) session = none_written

-- whether the log of the job that a command works refused a piece
abbrev pub log_of : Line → List (JobWord × LiveJob) → Bool
log_of Nothing jobs = false
log_of (Set what value) jobs = false
log_of Snapshots jobs = false
log_of (Begin w names) jobs = false
log_of (Space w op) jobs = refused_of jobs w
log_of (Flush w) jobs = refused_of jobs w
log_of (Plan w scope parts) jobs = refused_of jobs w
log_of (Part w part) jobs = refused_of jobs w
log_of (Stats w) jobs = false
log_of (Publish w name) jobs = refused_of jobs w
log_of (End w) jobs = false

-- whether the run that a command merges may need too many tables
abbrev pub many_of : Line → LiveSession → Bool
many_of Nothing session = false
many_of (Set what value) session = false
many_of Snapshots session = false
many_of (Begin w names) session = false
many_of (Space w op) session = false
many_of (Flush w) session = false
many_of (Plan w scope parts) session = false
many_of (Part w part) session = job_is merges_too_many (live_in session w)
many_of (Stats w) session = false
many_of (Publish w name) session = job_is publishes_too_many (live_in session w)
many_of (End w) session = false

-- whether the run that a command merges would pass the most tables
abbrev pub passes_of : Line → Session → LiveSession → Type 0
passes_of Nothing s old = ⊥
passes_of (Set what value) s old = ⊥
passes_of Snapshots s old = ⊥
passes_of (Begin w names) s old = ⊥
passes_of (Space w op) s old = ⊥
passes_of (Flush w) s old = ⊥
passes_of (Plan w scope parts) s old = ⊥
passes_of (Part w part) s old = PartPasses (live_in old w) (live_job s w) part
passes_of (Stats w) s old = ⊥
passes_of (Publish w name) s old = NameIsFree s w name × PublicationPasses (live_in old w) (live_job s w)
passes_of (End w) s old = ⊥

abbrev pub of_command : Line → Work
of_command line = record { step = λ s. after_command s line; job = λ s. job_of s line; settings = λ t. settings_of t line; quiet = λ session. IsQuiet line session; names = names_of line; writes = writes_of line; log = λ jobs. log_of line jobs; many = λ session. many_of line session; passes = λ s old. passes_of line s old }

-- the job that a line works, with what it makes of that job
abbrev pub job_by : Session → Result Line LineFault → Option Job
job_by s (Ok line) = job_of s line
job_by s (Err fault) = None

-- what a line leaves of the settings
abbrev pub settings_by : Settings → Result Line LineFault → Settings
settings_by t (Ok line) = settings_of t line
settings_by t (Err fault) = t

abbrev pub quiet_by : Result Line LineFault → LiveSession → Type 0
quiet_by (Ok line) session = IsQuiet line session
quiet_by (Err fault) session = ⊥

abbrev pub names_by : Result Line LineFault → Option (List SnapName)
names_by (Ok line) = names_of line
names_by (Err fault) = None

abbrev pub writes_by : Result Line LineFault → LiveSession → ℕ → Bool
writes_by (Ok line) session = writes_of line session
writes_by (Err fault) session = none_written

abbrev pub log_by : Result Line LineFault → List (JobWord × LiveJob) → Bool
log_by (Ok line) jobs = log_of line jobs
log_by (Err fault) jobs = false

abbrev pub many_by : Result Line LineFault → LiveSession → Bool
many_by (Ok line) session = many_of line session
many_by (Err fault) session = false

abbrev pub passes_by : Result Line LineFault → Session → LiveSession → Type 0
passes_by (Ok line) s old = passes_of line s old
passes_by (Err fault) s old = ⊥

abbrev pub of_meaning : Result Line LineFault → Work
of_meaning line = record { step = λ s. after_meaning s line; job = λ s. job_by s line; settings = λ t. settings_by t line; quiet = λ session. quiet_by line session; names = names_by line; writes = writes_by line; log = λ jobs. log_by line jobs; many = λ session. many_by line session; passes = λ s old. passes_by line s old }

abbrev pub of_line : List ℕ → Work
of_line line = of_meaning (meaning line)

-- the job's log may have fewer bytes than it may need
abbrev pub IsShort : Option Job → Type 0
IsShort None = ⊥
IsShort (Some j) = j.settings.log_bytes < need j

-- the names that a job's begin selected
abbrev pub selected_names : LiveSession → LiveJob → List SnapName
selected_names session job = map (λ c. c.listed.name) (begin_in session.kept (number_of job))

-- A job that lived before keeps the names of its begin, and one that was begun has these.
pub record HasNames (names : Option (List SnapName)) (old new : LiveSession) (job : LiveJob) : Type 0 where
  pub stay : number_of job ≤ old.greatest → selected_names new job ≡ selected_names old job
  pub begun : old.greatest < number_of job → names ≡ Some (selected_names new job)

abbrev pub AreNamed : Option (List SnapName) → LiveSession → LiveSession → Type 0
AreNamed names old new = AllByRecursion (λ e. HasNames names old new e.1) (jobs_of new)

-- The session worked as a line says, on every host on which it stood and for every session for which it stood there.
pub record IsWorked (work : Work) (before now : HostState) (old new : LiveSession) (result : Result (Vec ℕ) Fault) : Type 0 where
  pub sound : OnOk result (IsSound now new)
  pub settings : OnOk result (new.settings ≡ work.settings old.settings)
  pub reply : (s : Session) → Told before (Stands before old s → IfOk result (λ bytes. bytes.items ≡ text (work.step s).reply))
  pub stands : (s : Session) → Told before (Stands before old s → OnOk result (Stands now new (work.step s).session))
  pub value : (s : Session) → Told before (Stands before old s → LeavesValue result s.registry (work.step s).session.registry (value_on now))
  pub images : (s : Session) → Told before (Stands before old s → LeavesOnly (HoldsEither s.registry (work.step s).session.registry) before now)
  pub writes : OnlyThese (work.writes old) before now
  pub cause : HasFaultCause before now result
  pub full : IsFullWhere result (work.log (jobs_of new)) (work.many old) new
  pub passes : (s : Session) → Told before (Stands before old s → IsErrOf result LogFull → IsTrue (work.log (jobs_of new)) ⊎ work.passes s old)
  pub short : (s : Session) → Told before (Stands before old s → IsErrOf result LogFull → IsShort (work.job s))
  pub reads : work.quiet old → OnOk result (now.reads ≡ before.reads)
  pub names : OnOk result (AreNamed work.names old new)

-- the same of a line that no call on the host was made for
abbrev pub IsWorkedInMemory : Work → LiveSession → LiveSession → Result (Vec ℕ) Fault → Type 0
IsWorkedInMemory work old new result = (host : HostState) → IsSound host old → IsWorked work host host old new result
