-- A session, and what one line of a script does to it.
use Rattle.std.specs.Prelude.{ℕ, ◌+◌, Bool, not, ◌||◌, nat_le, if◌then◌else◌, List, [], ◌∷◌, ◌++◌, length, map, max, find, filter_map, is_some, Option, Some, None, Ok, Err, Result}
use Rattle.std.specs.List.{list_all}
use Rattle.std.specs.Str.{bytes_eq}
use Rattle.std.specs.Ordering.{nat_cmp}
use Rattle.std.specs.declared.cmp.Ordering.{Ordering}
use Rattle.std.specs.Cmp.Lexicographic.{slice_cmp}
use Rattle.std.specs.Map.{lookup, set_value, remove_entry}
use Rattle.std.specs.BTreeMap.{insert_entry, is_at}
use Rattle.dfs_record.specs.declared.SnapName.{SnapName}
use Rattle.dfs_record.specs.KeyMap.{len}
use Rattle.dfs_record.specs.Delta.{Delta}
use Rattle.dfs_path.specs.declared.Op.{Op}
use Rattle.dfs_path.specs.declared.Scope.{Scope}
use Rattle.dfs_ops.specs.declared.OpReply.{OpReply}
use Rattle.dfs_ops.specs.declared.OpReply.TheVariants.{Done as OpDone, Entry as OpEntry, Listing as OpListing, Root as OpRoot, NoEnt as OpNoEnt, NotDir as OpNotDir, IsDir as OpIsDir, Exists as OpExists, NotEmpty as OpNotEmpty, Inside as OpInside, Full as OpFull}
use Rattle.dfs_ops.specs.Op.{Outcome}
use Rattle.dfs_script.specs.declared.JobWord.{JobWord}
use Rattle.dfs_script.specs.declared.Line.{Line}
use Rattle.dfs_script.specs.declared.Line.TheVariants.{Nothing, Set, Snapshots, Begin, Space, Flush, Plan, Part, Stats, Publish, End}
use Rattle.dfs_script.specs.declared.Setting.{Setting}
use Rattle.dfs_script.specs.declared.Setting.TheVariants as setting
use Rattle.dfs_script.specs.declared.LineFault.{LineFault}
use Rattle.dfs_script.specs.declared.LineFault.TheVariants.{Long, Syntax, NoMemory}
use Rattle.dfs_script.specs.Line.{meaning}
use Rattle.dfs_reply.specs.declared.Reply.{Reply}
use Rattle.dfs_reply.specs.declared.Reply.TheVariants.{Nothing as NoReply, Ok as OkReply, Job as JobReply, Stat as StatReply, Listing as ListingReply, Snapshots as SnapshotsReply, Merged as MergedReply, Stats as StatsReply, Published as PublishedReply, Damaged as DamagedReply, Error}
use Rattle.dfs_reply.specs.declared.Word.{Word}
use Rattle.dfs_reply.specs.declared.Word.TheVariants as word
use Rattle.dfs_job.specs.declared.settings.Settings.{Settings}
use Rattle.dfs_job.specs.declared.answers.Planned.{Planned}
use Rattle.dfs_job.specs.declared.answers.Planned.TheVariants as planned
use Rattle.dfs_job.specs.declared.answers.JobPart.{JobPart}
use Rattle.dfs_job.specs.declared.answers.JobPart.TheVariants as parted
use Rattle.dfs_job.specs.Job.{Job, begun, does, after, after_flush, after_part, after_plan, key_count, own_changes, part_answer, plan_answer, run_count}

-- A publication: its name, its job, and its change set, or None where its log is damaged.
pub record Publication : Type 0 where
  pub name : SnapName
  pub job : ℕ
  pub change : Option Delta

abbrev pub Registry : Type 0
Registry = List Publication

-- the live jobs by their words, in rising order of the words
abbrev pub LiveJobs : Type 0
LiveJobs = List (JobWord × Job)

pub record Session : Type 0 where
  pub registry : Registry
  pub settings : Settings
  -- the greatest number of a job in the registry or begun in this run
  pub greatest : ℕ
  pub jobs : LiveJobs

-- a session after a line, and the reply
pub record Step : Type 0 where
  pub session : Session
  pub reply : Reply

abbrev pub default_settings : Settings
default_settings = record { buffer = 1024; cache = 1024; parts = 4; log_bytes = 1099511627776 }

-- the settings with another value of one
abbrev pub with_setting : Setting → ℕ → Settings → Settings
with_setting setting.Buffer value t = record t { buffer = value }
with_setting setting.Cache value t = record t { cache = value }
with_setting setting.Parts value t = record t { parts = value }
with_setting setting.LogBytes value t = record t { log_bytes = value }

-- the greatest job of a publication, and 0 where there is none
abbrev pub greatest_published : Registry → ℕ
greatest_published [] = 0
greatest_published (p ∷ ps) = max p.job (greatest_published ps)

-- a session without jobs
abbrev pub opened_with : Settings → Registry → Session
opened_with settings registry = record { registry = registry; settings = settings; greatest = greatest_published registry; jobs = [] }

-- a session as a run begins it
abbrev pub opened : Registry → Session
opened registry = opened_with default_settings registry

abbrev pub word_cmp : JobWord → JobWord → Ordering
word_cmp = slice_cmp nat_cmp

abbrev pub live_job : Session → JobWord → Option Job
live_job s w = lookup (is_at (word_cmp w)) s.jobs

-- with another state of a live job
abbrev pub with_job : Session → JobWord → Job → Session
with_job s w j = record s { jobs = set_value (is_at (word_cmp w)) s.jobs j }

-- with a job more
abbrev pub with_new_job : Session → JobWord → Job → Session
with_new_job s w j = record s { jobs = insert_entry word_cmp s.jobs w j }

abbrev pub without_job : Session → JobWord → Session
without_job s w = record s { jobs = remove_entry (is_at (word_cmp w)) s.jobs }

abbrev pub stays : Session → Reply → Step
stays s reply = record { session = s; reply = reply }

abbrev pub refused : Session → Word → Step
refused s w = stays s (Error w)

-- the publication of a name
abbrev pub published_as : Registry → SnapName → Option Publication
published_as registry name = find (λ p. bytes_eq name p.name) registry

abbrev pub is_published : Registry → SnapName → Bool
is_published registry name = is_some (published_as registry name)

abbrev pub is_damaged : Publication → Bool
is_damaged p = not (is_some p.change)

-- the publications of the names, in the order of the names
abbrev pub chosen : Registry → List SnapName → List Publication
chosen registry names = filter_map (published_as registry) names

-- the change sets of publications
abbrev pub changes_of : List Publication → List Delta
changes_of publications = filter_map (λ p. p.change) publications

-- a new job, with the next number
abbrev pub begins_over : Session → JobWord → List Delta → Step
begins_over s w basis =
    let number = s.greatest + 1 in
    record { session = with_new_job (record s { greatest = number }) w (begun number basis s.settings); reply = JobReply number }

-- the first publication that is damaged refuses a begin
abbrev pub begins_unless : Option Publication → Session → JobWord → List Publication → Step
begins_unless None s w publications = begins_over s w (changes_of publications)
begins_unless (Some p) s w publications = stays s (DamagedReply p.name)

abbrev pub begins_with : Session → JobWord → List Publication → Step
begins_with s w publications = begins_unless (find is_damaged publications) s w publications

-- whether no job can be begun: 64 are live, or the last number is taken
abbrev pub is_full : Session → Bool
is_full s = nat_le 64 (length s.jobs) || nat_le 4294967294 s.greatest

abbrev pub begins : Session → JobWord → List SnapName → Step
begins s w names =
    if is_some (live_job s w) then refused s word.LiveJob
    else (if is_full s then refused s word.Full
    else (if list_all (is_published s.registry) names then begins_with s w (chosen s.registry names)
    else refused s word.NoSnap))

-- the reply that tells an answer
abbrev pub told : OpReply → Reply
told OpDone = OkReply
told (OpEntry entry) = StatReply entry
told (OpListing entries) = ListingReply entries
told OpRoot = Error word.Root
told OpNoEnt = Error word.NoEnt
told OpNotDir = Error word.NotDir
told OpIsDir = Error word.IsDir
told OpExists = Error word.Exists
told OpNotEmpty = Error word.NotEmpty
told OpInside = Error word.Inside
told OpFull = Error word.Full

abbrev pub operates : Session → JobWord → Job → Outcome → Step
operates s w j o = record { session = with_job s w (after j o); reply = told o.answer }

-- the reply that tells what became of a plan, and of a part
abbrev pub told_of_plan : Planned → Reply
told_of_plan planned.Made = OkReply
told_of_plan planned.Busy = Error word.Busy
told_of_plan planned.Full = Error word.Full

abbrev pub told_of_part : JobPart → Reply
told_of_part parted.Merged = OkReply
told_of_part parted.Last = MergedReply
told_of_part parted.NoPlan = Error word.NoPlan
told_of_part parted.Range = Error word.Range
told_of_part parted.Done = Error word.Done

abbrev pub plans_with : Session → JobWord → Job → Scope → Option ℕ → Step
plans_with s w j scope parts = record { session = with_job s w (after_plan j scope parts); reply = told_of_plan (plan_answer j) }

abbrev pub merges_with : Session → JobWord → Job → ℕ → Step
merges_with s w j part = record { session = with_job s w (after_part j part); reply = told_of_part (part_answer j part) }

abbrev pub publication_by : Job → SnapName → Publication
publication_by j name = record { name = name; job = j.ids.job; change = Some (own_changes j) }

-- the job's change set joins the registry, and the job ends
abbrev pub publishes_anew : Session → JobWord → Job → SnapName → Step
publishes_anew s w j name = record {
  session = record (without_job s w) { registry = s.registry ++ publication_by j name ∷ [] };
  reply = PublishedReply name (len (own_changes j));
}

abbrev pub publishes : Session → JobWord → Job → SnapName → Step
publishes s w j name =
    if is_published s.registry name then refused s word.Taken
    else (if nat_le 4096 (length s.registry) then refused s word.Full
    else publishes_anew s w j name)

abbrev pub of_live : Option Job → Session → (Job → Step) → Step
of_live None s f = refused s word.NoJob
of_live (Some j) s f = f j

-- with the live job of a word
abbrev pub of_job : Session → JobWord → (Job → Step) → Step
of_job s w f = of_live (live_job s w) s f

-- the commands of a job

abbrev pub operates_for : Session → JobWord → Op → Step
operates_for s w op = of_job s w (λ j. operates s w j (does j op))

abbrev pub flushes : Session → JobWord → Step
flushes s w = of_job s w (λ j. record { session = with_job s w (after_flush j); reply = OkReply })

abbrev pub plans : Session → JobWord → Scope → Option ℕ → Step
plans s w scope parts = of_job s w (λ j. plans_with s w j scope parts)

abbrev pub merges : Session → JobWord → ℕ → Step
merges s w part = of_job s w (λ j. merges_with s w j part)

abbrev pub tells_stats : Session → JobWord → Step
tells_stats s w = of_job s w (λ j. stays s (StatsReply (run_count j) (key_count j)))

abbrev pub publishes_for : Session → JobWord → SnapName → Step
publishes_for s w name = of_job s w (λ j. publishes s w j name)

abbrev pub ends : Session → JobWord → Step
ends s w = of_job s w (λ j. record { session = without_job s w; reply = OkReply })

abbrev pub tells_snapshots : Session → Step
tells_snapshots s = stays s (SnapshotsReply (map (λ p. (p.name, p.job)) s.registry))

-- jobs that begin later are given another value
abbrev pub sets : Session → Setting → ℕ → Step
sets s what value = record { session = record s { settings = with_setting what value s.settings }; reply = OkReply }

-- what a command does
abbrev pub after_command : Session → Line → Step
after_command s Nothing = stays s NoReply
after_command s (Set what value) = sets s what value
after_command s Snapshots = tells_snapshots s
after_command s (Begin w names) = begins s w names
after_command s (Space w op) = operates_for s w op
after_command s (Flush w) = flushes s w
after_command s (Plan w scope parts) = plans s w scope parts
after_command s (Part w part) = merges s w part
after_command s (Stats w) = tells_stats s w
after_command s (Publish w name) = publishes_for s w name
after_command s (End w) = ends s w

abbrev pub after_meaning : Session → Result Line LineFault → Step
after_meaning s (Ok line) = after_command s line
after_meaning s (Err Long) = refused s word.Long
after_meaning s (Err Syntax) = refused s word.Syntax
after_meaning s (Err NoMemory) = refused s word.Syntax

-- what a line does
abbrev pub step : Session → List ℕ → Step
step s line = after_meaning s (meaning line)
