-- Lines that leave the session, and the causes of their answers.
use Rattle.std.proofs.Common.{◌≡◌, ◌≢◌, ◌∙◌, ℕ, false, List, [], map, Option, Some, Result, Ok, Err, refl, sym, ap, subst, arith}
use Rattle.std.specs.Prelude.{IsTrue, IsErrOf, IfOk, IfErr, OnOk}
use Rattle.std.specs.BTreeMap.{BTreeMap}
use Rattle.std.specs.Global.{Vec}
use Rattle.std.specs.List.{AllByRecursion, AllZip}
use Rattle.dfs_host.specs.Fault.{HasFaultCause, NoFault}
use Rattle.dfs_host.specs.Host.{HostState, LeavesOnly, OnlyReads}
use Rattle.dfs_host.specs.declared.fault.Fault.{Fault}
use Rattle.dfs_host.specs.declared.fault.Fault.TheVariants.{NoMemory, Disk, LogFull, Changed}
use Rattle.dfs_host.proofs.Causes.{none_yet}
use Rattle.dfs_host.proofs.Moments.{reads_nothing}
use Rattle.dfs_reply.specs.declared.Reply.{Reply}
use Rattle.dfs_reply.specs.Text.{text}
use Rattle.dfs_script.specs.declared.JobWord.{JobWord}
use Rattle.dfs_job.specs.declared.job.Job.{Job as LiveJob}
use Rattle.dfs_session.specs.declared.keeping.Kept.{Kept}
use Rattle.dfs_session.specs.declared.session.Session.{Session as LiveSession}
use Rattle.dfs_session.specs.Files.{value_on}
use Rattle.dfs_session.specs.Images.{HoldsEither}
use Rattle.dfs_session.specs.Kept.{begin_in}
use Rattle.dfs_session.specs.Session.{Session, Step, Registry, stays}
use Rattle.dfs_session.specs.Sound.{HasItsBegin, IsSound, IsSoundInMemory, IsLive, AreApart, NoneHas, PlainOf, jobs_of, listed_in, number_of}
use Rattle.dfs_session.specs.Stands.{EntryStands, Stands, LeavesValue}
use Rattle.dfs_session.specs.Worked.{AreNamed, HasNames, IsWorked, Work, has_refused}
use Rattle.dfs_session.specs.Writes.{OnlyThese}
use Rattle.dfs_record.specs.declared.SnapName.{SnapName}
use Rattle.dfs_session.proofs.Begun.{HasEnded, both_mapped}
use Rattle.dfs_session.proofs.Lists.{mapped}
use Rattle.dfs_session.proofs.Values.{stands_value}
use Rattle.dfs_session.proofs.Images.{read_images}
use Rattle.dfs_session.proofs.Jobs.{Live}
use Rattle.dfs_session.proofs.Faults.{sound_refused, full_by}
use Rattle.dfs_session.proofs.Kept.{sound_reads, stands_read}
use Rattle.dfs_session.proofs.Writing.{reads_these}

abbrev IsMemory : Fault → Type 0
IsMemory NoMemory = Unit {0}
IsMemory Disk = ⊥
IsMemory LogFull = ⊥
IsMemory (Changed file at) = ⊥

-- an answer that is want of memory, where it is a fault
abbrev pub OnlyMemory : {T : Type 0} → Result T Fault → Type 0
OnlyMemory result = IfErr result (λ fault. fault ≡ NoMemory)

it_is_memory : {T : Type 0} (result : Result T Fault) (fault : Fault) → OnlyMemory result → IsErrOf result fault → IsMemory fault
it_is_memory result fault memory is = subst IsMemory (sym (subst (λ (r : Result _ Fault). OnlyMemory r) is memory)) tt

pub memory_cause : {T : Type 0} (result : Result T Fault) {before after : HostState} → NoFault before after → OnlyMemory result → HasFaultCause before after result
memory_cause result none memory = record {
  tells = none.tells;
  later = none.later;
  faults_later = omega (arith, none.disk_faults);
  disk = λ is. absurd (it_is_memory result Disk memory is);
  other = λ other. none.disk_faults;
  reads_later = none.reads_later;
  changed = λ file at is. absurd (it_is_memory result (Changed file at) memory is);
  never_changed = λ tells file at is. it_is_memory result (Changed file at) memory is;
  say_faults = none.say_faults;
}

pub on_ok_by : {T : Type 0} (result : Result T Fault) (P Q : Type 0) → (P → Q) → OnOk result P → OnOk result Q
on_ok_by (Ok x) P Q f p = f p
on_ok_by (Err fault) P Q f p = tt

pub on_ok : {T : Type 0} (result : Result T Fault) (P : Type 0) → P → OnOk result P
on_ok (Ok x) P p = p
on_ok (Err fault) P p = tt

-- want of memory leaves what the files stood for
pub leaves_value : {T : Type 0} (result : Result T Fault) (before after : Registry) (files : Option Registry) → OnlyMemory result → OnOk result (files ≡ Some after) → files ≡ Some before → LeavesValue result before after files
leaves_value (Ok x) before after files memory ok same = ok
leaves_value (Err NoMemory) before after files memory ok same = same
leaves_value (Err Disk) before after files memory ok same = tt
leaves_value (Err LogFull) before after files memory ok same = same
leaves_value (Err (Changed file at)) before after files memory ok same = same

-- A line that leaves the registry, and meets no fault but want of memory.
pub worked_by_memory : (before after : HostState) (old new : LiveSession) (work : Work) (result : Result (Vec ℕ) Fault) → OnlyMemory result → OnlyThese (work.writes old) before after → NoFault before after
    → has_refused new ≡ false → new.settings ≡ work.settings old.settings → OnOk result (IsSound after new)
    → ((s : Session) → IsTrue before.tells → Stands before old s → IfOk result (λ bytes. bytes.items ≡ text (work.step s).reply))
    → ((s : Session) → IsTrue before.tells → Stands before old s → OnOk result (Stands after new (work.step s).session))
    → ((s : Session) → IsTrue before.tells → Stands before old s → value_on after ≡ Some s.registry)
    → ((s : Session) → IsTrue before.tells → Stands before old s → (work.step s).session.registry ≡ s.registry)
    → ((s : Session) → IsTrue before.tells → Stands before old s → LeavesOnly (HoldsEither s.registry (work.step s).session.registry) before after)
    → (work.quiet old → OnOk result (after.reads ≡ before.reads)) → OnOk result (AreNamed work.names old new) → IsWorked work before after old new result
worked_by_memory before after old new work result memory writes none refused settings sound reply stands value same images reads names = record {
  sound = sound;
  settings = on_ok result (new.settings ≡ work.settings old.settings) settings;
  reply = reply;
  stands = stands;
  value = λ s tells stood.
      let is = value s tells stood in
      leaves_value result s.registry (work.step s).session.registry (value_on after) memory (on_ok result (value_on after ≡ Some (work.step s).session.registry) (is ∙ ap Some (sym (same s tells stood)))) is;
  images = images;
  writes = writes;
  cause = memory_cause result none memory;
  full = full_by result (work.many old) new (λ is_full. it_is_memory result LogFull memory is_full) refused;
  passes = λ s tells stood is_full. absurd (it_is_memory result LogFull memory is_full);
  short = λ s tells stood is_full. absurd (it_is_memory result LogFull memory is_full);
  reads = reads;
  names = names;
}

-- where what is kept stays, so do the names
pub same_names : (old new : LiveSession) (names : Option (List SnapName)) → new.greatest ≡ old.greatest → new.kept ≡ old.kept → IsSoundInMemory new → AreNamed names old new
same_names old new names greatest same sound =
    mapped (λ e. IsLive new.greatest (listed_in new) e.1) (λ e. HasNames names old new e.1) (jobs_of new)
    (λ e live. record { stay = λ was. ap (λ (kept : Kept). map (λ c. c.listed.name) (begin_in kept (number_of e.1))) same; begun = λ below. absurd (omega (arith, below, live.numbered, greatest)) }) sound.jobs

-- where a job ended, the names of the others stay
pub ended_names : (old new : LiveSession) (names : Option (List SnapName)) (job : ℕ) → new.greatest ≡ old.greatest → HasEnded old.kept new.kept job → AllByRecursion (λ e. job ≢ number_of e.1) (jobs_of new) → IsSoundInMemory new → AreNamed names old new
ended_names old new names job greatest ended apart sound =
    both_mapped (λ e. IsLive new.greatest (listed_in new) e.1) (λ e. job ≢ number_of e.1) (λ e. HasNames names old new e.1) (jobs_of new)
    (λ e live other. record { stay = λ was. ap (map (λ c. c.listed.name)) (ended.others (number_of e.1) (λ is. other (sym is))); begun = λ below. absurd (omega (arith, below, live.numbered, greatest)) }) sound.jobs apart

abbrev Jobs : Type 0
Jobs = BTreeMap JobWord LiveJob

-- the same jobs in another map
pub same_sound : (host : HostState) (session : LiveSession) (jobs : Jobs) → jobs.entries ≡ session.jobs.entries → IsSound host session → IsSound host (record session { jobs = jobs })
same_sound host session jobs same sound = record {
  memory = record {
    live = sound.memory.live;
    registry = sound.memory.registry;
    settings = sound.memory.settings;
    greatest = sound.memory.greatest;
    listed = sound.memory.listed;
    jobs = subst (λ (es : Live). AllByRecursion (λ e. IsLive session.greatest (listed_in session) e.1) es) (sym same) sound.memory.jobs;
    apart = subst AreApart (sym same) sound.memory.apart;
    kept = sound.memory.kept;
    entries = sound.memory.entries;
    inside = sound.memory.inside;
    basis = subst (λ (es : Live). AllByRecursion (λ e. HasItsBegin session.kept e.1) es) (sym same) sound.memory.basis;
    ended = subst (λ (es : Live). (job : ℕ) → NoneHas job es → begin_in session.kept job ≡ []) (sym same) sound.memory.ended;
  };
  registry = sound.registry;
  jobs = λ tells. subst (λ (es : Live). AllByRecursion (PlainOf host) es) (sym same) (sound.jobs tells);
  kept = sound.kept;
}

same_stands : (host : HostState) (session : LiveSession) (jobs : Jobs) (s : Session) → jobs.entries ≡ session.jobs.entries → Stands host session s → Stands host (record session { jobs = jobs }) s
same_stands host session jobs s same stands = record {
  registry = stands.registry;
  settled = stands.settled;
  jobs = subst (λ (es : Live). AllZip (EntryStands host) es s.jobs) (sym same) stands.jobs;
  greatest = stands.greatest;
  settings = stands.settings;
}

-- A line that changes nothing, worked by calls that only read.
pub stays_worked : (before after : HostState) (session : LiveSession) (jobs : Jobs) (work : Work) (reply : Reply) (result : Result (Vec ℕ) Fault) → jobs.entries ≡ session.jobs.entries → session.settings ≡ work.settings session.settings
    → IsSound before session → OnlyReads before after → NoFault before after → ((s : Session) → IsTrue before.tells → Stands before session s → work.step s ≡ stays s reply)
    → IfOk result (λ bytes. bytes.items ≡ text reply) → OnlyMemory result → (work.quiet session → OnOk result (after.reads ≡ before.reads)) → IsWorked work before after session (record session { jobs = jobs }) result
stays_worked before after session jobs work reply result same given sound only none is says memory reads =
    let now_sound = sound_reads before after session only sound in
    let new : LiveSession = record session { jobs = jobs } in
    let new_sound = same_sound after session jobs same now_sound in
    let stands : (s : Session) → IsTrue before.tells → Stands before session s → Stands after session s = λ s tells stood. stands_read before after session s only tells stood in
    worked_by_memory before after session new work result memory (reads_these only) none (sound_refused new new_sound.memory) given (on_ok result (IsSound after new) new_sound)
    (λ s tells stood. subst (λ (t : Step). IfOk result (λ bytes. bytes.items ≡ text t.reply)) (sym (is s tells stood)) says)
    (λ s tells stood. subst (λ (t : Step). OnOk result (Stands after new t.session)) (sym (is s tells stood)) (on_ok result (Stands after new s) (same_stands after session jobs s same (stands s tells stood))))
    (λ s tells stood. stands_value after session s (only.tells ∙ tells) now_sound (stands s tells stood))
    (λ s tells stood. ap (λ (t : Step). t.session.registry) (is s tells stood))
    (λ s tells stood. read_images before after session s (work.step s).session.registry tells sound stood only) reads (on_ok result (AreNamed work.names session new) (same_names session new work.names refl refl new_sound.memory))

-- the same without a call on the host
pub stays_in_memory : (host : HostState) (session : LiveSession) (jobs : Jobs) (work : Work) (reply : Reply) (result : Result (Vec ℕ) Fault) → jobs.entries ≡ session.jobs.entries → session.settings ≡ work.settings session.settings → IsSound host session
    → ((s : Session) → IsTrue host.tells → Stands host session s → work.step s ≡ stays s reply) → IfOk result (λ bytes. bytes.items ≡ text reply) → OnlyMemory result
    → IsWorked work host host session (record session { jobs = jobs }) result
stays_in_memory host session jobs work reply result same given sound is says memory =
    stays_worked host host session jobs work reply result same given sound (reads_nothing host) (none_yet host) is says memory (λ quiet. on_ok result (host.reads ≡ host.reads) refl)
