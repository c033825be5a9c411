-- A job that begins.
use Rattle.std.proofs.Common.{◌≡◌, ◌≢◌, ◌∙◌, inl, ℕ, ◌+◌, ◌<◌, false, List, [], ◌∷◌, Some, None, map, Result, Ok, Err, refl, sym, ap, subst, arith}
use Rattle.std.proofs.lemmas.Bool.{or_from, ne_eqb}
use Rattle.std.specs.Prelude.{IsTrue}
use Rattle.std.specs.BTreeMap.{BTreeMap, insert_entry}
use Rattle.std.specs.Global.{Vec}
use Rattle.std.specs.List.{AllByRecursion, AllZip}
use Rattle.dfs_host.specs.Counts.{Rose}
use Rattle.dfs_host.specs.Fault.{HasFaultCause, NoFault}
use Rattle.dfs_host.specs.Host.{HostState, LeavesOnly, Only, HasDiskCause}
use Rattle.dfs_host.specs.declared.fault.Failed.{Failed}
use Rattle.dfs_host.specs.declared.fault.Fault.{Fault}
use Rattle.dfs_host.specs.declared.fault.Fault.TheVariants.{NoMemory, Disk, LogFull, Changed}
use Rattle.dfs_record.specs.declared.SnapName.{SnapName}
use Rattle.dfs_record.specs.Delta.{Delta}
use Rattle.dfs_change.specs.declared.change.Change.{Change}
use Rattle.dfs_registry.specs.declared.listed.Listed.{Listed}
use Rattle.dfs_registry.specs.Body.{greatest_job, lists_job}
use Rattle.dfs_ops.specs.declared.Ids.{Ids}
use Rattle.dfs_reply.specs.declared.Reply.TheVariants.{Job as JobReply}
use Rattle.dfs_reply.specs.Text.{text}
use Rattle.dfs_script.specs.declared.JobWord.{JobWord}
use Rattle.dfs_view.specs.Layers.{selected}
use Rattle.dfs_job.specs.declared.job.Job.{Job as LiveJob}
use Rattle.dfs_job.specs.Job.{Job, begun, first_ids}
use Rattle.dfs_job.specs.Stands.{JobIsSound, JobStands, StandsForOne}
use Rattle.dfs_session.specs.declared.keeping.Kept.{Kept}
use Rattle.dfs_session.specs.declared.session.Session.{Session as LiveSession}
use Rattle.dfs_session.specs.Files.{value_on}
use Rattle.dfs_session.specs.Images.{HoldsEither}
use Rattle.dfs_session.specs.Kept.{EachBegun, IsIndexed, IsInside, IsOwn, begin_in}
use Rattle.dfs_session.specs.Session.{Session, begins_over, word_cmp, Registry}
use Rattle.dfs_session.specs.Sound.{AreApart, HasItsBegin, IsEntry, IsListed, IsLive, IsSound, NoneHas, PlainOf, live_in, number_of, jobs_of, listed_in}
use Rattle.dfs_session.specs.Stands.{EntryStands, Stands}
use Rattle.dfs_session.specs.Worked.{AreNamed, HasNames, IsWorked, Work, beginning_over, has_refused}
use Rattle.dfs_session.proofs.Begun.{begin_still, both_mapped, each_begun, kept_still}
use Rattle.dfs_session.proofs.Faults.{sound_refused, full_by}
use Rattle.dfs_session.proofs.Images.{own_images}
use Rattle.dfs_session.proofs.Jobs.{Live, all_insert, apart_insert, none_uninserted, zip_insert}
use Rattle.dfs_session.proofs.Kept.{EntryKept, Keeps, bytes_stay, keep_jobs, keep_listed, only_keeps, plains_stay, registry_kept, registry_value, stands_kept, unlisted_apart}
use Rattle.dfs_session.proofs.Lists.{mapped}
use Rattle.dfs_session.proofs.Selecting.{found_listed}
use Rattle.dfs_session.proofs.Working.{worked_by_memory}
use Rattle.dfs_session.specs.Writes.{OnlyThese}
use Rattle.dfs_session.proofs.Writing.{next_written, one_of_these}

abbrev IsDiskFault : Fault → Type 0
IsDiskFault NoMemory = ⊥
IsDiskFault Disk = Unit {0}
IsDiskFault LogFull = ⊥
IsDiskFault (Changed file at) = ⊥

abbrev OnDiskFault : {T : Type 0} → Result T Fault → Type 0
OnDiskFault (Ok x) = ⊥
OnDiskFault (Err fault) = IsDiskFault fault

is_disk_fault : {T : Type 0} (fault : Fault) → ◌≡◌ {A = Result T Fault} (Err Disk) (Err fault) → IsDiskFault fault
is_disk_fault fault is = subst OnDiskFault is tt

-- a line that a device call failed in
pub disk_worked : (before after : HostState) (old new : LiveSession) (work : Work) → OnlyThese (work.writes old) before after → HasFaultCause {T = Vec ℕ} before after (Err Disk) → has_refused new ≡ false
    → ((s : Session) → IsTrue before.tells → Stands before old s → LeavesOnly (HoldsEither s.registry (work.step s).session.registry) before after)
    → IsWorked work before after old new (Err Disk)
disk_worked before after old new work writes cause refused images = record {
  sound = tt;
  settings = tt;
  reply = λ s tells stands. tt;
  stands = λ s tells stands. tt;
  value = λ s tells stands. tt;
  images = images;
  writes = writes;
  cause = cause;
  full = full_by (Err Disk) (work.many old) new (is_disk_fault LogFull) refused;
  passes = λ s tells stands is. absurd (is_disk_fault LogFull is);
  short = λ s tells stands is. absurd (is_disk_fault LogFull is);
  reads = λ quiet. tt;
  names = tt;
}

-- a line that found no memory
pub no_memory_worked : (before after : HostState) (old new : LiveSession) (work : Work) → OnlyThese (work.writes old) before after → NoFault before after → has_refused new ≡ false → new.settings ≡ work.settings old.settings
    → ((s : Session) → IsTrue before.tells → Stands before old s → value_on after ≡ Some s.registry) → ((s : Session) → IsTrue before.tells → Stands before old s → (work.step s).session.registry ≡ s.registry)
    → ((s : Session) → IsTrue before.tells → Stands before old s → LeavesOnly (HoldsEither s.registry (work.step s).session.registry) before after)
    → IsWorked work before after old new (Err NoMemory)
no_memory_worked before after old new work writes none refused settings value same images =
    worked_by_memory before after old new work (Err NoMemory) refl writes none refused settings tt (λ s tells stands. tt) (λ s tells stands. tt) value same images (λ quiet. tt) tt

-- the cause of a call on the disk that failed, and of one that did not
pub failed_cause : {T U : Type 0} {before after : HostState} (result : Result T Failed) (failed : Failed) → result ≡ Err failed → HasDiskCause before after result → after.reads ≡ before.reads → HasFaultCause {T = U} before after (Err Disk)
failed_cause {T} {U} {before} {after} result failed is cause reads =
    let rose : Rose before.disk_faults after.disk_faults = (subst (λ (r : Result T Failed). HasDiskCause before after r) is cause).disk_faults.failed in
    record {
      tells = cause.tells;
      later = cause.later;
      faults_later = cause.disk_faults.later;
      disk = λ _. rose;
      other = λ other. absurd (other refl);
      reads_later = omega (arith, reads);
      changed = λ file at is_changed. absurd (is_disk_fault (Changed file at) is_changed);
      never_changed = λ tells file at is_changed. is_disk_fault (Changed file at) is_changed;
      say_faults = cause.say_faults;
    }

pub fine_cause : {T : Type 0} {before after : HostState} (result : Result T Failed) (x : T) → result ≡ Ok x → HasDiskCause before after result → after.reads ≡ before.reads → NoFault before after
fine_cause {T} {before} {after} result x is cause reads =
    let kept : after.disk_faults ≡ before.disk_faults = (subst (λ (r : Result T Failed). HasDiskCause before after r) is cause).disk_faults.kept in
    record { tells = cause.tells; later = cause.later; disk_faults = kept; say_faults = cause.say_faults; reads_later = omega (arith, reads) }

greater_unlisted : (ls : List Listed) (n : ℕ) → greatest_job ls < n → lists_job ls n ≡ false
greater_unlisted [] n below = refl
greater_unlisted (l ∷ ls) n below =
    let other : l.job ≡ n → ⊥ = λ is. absurd (omega (arith, below, is)) in
    or_from _ _ (ne_eqb l.job n other) (greater_unlisted ls n (omega (arith, below)))

-- ---- a job begun in a file of its own

module _ (before after : HostState) (session : LiveSession) (sound : IsSound before session) (room : session.greatest < 4294967294) (only : Only (session.greatest + 1) before after) where
  abbrev number : ℕ
  number = session.greatest + 1

  unlisted : lists_job (listed_in session) number ≡ false
  unlisted = greater_unlisted (listed_in session) number (omega (arith, sound.memory.listed))

  keeps_zero : IsTrue before.tells → Keeps before after 0
  keeps_zero tells = only_keeps only tells 0 (λ is. absurd (omega (arith, is)))

  keeps_listed : IsTrue before.tells → AllByRecursion (λ l. Keeps before after l.job) (listed_in session)
  keeps_listed tells = keep_listed before after (listed_in session) number (only_keeps only tells) (unlisted_apart (listed_in session) number unlisted)

  other_numbers : (es : Live) → AllByRecursion (λ e. IsLive session.greatest (listed_in session) e.1) es → AllByRecursion (λ e. number_of e.1 ≢ number) es
  other_numbers [] live = tt
  other_numbers (e ∷ es) live = (λ is. absurd (omega (arith, is, live.0.numbered)), other_numbers es live.1)

  keeps_jobs : IsTrue before.tells → AllByRecursion (EntryKept before after) (jobs_of session)
  keeps_jobs tells = keep_jobs before after (listed_in session) session.greatest number (only_keeps only tells) unlisted (jobs_of session) sound.memory.jobs (other_numbers (jobs_of session) sound.memory.jobs)

  pub begun_value : (s : Session) → IsTrue before.tells → Stands before session s → value_on after ≡ Some s.registry
  begun_value s tells stands = registry_value before after session s tells sound stands (keeps_zero tells) (keeps_listed tells)

  pub begun_images : (s : Session) (later : Registry) → IsTrue before.tells → Stands before session s → LeavesOnly (HoldsEither s.registry later) before after
  begun_images s later tells stands = own_images before after session s later number tells sound stands (λ is. absurd (omega (arith, is))) (unlisted_apart (listed_in session) number unlisted) only

  module _ (word : JobWord) (absent : live_in session word ≡ None) (job : LiveJob) (jobs : BTreeMap JobWord LiveJob) (inserted : jobs.entries ≡ insert_entry word_cmp (jobs_of session) word job) (is_sound : JobIsSound after job) (ids : job.ids ≡ first_ids number)
      (entries : AllByRecursion (IsEntry (listed_in session)) (selected job.layers)) (inside : AllByRecursion IsInside (selected job.layers)) (opened : IsTrue before.tells → AllByRecursion (IsOwn before) (selected job.layers))
      (kept : Kept) (indexed : IsIndexed kept) (here : begin_in kept number ≡ selected job.layers) (other_begins : (other : ℕ) → other ≢ number → begin_in kept other ≡ begin_in session.kept other) where
    abbrev begun_session : LiveSession
    begun_session = record session { jobs = jobs; greatest = number; kept = kept }

    is_live : IsLive number (listed_in session) job
    is_live = let same : number_of job ≡ number = ap (λ (n : Ids). n.job) ids in record {
      fit = is_sound.fit;
      numbered = omega (arith, same);
      unlisted = ap (lists_job (listed_in session)) same ∙ unlisted;
      basis = mapped (IsEntry (listed_in session)) (IsListed (listed_in session)) (selected job.layers) (λ c is. found_listed c.listed.name (listed_in session) c.listed is) entries;
    }

    later_live : (x : LiveJob) → IsLive session.greatest (listed_in session) x → IsLive number (listed_in session) x
    later_live x live = record { fit = live.fit; numbered = omega (arith, live.numbered); unlisted = live.unlisted; basis = live.basis }

    others : (es : Live) → AllByRecursion (λ e. IsLive session.greatest (listed_in session) e.1) es → AllByRecursion (λ e. number_of job ≢ number_of e.1) es
    others [] live = tt
    others (e ∷ es) live = (λ is. let same : number_of job ≡ number = ap (λ (n : Ids). n.job) ids in absurd (omega (arith, is, same, live.0.numbered)), others es live.1)

    now_entries : EachBegun (IsEntry (listed_in session)) kept
    now_entries = each_begun (IsEntry (listed_in session)) session.kept kept number (selected job.layers) here other_begins entries sound.memory.entries

    pub begun_sound : IsSound after begun_session
    begun_sound = record {
      memory = record {
        live = sound.memory.live;
        registry = sound.memory.registry;
        settings = sound.memory.settings;
        greatest = omega (arith, room);
        listed = omega (arith, sound.memory.listed);
        jobs = subst (λ (es : Live). AllByRecursion (λ e. IsLive number (listed_in session) e.1) es) (sym inserted)
            (all_insert (λ x. IsLive number (listed_in session) x) (jobs_of session) word job is_live
            (mapped (λ e. IsLive session.greatest (listed_in session) e.1) (λ e. IsLive number (listed_in session) e.1) (jobs_of session) (λ e live. later_live e.1 live) sound.memory.jobs));
        apart = subst AreApart (sym inserted) (apart_insert (jobs_of session) word job (others (jobs_of session) sound.memory.jobs) sound.memory.apart);
        kept = indexed;
        entries = now_entries;
        inside = each_begun IsInside session.kept kept number (selected job.layers) here other_begins inside sound.memory.inside;
        basis = subst (λ (es : Live). AllByRecursion (λ e. HasItsBegin kept e.1) es) (sym inserted)
            (all_insert (HasItsBegin kept) (jobs_of session) word job (inl (sym (ap (λ (i : Ids). begin_in kept i.job) ids ∙ here)))
            (both_mapped (λ e. number_of e.1 ≢ number) (λ e. HasItsBegin session.kept e.1) (λ e. HasItsBegin kept e.1) (jobs_of session) (λ e other is. begin_still session.kept kept e.1 (other_begins (number_of e.1) other) is) (other_numbers (jobs_of session) sound.memory.jobs) sound.memory.basis));
        ended = λ n none.
            let both = none_uninserted (jobs_of session) word job n absent (subst (NoneHas n) inserted none) in
            other_begins n (λ is. both.0 (ap (λ (i : Ids). i.job) ids ∙ sym is)) ∙ sound.memory.ended n both.1;
      };
      registry = λ tells. let told = sym only.tells ∙ tells in registry_kept before after session.registry (keeps_zero told) (sound.registry told);
      jobs = λ tells. let told = sym only.tells ∙ tells in
          subst (λ (es : Live). AllByRecursion (PlainOf after) es) (sym inserted)
          (all_insert (λ x. StandsForOne after x) (jobs_of session) word job (is_sound.stands tells) (plains_stay before after (jobs_of session) (keeps_jobs told) (sound.jobs told)));
      kept = λ tells. let told = sym only.tells ∙ tells in
          kept_still before after (listed_in session) kept (bytes_stay before after (listed_in session) (keeps_listed told)) now_entries
          (each_begun (IsOwn before) session.kept kept number (selected job.layers) here other_begins (opened told) (sound.kept told));
    }

    abbrev names : List SnapName
    names = map (λ c. c.listed.name) (selected job.layers)

    -- the new job has the names of its selection, and the others have theirs
    begun_names : AreNamed (Some names) session begun_session
    begun_names = subst (AllByRecursion (λ e. HasNames (Some names) session begun_session e.1)) (sym inserted)
        (all_insert (λ x. HasNames (Some names) session begun_session x) (jobs_of session) word job
        (record { stay = λ was. absurd (omega (arith, was, same_number)); begun = λ below. ap (λ (cs : List Change). Some (map (λ c. c.listed.name) cs)) (sym (ap (begin_in kept) same_number ∙ here)) })
        (mapped (λ e. IsLive session.greatest (listed_in session) e.1) (λ e. HasNames (Some names) session begun_session e.1) (jobs_of session)
        (λ e live. record { stay = λ was. ap (map (λ c. c.listed.name)) (other_begins (number_of e.1) (λ is. absurd (omega (arith, is, live.numbered)))); begun = λ below. absurd (omega (arith, below, live.numbered)) }) sound.memory.jobs))
      where
        same_number : number_of job ≡ number
        same_number = ap (λ (i : Ids). i.job) ids

    pub begun_stands : (basis : List Delta) (s : Session) → JobStands after job (begun number basis session.settings) → IsTrue before.tells → Stands before session s → Stands after begun_session (begins_over s word basis).session
    begun_stands basis s job_stands tells stands =
        let kept = stands_kept before after session s (keeps_listed tells) (keeps_jobs tells) stands in
        let next : number ≡ s.greatest + 1 = ap (λ (n : ℕ). n + 1) (sym stands.greatest) in
        record {
          registry = kept.registry;
          settled = kept.settled;
          jobs = subst (λ (es : Live). AllZip (EntryStands after) es (begins_over s word basis).session.jobs) (sym inserted)
              (zip_insert after (jobs_of session) s.jobs word job _ kept.jobs (subst (λ (j : Job). JobStands after job j) (λ i. begun (next i) basis (sym stands.settings i)) job_stands));
          greatest = sym next;
          settings = stands.settings;
        }

    pub begun_worked : (basis : List Delta) (bytes : Vec ℕ) → (IsTrue before.tells → JobStands after job (begun number basis session.settings)) → NoFault before after → after.reads ≡ before.reads → bytes.items ≡ text (JobReply number)
        → IsWorked (beginning_over word names basis) before after session begun_session (Ok bytes)
    begun_worked basis bytes job_stands none reads says =
        worked_by_memory before after session begun_session (beginning_over word names basis) (Ok bytes) tt (one_of_these (next_written session) only) none (sound_refused begun_session begun_sound.memory) refl begun_sound
        (λ s tells stands. says ∙ ap (λ (n : ℕ). text (JobReply (n + 1))) (sym stands.greatest))
        (λ s tells stands. begun_stands basis s (job_stands tells) tells stands)
        (λ s tells stands. begun_value s tells stands)
        (λ s tells stands. refl)
        (λ s tells stands. begun_images s (begins_over s word basis).session.registry tells stands) (λ quiet. reads) begun_names
