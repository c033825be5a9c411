-- A publication: the changes are sealed in the job's log, the registry gets its entry, and the job ends.
use Rattle.std.proofs.Common.{◌≡◌, ◌≢◌, ◌∙◌, inl, inr, ⊎_elim, ℕ, ◌≤◌, max, Bool, true, false, List, [], ◌∷◌, ◌++◌, Option, Some, None, Result, Ok, Err, refl, sym, ap, subst, arith}
use Rattle.std.proofs.lemmas.Bool.{or_from, ne_eqb, le-leb, and_from}
use Rattle.std.proofs.lemmas.List.{map-append}
use Rattle.std.specs.Prelude.{IsTrue, IsFalse, ◌==◌, ◌||◌}
use Rattle.std.specs.BTreeMap.{BTreeMap, is_at}
use Rattle.std.specs.Global.{Vec}
use Rattle.std.specs.List.{AllByRecursion, AllZip}
use Rattle.std.specs.Map.{remove_entry}
use Rattle.dfs_host.specs.Disk.{FileState, Image, MayLeave, IsImageBut, IsSettled}
use Rattle.dfs_host.specs.Fault.{HasFaultCause, NoFault}
use Rattle.dfs_host.specs.Host.{HostState, Only, bytes_of, LeavesOnly, ChangesOnly}
use Rattle.dfs_host.specs.declared.fault.Fault.{Fault}
use Rattle.dfs_host.specs.declared.fault.Fault.TheVariants.{NoMemory, Disk, LogFull, Changed}
use Rattle.dfs_host.proofs.Files.{left_when_settled}
use Rattle.dfs_host.proofs.Moments.{widened}
use Rattle.dfs_record.specs.KeyMap.{len}
use Rattle.dfs_record.specs.Name.{is_between}
use Rattle.dfs_change.specs.declared.change.Change.{Change}
use Rattle.dfs_registry.specs.declared.listed.Listed.{Listed}
use Rattle.dfs_registry.specs.Body.{greatest_job, has_job, has_name, lists_job}
use Rattle.dfs_registry.specs.Reading.{HasOldOrNew}
use Rattle.dfs_registry.specs.Seen.{RegistryState}
use Rattle.dfs_registry.specs.Standing.{RegistryStands}
use Rattle.dfs_registry.proofs.Standing.{standing_list}
use Rattle.dfs_change.specs.Meant.{log_meaning}
use Rattle.dfs_ops.specs.declared.Ids.{Ids}
use Rattle.dfs_reply.specs.declared.Reply.TheVariants.{Published as PublishedReply}
use Rattle.dfs_reply.specs.Text.{text}
use Rattle.dfs_script.specs.declared.JobWord.{JobWord}
use Rattle.dfs_view.specs.Layers.{selected}
use Rattle.dfs_job.specs.declared.job.Job.{Job as LiveJob}
use Rattle.dfs_job.specs.Job.{Job, own_changes}
use Rattle.dfs_job.specs.Stands.{JobStands, StandsForOne, publishes_too_many}
use Rattle.dfs_session.specs.declared.keeping.Kept.{Kept}
use Rattle.dfs_session.specs.declared.session.Session.{Session as LiveSession}
use Rattle.dfs_session.specs.Files.{publication_of, publications_of, value_read, value_on}
use Rattle.dfs_session.specs.Images.{HoldsEither}
use Rattle.dfs_session.specs.Kept.{EachBegun, IsInside, IsOwn}
use Rattle.dfs_session.specs.Session.{Session, Step, Registry, of_live, publication_by, publishes_anew, word_cmp}
use Rattle.dfs_session.specs.Sound.{AreApart, HasItsBegin, IsEntry, IsListed, IsLive, IsSound, NoneHas, PlainOf, number_of, jobs_of, listed_in, live_in}
use Rattle.dfs_session.specs.Stands.{EntryStands, Stands, LogIsSettled, LeavesValue}
use Rattle.dfs_session.specs.Worked.{IsWorked, has_refused, job_is, publishing_anew}
use Rattle.dfs_session.specs.Writes.{FileStays}
use Rattle.dfs_session.proofs.Begun.{HasEnded, begins_still, each_ended, each_mapped, found_front, kept_still, still_none}
use Rattle.dfs_session.proofs.Changing.{Found, found_job, listed_kept, own_job_images, own_keeps, own_value, was_live}
use Rattle.dfs_session.proofs.Faults.{sound_refused, not_true, full_by}
use Rattle.dfs_session.proofs.Handed.{fault_or, handed_cause}
use Rattle.dfs_session.proofs.Images.{images_on}
use Rattle.dfs_session.proofs.Jobs.{Live, all_remove, apart_remove, none_unremoved, removed_apart, zip_remove}
use Rattle.dfs_session.proofs.Kept.{EntryKept, Keeps, bytes_stay, keep_jobs, only_keeps, plains_stay, settled_stay, unlisted_apart, zip_stays}
use Rattle.dfs_session.proofs.Lists.{mapped}
use Rattle.dfs_session.proofs.Numbered.{HasFile, AreNumbered, registry_numbered}
use Rattle.dfs_session.proofs.Selecting.{no_fault}
use Rattle.dfs_session.proofs.Values.{same_publications, stands_value}
use Rattle.dfs_session.proofs.Working.{ended_names, memory_cause}
use Rattle.dfs_session.proofs.Writing.{log_written, one_of_these, these_on}

greatest_push : (ls : List Listed) (l : Listed) → greatest_job (ls ++ l ∷ []) ≡ max (greatest_job ls) l.job
greatest_push [] l = omega arith
greatest_push (x ∷ ls) l = omega (arith, greatest_push ls l)

unlisted_push : (ls : List Listed) (l : Listed) (n : ℕ) → lists_job ls n ≡ false → l.job ≢ n → lists_job (ls ++ l ∷ []) n ≡ false
unlisted_push [] l n none other = or_from _ _ (ne_eqb l.job n other) refl
unlisted_push (x ∷ ls) l n none other = by (x.job == n) none (unlisted_push ls l n)
  where
    by : (b : Bool) → (b || lists_job ls n) ≡ false → (lists_job ls n ≡ false → l.job ≢ n → lists_job (ls ++ l ∷ []) n ≡ false) → (b || lists_job (ls ++ l ∷ []) n) ≡ false
    by true is rest = absurd (not_true true is refl)
    by false is rest = rest is other

pushed : (P : Listed → Type 0) (ls : List Listed) (l : Listed) → AllByRecursion P ls → P l → AllByRecursion P (ls ++ l ∷ [])
pushed P [] l all p = (p, tt)
pushed P (x ∷ ls) l all p = (all.0, pushed P ls l all.1 p)

-- a listed job is listed with one more
listed_push : (ls : List Listed) (l : Listed) (n : ℕ) → lists_job ls n ≡ true → lists_job (ls ++ l ∷ []) n ≡ true
listed_push [] l n is = absurd cc
listed_push (x ∷ ls) l n is = by (has_job n x) is (listed_push ls l n)
  where
    by : (b : Bool) → (b || lists_job ls n) ≡ true → (lists_job ls n ≡ true → lists_job (ls ++ l ∷ []) n ≡ true) → (b || lists_job (ls ++ l ∷ []) n) ≡ true
    by true is rest = refl
    by false is rest = rest is

-- no listed job has file 0
zero_unlisted : (ls : List Listed) → AllByRecursion HasFile ls → lists_job ls 0 ≡ false
zero_unlisted [] numbered = refl
zero_unlisted (l ∷ ls) numbered = or_from _ _ (ne_eqb l.job 0 numbered.0) (zero_unlisted ls numbered.1)

-- the number of a live job is that of an entry
pub in_range : (before : HostState) (session : LiveSession) (word : JobWord) (live : LiveJob) → IsSound before session → live_in session word ≡ Some live → IsTrue (is_between 1 4294967294 live.ids.job)
in_range before session word live sound found =
    let lives = was_live before before session word live sound found in
    and_from _ _ (le-leb 1 live.ids.job lives.fit.ids.job) (le-leb live.ids.job 4294967294 (omega (arith, lives.numbered, sound.memory.greatest)))

-- the log of a live job is not file 0
pub no_registry : (before : HostState) (session : LiveSession) (word : JobWord) (live : LiveJob) → IsSound before session → live_in session word ≡ Some live → 0 ≢ live.ids.job
no_registry before session word live sound found same = absurd (omega (arith, same, (was_live before before session word live sound found).fit.ids.job))

-- an entry that was not written, but for a failed device call, leaves file 0 as the log's calls left it
pub unlisted_stays : (before mid after : HostState) (fault : Fault) → (fault ≡ NoMemory → after ≡ mid) → (fault ≡ LogFull → ⊥) → ((file at : ℕ) → fault ≡ Changed file at → ⊥) → fault ≢ Disk → FileStays 0 before mid → FileStays 0 before after
unlisted_stays before mid after NoMemory memory full never other stays = subst (FileStays 0 before) (sym (memory refl)) stays
unlisted_stays before mid after Disk memory full never other stays = absurd (other refl)
unlisted_stays before mid after LogFull memory full never other stays = absurd (full refl)
unlisted_stays before mid after (Changed file at) memory full never other stays = absurd (never file at refl)

-- ---- the images while the registry is written

module _ (before mid after : HostState) (session : LiveSession) (word : JobWord) (live : LiveJob) (sound : IsSound before session) (found : live_in session word ≡ Some live)
    (sealing : Only live.ids.job before mid) (listing : Only 0 mid after) (listed : Listed) (same_job : listed.job ≡ live.ids.job)
    (writing : IsTrue mid.tells → ChangesOnly 0 (HasOldOrNew (listed_in session) listed) mid after)
    (changes : (j : Job) → IsTrue before.tells → JobStands before live j → log_meaning (bytes_of mid live.ids.job) listed ≡ Some (own_changes j)) (settled : IsTrue before.tells → IsSettled (mid.disk.files live.ids.job)) where
  abbrev publishing : Session → Step
  publishing = (publishing_anew word listed.name).step

  abbrev lives : IsLive session.greatest (listed_in session) live
  lives = was_live before mid session word live sound found

  kept_mid : IsTrue before.tells → AllByRecursion (λ l. Keeps before mid l.job) (listed_in session)
  kept_mid tells = listed_kept before mid session word live sound found sealing tells

  logs_as_read : (image : Image) (ls : List Listed) → ((m : ℕ) → m ≢ 0 → MayLeave (mid.disk.files m) (image.files m)) → AllByRecursion HasFile ls → AllByRecursion (LogIsSettled mid) ls → AllByRecursion (λ l. image.files l.job ≡ bytes_of mid l.job) ls
  logs_as_read image [] may numbered all = tt
  logs_as_read image (l ∷ ls) may numbered all = (left_when_settled all.0 (image.files l.job) (may l.job numbered.0), logs_as_read image ls may numbered.1 all.1)

  -- an image that has the entry, and one that has not
  image_listed : (s : Session) (image : Image) → IsTrue before.tells → Stands before session s → IsImageBut 0 mid.disk image → HasOldOrNew (listed_in session) listed (image.files 0)
      → HoldsEither s.registry (publishing s).session.registry image
  image_listed s image tells stands but old_or_new =
      let settled_mid = settled_stay before mid (listed_in session) (kept_mid tells) stands.settled in
      let registry_mid : s.registry ≡ publications_of (bytes_of mid) (listed_in session) = stands.registry ∙ sym (same_publications (bytes_of before) (bytes_of mid) (listed_in session) (bytes_stay before mid (listed_in session) (kept_mid tells))) in
      let numbered : AllByRecursion HasFile (listed_in session) = subst AreNumbered (standing_list before session.registry (sound.registry tells)) (registry_numbered (bytes_of before 0)) in
      let old : publications_of image.files (listed_in session) ≡ s.registry = same_publications (bytes_of mid) image.files (listed_in session) (logs_as_read image (listed_in session) but.files numbered settled_mid) ∙ sym registry_mid in
      let f : Found before s word live = found_job before session s word live stands found in
      let file : image.files listed.job ≡ bytes_of mid live.ids.job = ap image.files same_job ∙ left_when_settled (settled tells) (image.files live.ids.job) (but.files live.ids.job (λ is. absurd (omega (arith, is, lives.fit.ids.job)))) in
      let new : publication_of image.files listed ≡ publication_by f.plain listed.name = λ i. record {
        name = listed.name;
        job = (same_job ∙ sym (ap (λ (n : Ids). n.job) f.is.ids)) i;
        change = (ap (λ (bytes : List ℕ). log_meaning bytes listed) file ∙ changes f.plain tells f.is) i;
      } in
      ⊎_elim (λ is. inl (ap (value_read image.files) is ∙ ap Some old))
      (λ is. inr (ap (value_read image.files) is ∙ ap Some (map-append (publication_of image.files) (listed_in session) (listed ∷ []) ∙ (λ i. old i ++ new i ∷ [])) ∙ ap (λ (o : Option Job). Some (of_live o s (λ j. publishes_anew s word j listed.name)).session.registry) (sym f.found)))
      old_or_new

  pub publishing_images : (s : Session) → IsTrue before.tells → Stands before session s → LeavesOnly (HoldsEither s.registry (publishing s).session.registry) before after
  publishing_images s tells stands =
      images_on before mid after s.registry (publishing s).session.registry (own_job_images before mid session word live sound found sealing s (publishing s).session.registry tells stands)
      (widened (writing (sealing.tells ∙ tells)).images (λ image with. image_listed s image tells stands with.others with.file))

  -- an entry that was not written
  pub unlisted_worked : {T : Type 0} (fault : Fault) (new : LiveSession) → NoFault before mid → HasFaultCause {T = T} mid after (Err fault) → (fault ≡ NoMemory → after ≡ mid) → (fault ≡ LogFull → ⊥)
      → ((file at : ℕ) → fault ≡ Changed file at → ⊥) → has_refused new ≡ false → IsWorked (publishing_anew word listed.name) before after session new (Err fault)
  unlisted_worked {T} fault new none cause memory full never refused = record {
    sound = tt;
    settings = tt;
    reply = λ s tells stands. tt;
    stands = λ s tells stands. tt;
    value = λ s tells stands. leaves fault refl s.registry (publishing s).session.registry (own_value before mid session word live sound found sealing s tells stands);
    images = publishing_images;
    writes = these_on (one_of_these (log_written session word live found) sealing) (one_of_these refl listing);
    cause = handed_cause fault none cause;
    full = full_by (Err fault) (job_is publishes_too_many (live_in session word)) new (λ is. full (ap fault_or is)) refused;
    passes = λ s tells stands is. absurd (full (ap fault_or is));
    short = λ s tells stands is. absurd (full (ap fault_or is));
    reads = λ quiet. tt;
    names = tt;
  }
    where
      leaves : (f : Fault) → fault ≡ f → (a b : Registry) → value_on mid ≡ Some a → LeavesValue {T = Vec ℕ} (Err f) a b (value_on after)
      leaves NoMemory is a b same = ap value_on (memory is) ∙ same
      leaves Disk is a b same = tt
      leaves LogFull is a b same = absurd (full is)
      leaves (Changed file at) is a b same = absurd (never file at is)

-- ---- the entry of the registry

module _ (before mid after : HostState) (session : LiveSession) (word : JobWord) (live : LiveJob) (sound : IsSound before session) (found : live_in session word ≡ Some live)
    (sealing : Only live.ids.job before mid) (listing : Only 0 mid after) (listed : Listed) (same_job : listed.job ≡ live.ids.job)
    (registry : RegistryState) (jobs : BTreeMap JobWord LiveJob) (kept_now : Kept) (ended : HasEnded session.kept kept_now live.ids.job) (added : registry.entries ≡ listed_in session ++ listed ∷ []) (gone : jobs.entries ≡ remove_entry (is_at (word_cmp word)) (jobs_of session))
    (registry_live : IsFalse registry.spent) (registry_stands : IsTrue mid.tells → RegistryStands after registry)
    (writing : IsTrue mid.tells → ChangesOnly 0 (HasOldOrNew (listed_in session) listed) mid after) where
  abbrev published_session : LiveSession
  published_session = record session { registry = registry; jobs = jobs; kept = kept_now }

  abbrev is_live : IsLive session.greatest (listed_in session) live
  is_live = was_live before mid session word live sound found

  -- files but the log and the registry
  kept : IsTrue before.tells → (m : ℕ) → m ≢ live.ids.job → m ≢ 0 → Keeps before after m
  kept tells m other no_root = only_keeps listing (sealing.tells ∙ tells) m no_root ∙ own_keeps before mid session word live sound found sealing tells m other

  apart : AllByRecursion (λ f. number_of live ≢ number_of f.1) (remove_entry (is_at (word_cmp word)) (jobs_of session))
  apart = removed_apart (is_at (word_cmp word)) (jobs_of session) live found sound.memory.apart

  left : AllByRecursion (λ e. IsLive session.greatest (listed_in session) e.1) (remove_entry (is_at (word_cmp word)) (jobs_of session))
  left = all_remove (λ x. IsLive session.greatest (listed_in session) x) (is_at (word_cmp word)) (jobs_of session) sound.memory.jobs

  still_live : (es : Live) → AllByRecursion (λ f. number_of live ≢ number_of f.1) es → AllByRecursion (λ e. IsLive session.greatest (listed_in session) e.1) es
      → AllByRecursion (λ e. IsLive session.greatest registry.entries e.1) es
  still_live [] others all = tt
  still_live (e ∷ es) others all = (
    record {
      fit = all.0.fit;
      numbered = all.0.numbered;
      unlisted = ap (λ (ls : List Listed). lists_job ls (number_of e.1)) added ∙ unlisted_push (listed_in session) listed (number_of e.1) all.0.unlisted (λ is. others.0 (sym same_job ∙ is));
      basis = mapped (IsListed (listed_in session)) (IsListed registry.entries) (selected e.1.layers) (λ (c : Change) is. ap (λ (ls : List Listed). lists_job ls c.listed.job) added ∙ listed_push (listed_in session) listed c.listed.job is) all.0.basis;
    },
    still_live es others.1 all.1,
  )

  numbered : IsTrue before.tells → AllByRecursion HasFile (listed_in session)
  numbered tells = subst AreNumbered (standing_list before session.registry (sound.registry tells)) (registry_numbered (bytes_of before 0))

  no_zero : (es : Live) → AllByRecursion (λ e. IsLive session.greatest (listed_in session) e.1) es → AllByRecursion (λ e. number_of e.1 ≢ 0) es
  no_zero [] all = tt
  no_zero (e ∷ es) all = (λ is. absurd (omega (arith, is, all.0.fit.ids.job)), no_zero es all.1)

  others_first : IsTrue before.tells → AllByRecursion (EntryKept before mid) (remove_entry (is_at (word_cmp word)) (jobs_of session))
  others_first tells =
      keep_jobs before mid (listed_in session) session.greatest live.ids.job (own_keeps before mid session word live sound found sealing tells) is_live.unlisted (remove_entry (is_at (word_cmp word)) (jobs_of session)) left
      (mapped (λ f. number_of live ≢ number_of f.1) (λ f. number_of f.1 ≢ live.ids.job) (remove_entry (is_at (word_cmp word)) (jobs_of session)) (λ f other is. other (sym is)) apart)

  others_then : IsTrue before.tells → AllByRecursion (EntryKept mid after) (remove_entry (is_at (word_cmp word)) (jobs_of session))
  others_then tells =
      keep_jobs mid after (listed_in session) session.greatest 0 (only_keeps listing (sealing.tells ∙ tells)) (zero_unlisted (listed_in session) (numbered tells)) (remove_entry (is_at (word_cmp word)) (jobs_of session)) left
      (no_zero (remove_entry (is_at (word_cmp word)) (jobs_of session)) left)

  -- the logs that were listed
  old_kept : IsTrue before.tells → AllByRecursion (λ l. Keeps before after l.job) (listed_in session)
  old_kept tells = both (listed_in session) (unlisted_apart (listed_in session) live.ids.job is_live.unlisted) (numbered tells)
    where
      both : (ls : List Listed) → AllByRecursion (λ l. l.job ≢ live.ids.job) ls → AllByRecursion HasFile ls → AllByRecursion (λ l. Keeps before after l.job) ls
      both [] others numbered = tt
      both (l ∷ ls) others numbered = (kept tells l.job others.0 numbered.0, both ls others.1 numbered.1)

  -- what is kept now is of the entries that were there
  old_entries : EachBegun (IsEntry (listed_in session)) kept_now
  old_entries = each_ended (IsEntry (listed_in session)) session.kept kept_now live.ids.job ended sound.memory.entries

  pub published_sound : IsSound after published_session
  published_sound = record {
    memory = record {
      live = sound.memory.live;
      registry = registry_live;
      settings = sound.memory.settings;
      greatest = sound.memory.greatest;
      listed = subst (λ (ls : List Listed). greatest_job ls ≤ session.greatest) (sym added) (omega (arith, greatest_push (listed_in session) listed, sound.memory.listed, same_job, is_live.numbered));
      jobs = subst (λ (es : Live). AllByRecursion (λ e. IsLive session.greatest registry.entries e.1) es) (sym gone) (still_live (remove_entry (is_at (word_cmp word)) (jobs_of session)) apart left);
      apart = subst AreApart (sym gone) (apart_remove (is_at (word_cmp word)) (jobs_of session) sound.memory.apart);
      kept = ended.indexed;
      entries = each_mapped (IsEntry (listed_in session)) (IsEntry registry.entries) kept_now
          (λ (c : Change) is. subst (λ (ls : List Listed). IsEntry ls c) (sym added) (found_front (has_name c.listed.name) (listed_in session) (listed ∷ []) c.listed is)) old_entries;
      inside = each_ended IsInside session.kept kept_now live.ids.job ended sound.memory.inside;
      basis = subst (λ (es : Live). AllByRecursion (λ e. HasItsBegin kept_now e.1) es) (sym gone)
          (begins_still session.kept kept_now live.ids.job (remove_entry (is_at (word_cmp word)) (jobs_of session)) ended apart (all_remove (HasItsBegin session.kept) (is_at (word_cmp word)) (jobs_of session) sound.memory.basis));
      ended = λ job none. still_none session.kept kept_now live.ids.job ended job (λ other. sound.memory.ended job (none_unremoved (is_at (word_cmp word)) (jobs_of session) live job found other (subst (NoneHas job) gone none)));
    };
    registry = λ tells. registry_stands (sym listing.tells ∙ tells);
    jobs = λ tells.
        let told = sym sealing.tells ∙ sym listing.tells ∙ tells in
        let es = remove_entry (is_at (word_cmp word)) (jobs_of session) in
        subst (λ (es : Live). AllByRecursion (PlainOf after) es) (sym gone)
        (plains_stay mid after es (others_then told) (plains_stay before mid es (others_first told) (all_remove (λ x. StandsForOne before x) (is_at (word_cmp word)) (jobs_of session) (sound.jobs told))));
    kept = λ tells.
        let told = sym sealing.tells ∙ sym listing.tells ∙ tells in
        kept_still before after (listed_in session) kept_now (bytes_stay before after (listed_in session) (old_kept told)) old_entries (each_ended (IsOwn before) session.kept kept_now live.ids.job ended (sound.kept told));
  }

  -- the log that is listed now
  new_kept : IsTrue before.tells → Keeps mid after listed.job
  new_kept tells = only_keeps listing (sealing.tells ∙ tells) listed.job (λ is. absurd (omega (arith, is, same_job, is_live.fit.ids.job)))

  pub published_stands : (s : Session) (j : Job) → IsTrue before.tells → Stands before session s → JobStands before live j → log_meaning (bytes_of mid live.ids.job) listed ≡ Some (own_changes j)
      → IsSettled (mid.disk.files live.ids.job) → Stands after published_session (publishes_anew s word j listed.name).session
  published_stands s j tells stands is changes settled =
      let es = remove_entry (is_at (word_cmp word)) (jobs_of session) in
      let fs = remove_entry (is_at (word_cmp word)) s.jobs in
      let old_registry : s.registry ≡ publications_of (bytes_of after) (listed_in session) = stands.registry ∙ sym (same_publications (bytes_of before) (bytes_of after) (listed_in session) (bytes_stay before after (listed_in session) (old_kept tells))) in
      let file : bytes_of after listed.job ≡ bytes_of mid live.ids.job = ap (λ (f : FileState). f.bytes) (new_kept tells) ∙ ap (λ (n : ℕ). bytes_of mid n) same_job in
      let new : publication_by j listed.name ≡ publication_of (bytes_of after) listed = λ i. record {
        name = listed.name;
        job = (ap (λ (n : Ids). n.job) is.ids ∙ sym same_job) i;
        change = (sym changes ∙ ap (λ (bytes : List ℕ). log_meaning bytes listed) (sym file)) i;
      } in
      record {
        registry = (λ i. old_registry i ++ new i ∷ []) ∙ sym (ap (publications_of (bytes_of after)) added ∙ map-append (publication_of (bytes_of after)) (listed_in session) (listed ∷ []));
        settled = subst (λ (ls : List Listed). AllByRecursion (LogIsSettled after) ls) (sym added)
            (pushed (LogIsSettled after) (listed_in session) listed (settled_stay before after (listed_in session) (old_kept tells) stands.settled) (subst IsSettled (sym (new_kept tells)) (subst (λ (n : ℕ). IsSettled (mid.disk.files n)) (sym same_job) settled)));
        jobs = subst (λ (es : Live). AllZip (EntryStands after) es fs) (sym gone)
            (zip_stays mid after es fs (others_then tells) (zip_stays before mid es fs (others_first tells) (zip_remove before (is_at (word_cmp word)) (jobs_of session) s.jobs stands.jobs)));
        greatest = stands.greatest;
        settings = stands.settings;
      }

  pub published_worked : (bytes : Vec ℕ) (count : ℕ) → NoFault before after → bytes.items ≡ text (PublishedReply listed.name count) → ((j : Job) → IsTrue before.tells → JobStands before live j → count ≡ len (own_changes j))
      → ((j : Job) → IsTrue before.tells → JobStands before live j → log_meaning (bytes_of mid live.ids.job) listed ≡ Some (own_changes j)) → (IsTrue before.tells → IsSettled (mid.disk.files live.ids.job))
      → IsWorked (publishing_anew word listed.name) before after session published_session (Ok bytes)
  published_worked bytes count none says counted changes settled =
      let does : Session → Step = (publishing_anew word listed.name).step in
      let stepped : (s : Session) (f : Found before s word live) → does s ≡ publishes_anew s word f.plain listed.name = λ s f. ap (λ (o : Option Job). of_live o s (λ j. publishes_anew s word j listed.name)) f.found in
      let found_in : (s : Session) → Stands before session s → Found before s word live = λ s stands. found_job before session s word live stands found in
      let stands_now : (s : Session) → IsTrue before.tells → Stands before session s → Stands after published_session (does s).session = λ s tells stands.
      let f = found_in s stands in
      subst (λ (t : Step). Stands after published_session t.session) (sym (stepped s f)) (published_stands s f.plain tells stands f.is (changes f.plain tells f.is) (settled tells)) in
      record {
        sound = published_sound;
        settings = refl;
        reply = λ s tells stands.
            let f = found_in s stands in
            subst (λ (t : Step). bytes.items ≡ text t.reply) (sym (stepped s f)) (says ∙ ap (λ (n : ℕ). text (PublishedReply listed.name n)) (counted f.plain tells f.is));
        stands = stands_now;
        value = λ s tells stands. stands_value after published_session (does s).session (listing.tells ∙ sealing.tells ∙ tells) published_sound (stands_now s tells stands);
        images = publishing_images before mid after session word live sound found sealing listing listed same_job writing changes settled;
        writes = these_on (one_of_these (log_written session word live found) sealing) (one_of_these refl listing);
        cause = memory_cause (Ok bytes) none tt;
        full = full_by (Ok bytes) (job_is publishes_too_many (live_in session word)) published_session (ok_never LogFull) (sound_refused published_session published_sound.memory);
        passes = λ s tells stands is. absurd (ok_never LogFull is);
        short = λ s tells stands is. absurd (ok_never LogFull is);
        reads = λ quiet. absurd quiet;
        names = ended_names session published_session None live.ids.job refl ended (subst (AllByRecursion (λ e. number_of live ≢ number_of e.1)) (sym gone) apart) published_sound.memory;
      }
    where
      ok_never : (fault : Fault) → ◌≡◌ {A = Result (Vec ℕ) Fault} (Ok bytes) (Err fault) → ⊥
      ok_never fault is = no_fault (Ok bytes) bytes fault refl is
