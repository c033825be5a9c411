-- Lines of a live job: an operation, a flush, and its end.
use Rattle.std.proofs.Common.{inl, inr, ◌≡◌, ◌≢◌, ◌∙◌, ◌≤◌, ◌<◌, ◌+◌, ◌⊎◌, ℕ, zero, suc, Bool, true, false, [], map, Option, Some, None, Result, Err, refl, sym, ap, subst, arith}
use Rattle.std.proofs.lemmas.Bool.{leb-true, lt-ltb}
use mathlib.Core.Bool.{true≢false}
use Rattle.std.specs.Prelude.{◌&&◌, IfOk, IfNone, IfSome, OnOk, IsErrOf, IsTrue, is_some, nat_le, nat_lt}
use Rattle.std.specs.BTreeMap.{BTreeMap, is_at}
use Rattle.std.specs.Global.{Vec}
use Rattle.std.specs.List.{AllByRecursion, AllZip, list_any}
use Rattle.std.specs.Map.{lookup, set_value, remove_entry}
use Rattle.dfs_host.specs.Fault.{HasFaultCause, NoFault}
use Rattle.dfs_host.specs.Host.{HostState, LeavesOnly, Only, bytes_of}
use Rattle.dfs_host.specs.declared.fault.Fault.{Fault}
use Rattle.dfs_host.specs.declared.fault.Fault.TheVariants.{NoMemory, Disk, LogFull, Changed}
use Rattle.dfs_host.proofs.Causes.{none_yet}
use Rattle.dfs_host.proofs.Moments.{reads_nothing}
use Rattle.dfs_registry.specs.Body.{lists_job}
use Rattle.dfs_registry.specs.Standing.{RegistryStands}
use Rattle.dfs_reply.specs.declared.Reply.TheVariants.{Ok as OkReply}
use Rattle.dfs_reply.specs.Text.{text}
use Rattle.dfs_path.specs.declared.Scope.{Scope}
use Rattle.dfs_script.specs.Scopes.{is_parts}
use Rattle.dfs_script.specs.declared.JobWord.{JobWord}
use Rattle.dfs_view.specs.Layers.{selected}
use Rattle.dfs_job.specs.declared.settings.Settings.{Settings}
use Rattle.dfs_job.specs.declared.job.Job.{Job as LiveJob}
use Rattle.dfs_job.specs.declared.answers.Planned.{Planned}
use Rattle.dfs_job.specs.declared.answers.Planned.TheVariants.{Made, Busy, Full}
use Rattle.dfs_job.specs.Job.{Job, after_flush, after_plan, layer_changes, need, plan_answer, planned_as}
use Rattle.dfs_job.specs.Stands.{JobIsSound, JobStands, Passes, PassesWith, StandsForOne, flushed_firsts}
use Rattle.dfs_session.specs.declared.keeping.Kept.{Kept}
use Rattle.dfs_session.specs.declared.session.Session.{Session as LiveSession}
use Rattle.dfs_session.specs.Files.{value_on}
use Rattle.dfs_session.specs.Images.{HoldsEither}
use Rattle.dfs_session.specs.Kept.{IsInside, IsOwn, begin_in}
use Rattle.dfs_session.specs.Session.{Registry, Session, Step, live_job, of_live, ends, word_cmp}
use Rattle.dfs_session.specs.Sound.{AreApart, HasItsBegin, IsEntry, IsListed, IsLive, IsSound, NoneHas, PlainOf, jobs_of, listed_in, live_in, number_of}
use Rattle.dfs_session.specs.Stands.{EntryStands, LeavesValue, Stands}
use Rattle.dfs_session.specs.Worked.{AreNamed, IsFullWhere, IsPast, IsShort, IsWorked, PartPasses, PublicationPasses, Work, has_refused, job_is, plain, refused_of, with_plan_made}
use Rattle.dfs_session.proofs.Begun.{HasEnded, begins_still, each_ended, kept_still, still_none}
use Rattle.dfs_session.proofs.Faults.{unrefused, each_unrefused, none_past, sound_refused, not_true}
use Rattle.dfs_session.proofs.Handed.{fault_or, handed_cause}
use Rattle.dfs_session.proofs.Images.{own_images, read_images}
use Rattle.dfs_session.proofs.Jobs.{found_set, Live, FoundBoth, all_set, all_found, all_remove, any_set, apart_set, apart_remove, both_found, none_unremoved, none_unset, removed_apart, zip_remove}
use Rattle.dfs_session.proofs.Kept.{Keeps, bytes_stay, keep_listed, only_keeps, plains_changed, registry_kept, registry_value, settled_stay, unlisted_apart, zip_changed}
use Rattle.dfs_session.proofs.Values.{same_publications, stands_value}
use Rattle.dfs_session.proofs.Working.{OnlyMemory, ended_names, on_ok, same_names, worked_by_memory}
use Rattle.dfs_session.proofs.Writing.{one_of_these, reads_these}

abbrev Jobs : Type 0
Jobs = BTreeMap JobWord LiveJob

-- the job has the basis that it had, or none
abbrev pub LeavesBasis : LiveJob → LiveJob → Type 0
LeavesBasis old new = (selected new.layers ≡ selected old.layers) ⊎ (selected new.layers ≡ [])

pub left_basis : (old new : LiveJob) → (new.layers.basis.items ≡ old.layers.basis.items) ⊎ (new.layers.basis.items ≡ []) → LeavesBasis old new
left_basis old new (inl same) = inl (ap (map (λ c. c.value)) same)
left_basis old new (inr none) = inr (ap (map (λ c. c.value)) none)

-- how many parts a line asks for
pub parts_within : (parts : Option ℕ) → IfSome parts (λ n. IsTrue (is_parts n)) → IfSome parts (λ n. (1 ≤ n) × (n ≤ 256))
parts_within None within = tt
parts_within (Some n) within = (leb-true 1 n (both (nat_le 1 n) (nat_le n 256) within).0, leb-true n 256 (both (nat_le 1 n) (nat_le n 256) within).1)
  where
    both : (a b : Bool) → (a && b) ≡ true → (a ≡ true) × (b ≡ true)
    both true b e = (refl, e)
    both false b e = absurd (true≢false (sym e))

-- the job keeps its settings with a plan more
pub plan_short : (j : Job) (scope : Scope) (parts : Option ℕ) → j.settings.log_bytes < need (after_plan j scope parts) → IsShort (with_plan_made scope parts (Some j))
plan_short j scope parts = by (plan_answer j)
  where
    by : (a : Planned) → j.settings.log_bytes < need (planned_as a j scope parts) → IsShort (Some (planned_as a j scope parts))
    by Made short = short
    by Busy short = short
    by Full short = short

-- whether there is a job
pub none_of : (o : Option LiveJob) → is_some o ≡ false → o ≡ None
none_of None is = refl
none_of (Some x) is = absurd (not_true (is_some (Some x)) is refl)

pub some_of : (o : Option LiveJob) → is_some o ≡ true → (x : LiveJob) × (o ≡ Some x)
some_of None is = absurd (not_true (is_some {T = LiveJob} None) refl is)
some_of (Some x) is = (x, refl)

pub unchanged_at : (o : Option LiveJob) (P : Type 0) → IfNone o P → o ≡ None → P
unchanged_at o P when none = subst (λ (q : Option LiveJob). IfNone q P) none when

-- the job of a word, in the session in memory and in the plain one
pub record Found (host : HostState) (s : Session) (word : JobWord) (live : LiveJob) : Type 0 where
  pub plain : Job
  pub found : live_job s word ≡ Some plain
  pub is : JobStands host live plain

pub found_job : (host : HostState) (session : LiveSession) (s : Session) (word : JobWord) (live : LiveJob) → Stands host session s → live_in session word ≡ Some live → Found host s word live
found_job host session s word live stands is =
    by (live_job s word) refl (subst (λ (o : Option LiveJob). FoundBoth host o (live_job s word)) is (both_found host (is_at (word_cmp word)) (jobs_of session) s.jobs stands.jobs))
  where
    by : (o : Option Job) → live_job s word ≡ o → FoundBoth host (Some live) o → Found host s word live
    by None none both = absurd both
    by (Some j) some both = record { plain = j; found = some; is = both }

pub no_job : (host : HostState) (session : LiveSession) (s : Session) (word : JobWord) → Stands host session s → live_in session word ≡ None → live_job s word ≡ None
no_job host session s word stands is =
    by (live_job s word) (subst (λ (o : Option LiveJob). FoundBoth host o (live_job s word)) is (both_found host (is_at (word_cmp word)) (jobs_of session) s.jobs stands.jobs))
  where
    by : (o : Option Job) → FoundBoth host None o → o ≡ None
    by None both = refl
    by (Some j) both = absurd both

-- ---- the log of a live job, while its file alone changes

-- what is so of the job, where it is found under its word
pub so_of_job : (session : LiveSession) (word : JobWord) (live : LiveJob) (test : LiveJob → Bool) {A : Type 0} → live_in session word ≡ Some live → A ⊎ IsTrue (test live) → A ⊎ IsTrue (job_is test (live_in session word))
so_of_job session word live test found (inl a) = inl a
so_of_job session word live test found (inr holds) = inr (subst (λ (o : Option LiveJob). IsTrue (job_is test o)) (sym found) holds)

module _ (before after : HostState) (session : LiveSession) (word : JobWord) (live : LiveJob) (sound : IsSound before session) (found : live_in session word ≡ Some live) where
  abbrev test : JobWord → Bool
  test = is_at (word_cmp word)

  pub was_live : IsLive session.greatest (listed_in session) live
  was_live = all_found (λ x. IsLive session.greatest (listed_in session) x) test (jobs_of session) live sound.memory.jobs found

  pub was_sound : JobIsSound before live
  was_sound = record { fit = was_live.fit; stands = λ tells. all_found (λ x. StandsForOne before x) test (jobs_of session) live (sound.jobs tells) found }

  -- what the call on the job says of the tables of its run, the session says of the job, and the other way round
  part_so : (s : Session) (f : Found before s word live) (part : ℕ) → PartPasses (live_in session word) (live_job s word) part ≡ PassesWith live.plan f.plain.plan f.plain part
  part_so s f part = λ i. PartPasses (found i) (f.found i) part

  pub part_passed : (s : Session) (f : Found before s word live) (part : ℕ) {A : Type 0} → A ⊎ PassesWith live.plan f.plain.plan f.plain part → A ⊎ PartPasses (live_in session word) (live_job s word) part
  part_passed s f part (inl a) = inl a
  part_passed s f part (inr many) = inr (subst (λ (P : Type 0). P) (sym (part_so s f part)) many)

  pub part_passes : (s : Session) (f : Found before s word live) (part : ℕ) → PartPasses (live_in session word) (live_job s word) part → PassesWith live.plan f.plain.plan f.plain part
  part_passes s f part many = subst (λ (P : Type 0). P) (part_so s f part) many

  publication_so : (s : Session) (f : Found before s word live) → PublicationPasses (live_in session word) (live_job s word) ≡ Passes (flushed_firsts live f.plain) live.settings.parts (layer_changes (after_flush f.plain))
  publication_so s f = (λ i. PublicationPasses (found i) (f.found i)) ∙ ap (λ (t : Settings). Passes (flushed_firsts live f.plain) t.parts (layer_changes (after_flush f.plain))) f.is.settings

  pub publication_passed : (s : Session) (f : Found before s word live) {A : Type 0} → A ⊎ Passes (flushed_firsts live f.plain) live.settings.parts (layer_changes (after_flush f.plain)) → A ⊎ PublicationPasses (live_in session word) (live_job s word)
  publication_passed s f (inl a) = inl a
  publication_passed s f (inr many) = inr (subst (λ (P : Type 0). P) (sym (publication_so s f)) many)

  pub publication_passes : (s : Session) (f : Found before s word live) → PublicationPasses (live_in session word) (live_job s word) → Passes (flushed_firsts live f.plain) live.settings.parts (layer_changes (after_flush f.plain))
  publication_passes s f many = subst (λ (P : Type 0). P) (publication_so s f) many

  -- what the call on the job says of a piece that was refused, the session says of the job
  pub past_of : (new : LiveJob) → new.settings ≡ live.settings → (0 < new.layers.log.refused → live.layers.log.limit < new.layers.log.len + new.layers.log.refused) → IsPast new
  past_of new same past = λ some. omega (arith, past some, was_live.fit.log_bytes, ap (λ (t : Settings). t.log_bytes) same)

  module _ (only : Only live.ids.job before after) where
    pub own_keeps : IsTrue before.tells → (m : ℕ) → m ≢ live.ids.job → Keeps before after m
    own_keeps tells m other = only_keeps only tells m other

    no_root : 0 ≢ live.ids.job
    no_root is = absurd (omega (arith, is, was_live.fit.ids.job))

    pub unlisted : AllByRecursion (λ l. l.job ≢ live.ids.job) (listed_in session)
    unlisted = unlisted_apart (listed_in session) live.ids.job was_live.unlisted

    pub listed_kept : IsTrue before.tells → AllByRecursion (λ l. Keeps before after l.job) (listed_in session)
    listed_kept tells = keep_listed before after (listed_in session) live.ids.job (own_keeps tells) unlisted

    pub registry_still : IsTrue after.tells → RegistryStands after session.registry
    registry_still tells = let told = sym only.tells ∙ tells in registry_kept before after session.registry (own_keeps told 0 no_root) (sound.registry told)

    pub own_value : (s : Session) → IsTrue before.tells → Stands before session s → value_on after ≡ Some s.registry
    own_value s tells stands = registry_value before after session s tells sound stands (own_keeps tells 0 no_root) (listed_kept tells)

    pub own_job_images : (s : Session) (later : Registry) → IsTrue before.tells → Stands before session s → LeavesOnly (HoldsEither s.registry later) before after
    own_job_images s later tells stands = own_images before after session s later live.ids.job tells sound stands no_root unlisted only

    -- the session with another state of the job
    module _ (new : LiveJob) (jobs : Jobs) (set : jobs.entries ≡ set_value test (jobs_of session) new) where
      abbrev changed : LiveSession
      changed = record session { jobs = jobs }

      pub still_unrefused : new.layers.log.refused ≡ 0 → has_refused changed ≡ false
      still_unrefused none =
          ap (λ (es : Live). list_any (λ e. nat_lt 0 e.1.layers.log.refused) es) set
          ∙ unrefused (set_value test (jobs_of session) new) (all_set (λ x. x.layers.log.refused ≡ 0) test (jobs_of session) new none (each_unrefused session.greatest (listed_in session) (jobs_of session) sound.memory.jobs))

      now_refused : 0 < new.layers.log.refused → has_refused changed ≡ true
      now_refused some = ap (λ (es : Live). list_any (λ e. nat_lt 0 e.1.layers.log.refused) es) set ∙ any_set test (jobs_of session) live new found (lt-ltb 0 new.layers.log.refused some)

      log_refused : 0 < new.layers.log.refused → IsTrue (refused_of (jobs_of changed) word)
      log_refused some =
          let now : live_in changed word ≡ Some new = ap (lookup test) set ∙ found_set test (jobs_of session) live new found in
          subst (λ (o : Option LiveJob). IsTrue (job_is (λ j. nat_lt 0 j.layers.log.refused) o)) (sym now) (lt-ltb 0 new.layers.log.refused some)

      -- `LogFull` where the job's log refused a piece, and else only where a run of it may need too many tables
      pub full_with : {T : Type 0} (result : Result T Fault) (many : Bool) → (IsErrOf result LogFull → (0 < new.layers.log.refused) ⊎ IsTrue many) → IsPast new → (0 < new.layers.log.refused → IsErrOf result LogFull) → IsFullWhere result (refused_of (jobs_of changed) word) many changed
      full_with result many only past refused = record { past = subst (λ (es : Live). AllByRecursion (λ e. IsPast e.1) es) (sym set) (all_set IsPast test (jobs_of session) new past (none_past (jobs_of session) (sound_refused session sound.memory))); only = λ is. elim (only is) [ inl holds ↦ inl (log_refused holds) | inr passes ↦ inr passes ]; refused = λ holds. refused (some holds) }
        where
          some : IsTrue (has_refused changed) → 0 < new.layers.log.refused
          some holds = by new.layers.log.refused refl
            where
              by : (n : ℕ) → new.layers.log.refused ≡ n → 0 < n
              by zero none = absurd (not_true (has_refused changed) (still_unrefused none) holds)
              by (suc n) is = omega arith

      -- the same basis, and an empty one, have listed jobs alone
      listed_basis : LeavesBasis live new → AllByRecursion (IsListed (listed_in session)) (selected new.layers)
      listed_basis (inl same) = subst (AllByRecursion (IsListed (listed_in session))) (sym same) was_live.basis
      listed_basis (inr none) = subst (AllByRecursion (IsListed (listed_in session))) (sym none) tt

      -- and are what the job's begin selected, or nothing
      begun_basis : new.ids.job ≡ live.ids.job → LeavesBasis live new → HasItsBegin session.kept live → HasItsBegin session.kept new
      begun_basis number (inl same) (inl was) = inl (same ∙ was ∙ ap (begin_in session.kept) (sym number))
      begun_basis number (inl same) (inr none) = inr (same ∙ none)
      begun_basis number (inr none) was = inr none

      pub changed_sound : JobIsSound after new → new.ids.job ≡ live.ids.job → LeavesBasis live new → IsSound after changed
      changed_sound is same basis = record {
        memory = record {
          live = sound.memory.live;
          registry = sound.memory.registry;
          settings = sound.memory.settings;
          greatest = sound.memory.greatest;
          listed = sound.memory.listed;
          jobs = subst (λ (es : Live). AllByRecursion (λ e. IsLive session.greatest (listed_in session) e.1) es) (sym set)
              (all_set (λ x. IsLive session.greatest (listed_in session) x) test (jobs_of session) new
              (record {
                fit = is.fit;
                numbered = subst (λ (n : ℕ). n ≤ session.greatest) (sym same) was_live.numbered;
                unlisted = subst (λ (n : ℕ). lists_job (listed_in session) n ≡ false) (sym same) was_live.unlisted;
                basis = listed_basis basis;
              })
              sound.memory.jobs);
          apart = subst AreApart (sym set) (apart_set test (jobs_of session) live new found same sound.memory.apart);
          kept = sound.memory.kept;
          entries = sound.memory.entries;
          inside = sound.memory.inside;
          basis = subst (λ (es : Live). AllByRecursion (λ e. HasItsBegin session.kept e.1) es) (sym set)
              (all_set (HasItsBegin session.kept) test (jobs_of session) new (begun_basis same basis (all_found (HasItsBegin session.kept) test (jobs_of session) live sound.memory.basis found)) sound.memory.basis);
          ended = λ job none. sound.memory.ended job (none_unset test (jobs_of session) live new job found same (subst (NoneHas job) set none));
        };
        registry = registry_still;
        jobs = λ tells. let told = sym only.tells ∙ tells in
            subst (λ (es : Live). AllByRecursion (PlainOf after) es) (sym set)
            (plains_changed before after (listed_in session) session.greatest live.ids.job (own_keeps told) was_live.unlisted test (jobs_of session) live new found refl sound.memory.jobs sound.memory.apart (is.stands tells) (sound.jobs told));
        kept = λ tells. let told = sym only.tells ∙ tells in kept_still before after (listed_in session) session.kept (bytes_stay before after (listed_in session) (listed_kept told)) sound.memory.entries (sound.kept told);
      }

      pub changed_stands : (s : Session) (j : Job) → IsTrue before.tells → Stands before session s → JobStands after new j → Stands after changed (record s { jobs = set_value test s.jobs j })
      changed_stands s j tells stands is = record {
        registry = stands.registry ∙ sym (same_publications (bytes_of before) (bytes_of after) (listed_in session) (bytes_stay before after (listed_in session) (listed_kept tells)));
        settled = settled_stay before after (listed_in session) (listed_kept tells) stands.settled;
        jobs = subst (λ (es : Live). AllZip (EntryStands after) es (set_value test s.jobs j)) (sym set)
            (zip_changed before after (listed_in session) session.greatest live.ids.job (own_keeps tells) was_live.unlisted test (jobs_of session) s.jobs live new j found refl sound.memory.jobs sound.memory.apart is stands.jobs);
        greatest = stands.greatest;
        settings = stands.settings;
      }

      -- a call on the job that met a fault
      pub fault_worked : {T : Type 0} (work : Work) (fault : Fault) → work.log (jobs_of changed) ≡ refused_of (jobs_of changed) word → work.writes session live.ids.job ≡ true → HasFaultCause {T = T} before after (Err fault) → (IsErrOf {T = T} (Err fault) LogFull → (0 < new.layers.log.refused) ⊎ IsTrue (work.many session)) → IsPast new → (0 < new.layers.log.refused → IsErrOf {T = T} (Err fault) LogFull)
          → ((s : Session) → IsTrue before.tells → Stands before session s → fault ≡ LogFull → IsShort (work.job s))
          → ((s : Session) → IsTrue before.tells → Stands before session s → fault ≡ LogFull → (0 < new.layers.log.refused) ⊎ work.passes s session) → IsWorked work before after session changed (Err fault)
      fault_worked {T} work fault logged written cause full past refused short passes = record {
        sound = tt;
        settings = tt;
        reply = λ s tells stands. tt;
        stands = λ s tells stands. tt;
        value = λ s tells stands. leaves fault s.registry (work.step s).session.registry (value_on after) (own_value s tells stands);
        images = λ s tells stands. own_job_images s (work.step s).session.registry tells stands;
        writes = one_of_these written only;
        cause = handed_cause fault (none_yet before) cause;
        full = subst (λ (b : Bool). IsFullWhere {T = Vec ℕ} (Err fault) b (work.many session) changed) (sym logged) (full_with (Err fault) (work.many session) (λ is. full (ap Err (ap fault_or is))) past (λ some. ap Err (ap (fault_or {T = T}) (refused some))));
        passes = λ s tells stands is. elim (passes s tells stands (ap fault_or is)) [ inl holds ↦ inl (logged ∙ log_refused holds) | inr many ↦ inr many ];
        short = λ s tells stands is. short s tells stands (ap fault_or is);
        reads = λ quiet. tt;
        names = tt;
      }
        where
          leaves : (f : Fault) (a b : Registry) (files : Option Registry) → files ≡ Some a → LeavesValue {T = Vec ℕ} (Err f) a b files
          leaves NoMemory a b files same = same
          leaves Disk a b files same = tt
          leaves LogFull a b files same = same
          leaves (Changed file at) a b files same = same

      -- a call on the job that was answered, and then the text of the reply
      pub answered_worked : (work : Work) (next : (s : Session) → Found before s word live → Step) (result : Result (Vec ℕ) Fault) → NoFault before after → new.layers.log.refused ≡ 0 → session.settings ≡ work.settings session.settings
          → JobIsSound after new → new.ids.job ≡ live.ids.job → LeavesBasis live new
          → ((s : Session) (f : Found before s word live) → work.step s ≡ next s f) → ((s : Session) (f : Found before s word live) → (next s f).session.registry ≡ s.registry)
          → ((s : Session) (f : Found before s word live) → IsTrue before.tells → IfOk result (λ bytes. bytes.items ≡ text (next s f).reply))
          → ((s : Session) (f : Found before s word live) → IsTrue before.tells → Stands before session s → Stands after changed (next s f).session) → OnlyMemory result → (work.quiet session → ⊥) → work.writes session live.ids.job ≡ true → IsWorked work before after session changed result
      answered_worked work next result none unrefused given is same basis stepped kept says stood memory loud written =
          let new_sound = changed_sound is same basis in
          let found_in : (s : Session) → Stands before session s → Found before s word live = λ s stands. found_job before session s word live stands found in
          worked_by_memory before after session changed work result memory (one_of_these written only) none (still_unrefused unrefused) given (on_ok result (IsSound after changed) new_sound)
          (λ s tells stands. let f = found_in s stands in subst (λ (t : Step). IfOk result (λ bytes. bytes.items ≡ text t.reply)) (sym (stepped s f)) (says s f tells))
          (λ s tells stands. let f = found_in s stands in subst (λ (t : Step). OnOk result (Stands after changed t.session)) (sym (stepped s f)) (on_ok result (Stands after changed (next s f).session) (stood s f tells stands)))
          (λ s tells stands. own_value s tells stands)
          (λ s tells stands. let f = found_in s stands in ap (λ (t : Step). t.session.registry) (stepped s f) ∙ kept s f)
          (λ s tells stands. own_job_images s (work.step s).session.registry tells stands) (λ quiet. absurd (loud quiet))
          (on_ok result (AreNamed work.names session changed) (same_names session changed work.names refl refl new_sound.memory))

-- ---- a job that ends

pub ended_worked : (host : HostState) (session : LiveSession) (word : JobWord) (live : LiveJob) (jobs : Jobs) (kept : Kept) (result : Result (Vec ℕ) Fault) → IsSound host session → live_in session word ≡ Some live
    → jobs.entries ≡ remove_entry (is_at (word_cmp word)) (jobs_of session) → HasEnded session.kept kept (number_of live) → IfOk result (λ bytes. bytes.items ≡ text OkReply) → OnlyMemory result
    → IsWorked (plain (λ s. ends s word)) host host session (record session { jobs = jobs; kept = kept }) result
ended_worked host session word live jobs kept result sound found gone ended says memory =
    let test : JobWord → Bool = is_at (word_cmp word) in
    let new : LiveSession = record session { jobs = jobs; kept = kept } in
    let new_sound : IsSound host new = record {
      memory = record {
        live = sound.memory.live;
        registry = sound.memory.registry;
        settings = sound.memory.settings;
        greatest = sound.memory.greatest;
        listed = sound.memory.listed;
        jobs = subst (λ (es : Live). AllByRecursion (λ e. IsLive session.greatest (listed_in session) e.1) es) (sym gone) (all_remove (λ x. IsLive session.greatest (listed_in session) x) test (jobs_of session) sound.memory.jobs);
        apart = subst AreApart (sym gone) (apart_remove test (jobs_of session) sound.memory.apart);
        kept = ended.indexed;
        entries = each_ended (IsEntry (listed_in session)) session.kept kept (number_of live) ended sound.memory.entries;
        inside = each_ended IsInside session.kept kept (number_of live) ended sound.memory.inside;
        basis = subst (λ (es : Live). AllByRecursion (λ e. HasItsBegin kept e.1) es) (sym gone)
            (begins_still session.kept kept (number_of live) (remove_entry test (jobs_of session)) ended (removed_apart test (jobs_of session) live found sound.memory.apart) (all_remove (HasItsBegin session.kept) test (jobs_of session) sound.memory.basis));
        ended = λ job none. still_none session.kept kept (number_of live) ended job (λ other. sound.memory.ended job (none_unremoved test (jobs_of session) live job found other (subst (NoneHas job) gone none)));
      };
      registry = sound.registry;
      jobs = λ tells. subst (λ (es : Live). AllByRecursion (PlainOf host) es) (sym gone) (all_remove (λ x. StandsForOne host x) test (jobs_of session) (sound.jobs tells));
      kept = λ tells. each_ended (IsOwn host) session.kept kept (number_of live) ended (sound.kept tells);
    } in
    let stepped : (s : Session) (f : Found host s word live) → ends s word ≡ record { session = record s { jobs = remove_entry test s.jobs }; reply = OkReply } = λ s f. ap (λ (o : Option Job). of_live o s (λ j. record { session = record s { jobs = remove_entry test s.jobs }; reply = OkReply })) f.found in
    worked_by_memory host host session new (plain (λ s. ends s word)) result memory (reads_these (reads_nothing host)) (none_yet host) (sound_refused new new_sound.memory) refl (on_ok result (IsSound host new) new_sound)
    (λ s tells stands. subst (λ (t : Step). IfOk result (λ bytes. bytes.items ≡ text t.reply)) (sym (stepped s (found_job host session s word live stands found))) says)
    (λ s tells stands.
    subst (λ (t : Step). OnOk result (Stands host new t.session)) (sym (stepped s (found_job host session s word live stands found)))
    (on_ok result (Stands host new (record s { jobs = remove_entry test s.jobs })) (record {
      registry = stands.registry;
      settled = stands.settled;
      jobs = subst (λ (es : Live). AllZip (EntryStands host) es (remove_entry test s.jobs)) (sym gone) (zip_remove host test (jobs_of session) s.jobs stands.jobs);
      greatest = stands.greatest;
      settings = stands.settings;
    })))
    (λ s tells stands. stands_value host session s tells sound stands)
    (λ s tells stands. ap (λ (t : Step). t.session.registry) (stepped s (found_job host session s word live stands found)))
    (λ s tells stands. read_images host host session s (ends s word).session.registry tells sound stands (reads_nothing host)) (λ quiet. absurd quiet)
    (on_ok result (AreNamed None session new) (ended_names session new None (number_of live) refl ended (subst (AllByRecursion (λ e. number_of live ≢ number_of e.1)) (sym gone) (removed_apart test (jobs_of session) live found sound.memory.apart)) new_sound.memory))
