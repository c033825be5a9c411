-- What stands on a host stands on a later one that has the files it stands on.
use Rattle.std.proofs.Common.{◌≡◌, ◌≢◌, ◌∙◌, ℕ, Bool, true, false, cond, Some, List, [], ◌∷◌, sym, ap, subst}
use Rattle.std.proofs.lemmas.Bool.{eq-eqb}
use Rattle.std.specs.Prelude.{IsTrue, nat_eq, ◌||◌}
use Rattle.std.specs.List.{AllByRecursion, AllZip}
use Rattle.std.specs.Map.{lookup, set_value}
use Rattle.dfs_host.specs.Disk.{Disk, FileState, IsSettled}
use Rattle.dfs_host.specs.Host.{HostState, bytes_of, Only, OnlyReads}
use Rattle.dfs_change.specs.declared.change.Change.{Change}
use Rattle.dfs_view.specs.Layers.{selected}
use Rattle.dfs_job.specs.Job.{Job}
use Rattle.dfs_record.specs.Delta.{Delta}
use Rattle.dfs_job.specs.Stands.{IsStoredFor, JobStands, StandsForOne}
use Rattle.dfs_job.proofs.Apart.{ReadsSame, basis_still, stands_still}
use Rattle.dfs_registry.specs.declared.listed.Listed.{Listed}
use Rattle.dfs_registry.specs.Body.{lists_job}
use Rattle.dfs_registry.specs.Seen.{RegistryState}
use Rattle.dfs_registry.specs.Standing.{RegistryStands}
use Rattle.dfs_script.specs.declared.JobWord.{JobWord}
use Rattle.dfs_job.specs.declared.job.Job.{Job as LiveJob}
use Rattle.dfs_session.specs.declared.keeping.Kept.{Kept}
use Rattle.dfs_session.specs.declared.session.Session.{Session as LiveSession}
use Rattle.dfs_session.specs.Kept.{EachBegun, IsOwn}
use Rattle.dfs_session.specs.Session.{Session}
use Rattle.dfs_session.specs.Sound.{AreApart, IsListed, IsLive, IsSound, PlainOf, jobs_of, listed_in, number_of}
use Rattle.dfs_session.specs.Stands.{EntryStands, Stands, LogIsSettled}
use Rattle.dfs_session.proofs.Begun.{each_mapped, opened_still}
use Rattle.dfs_session.proofs.Jobs.{Live, Plain, all_found, same_job}
use Rattle.dfs_session.proofs.Lists.{mapped}
use Rattle.dfs_registry.proofs.Standing.{standing_list}
use Rattle.dfs_session.specs.Files.{value_on}
use Rattle.dfs_session.proofs.Values.{listed_value, same_publications}

abbrev pub Keeps : HostState → HostState → ℕ → Type 0
Keeps before after n = after.disk.files n ≡ before.disk.files n

abbrev bytes_in : FileState → List ℕ
bytes_in file = file.bytes

pub reads_keep : {before after : HostState} → OnlyReads before after → IsTrue before.tells → (n : ℕ) → Keeps before after n
reads_keep only tells n = ap (λ (disk : Disk). disk.files n) (only.content tells).disk

pub only_keeps : {k : ℕ} {before after : HostState} → Only k before after → IsTrue before.tells → (n : ℕ) → n ≢ k → Keeps before after n
only_keeps only tells n other = (only.content tells).others n other

pub registry_kept : (before after : HostState) (registry : RegistryState) → Keeps before after 0 → RegistryStands before registry → RegistryStands after registry
registry_kept before after registry keeps stands = record {
  settled = subst IsSettled (sym keeps) stands.settled;
  listing = stands.listing;
  file = ap bytes_in keeps ∙ stands.file;
}

-- what a job stands on is kept
pub record JobKept (before after : HostState) (live : LiveJob) : Type 0 where
  pub own : Keeps before after live.layers.log.file
  pub basis : AllByRecursion (λ (c : Change). Keeps before after c.listed.job) (selected live.layers)

abbrev pub EntryKept : HostState → HostState → JobWord × LiveJob → Type 0
EntryKept before after e = JobKept before after e.1

pub job_kept : (before after : HostState) (live : LiveJob) (j : Job) → JobKept before after live → JobStands before live j → JobStands after live j
job_kept before after live j kept stands =
    stands_still before after live j (ap bytes_in kept.own)
    (mapped (λ (c : Change). Keeps before after c.listed.job) (ReadsSame before after) (selected live.layers) (λ c keeps. ap bytes_in keeps) kept.basis) stands

plain_kept : (before after : HostState) (live : LiveJob) → JobKept before after live → StandsForOne before live → StandsForOne after live
plain_kept before after live kept one = record { plain = one.plain; stands = job_kept before after live one.plain kept one.stands }

pub plains_stay : (before after : HostState) (es : List (JobWord × LiveJob)) → AllByRecursion (EntryKept before after) es → AllByRecursion (PlainOf before) es → AllByRecursion (PlainOf after) es
plains_stay before after [] keep all = tt
plains_stay before after (e ∷ es) keep all = (plain_kept before after e.1 keep.0 all.0, plains_stay before after es keep.1 all.1)

pub zip_stays : (before after : HostState) (es : Live) (fs : Plain) → AllByRecursion (EntryKept before after) es → AllZip (EntryStands before) es fs → AllZip (EntryStands after) es fs
zip_stays before after [] [] keep zip = tt
zip_stays before after [] (f ∷ fs) keep zip = absurd zip
zip_stays before after (e ∷ es) [] keep zip = absurd zip
zip_stays before after (e ∷ es) (f ∷ fs) keep zip = (record { word = zip.0.word; job = job_kept before after e.1 f.1 keep.0 zip.0.job }, zip_stays before after es fs keep.1 zip.1)

pub settled_stay : (before after : HostState) (ls : List Listed) → AllByRecursion (λ l. Keeps before after l.job) ls → AllByRecursion (LogIsSettled before) ls → AllByRecursion (LogIsSettled after) ls
settled_stay before after [] keep all = tt
settled_stay before after (l ∷ ls) keep all = (subst IsSettled (sym keep.0) all.0, settled_stay before after ls keep.1 all.1)

pub bytes_stay : (before after : HostState) (ls : List Listed) → AllByRecursion (λ l. Keeps before after l.job) ls → AllByRecursion (λ l. bytes_of after l.job ≡ bytes_of before l.job) ls
bytes_stay before after [] keep = tt
bytes_stay before after (l ∷ ls) keep = (ap bytes_in keep.0, bytes_stay before after ls keep.1)

abbrev IsNone : Bool → Type 0
IsNone true = ⊥
IsNone false = Unit {0}

first_false : (a b : Bool) → (a || b) ≡ false → a ≡ true → ⊥
first_false true b none is = subst IsNone (sym none) tt
first_false false b none is = subst IsNone is tt

second_false : (a b : Bool) → (a || b) ≡ false → b ≡ false
second_false true b none = absurd (subst IsNone (sym none) tt)
second_false false b none = none

-- a number that is not listed is that of no publication
pub unlisted_apart : (ls : List Listed) (n : ℕ) → lists_job ls n ≡ false → AllByRecursion (λ l. l.job ≢ n) ls
unlisted_apart [] n is = tt
unlisted_apart (l ∷ ls) n is =
    (λ same. first_false (nat_eq l.job n) (lists_job ls n) is (eq-eqb l.job n same), unlisted_apart ls n (second_false (nat_eq l.job n) (lists_job ls n) is))

-- calls that change one file keep the logs of other jobs
pub keep_listed : (before after : HostState) (ls : List Listed) (n : ℕ) → ((m : ℕ) → m ≢ n → Keeps before after m) → AllByRecursion (λ l. l.job ≢ n) ls → AllByRecursion (λ l. Keeps before after l.job) ls
keep_listed before after [] n others all = tt
keep_listed before after (l ∷ ls) n others all = (others l.job all.0, keep_listed before after ls n others all.1)

pub keep_all : (before after : HostState) (ls : List Listed) → ((m : ℕ) → Keeps before after m) → AllByRecursion (λ l. Keeps before after l.job) ls
keep_all before after [] each = tt
keep_all before after (l ∷ ls) each = (each l.job, keep_all before after ls each)

all_changes : (P : ℕ → Type 0) → ((m : ℕ) → P m) → (cs : List Change) → AllByRecursion (λ (c : Change). P c.listed.job) cs
all_changes P each [] = tt
all_changes P each (c ∷ cs) = (each c.listed.job, all_changes P each cs)

pub keep_all_jobs : (before after : HostState) (es : Live) → ((m : ℕ) → Keeps before after m) → AllByRecursion (EntryKept before after) es
keep_all_jobs before after [] each = tt
keep_all_jobs before after (e ∷ es) each = (record { own = each e.1.layers.log.file; basis = all_changes (Keeps before after) each (selected e.1.layers) }, keep_all_jobs before after es each)

-- a change set that is listed is not that of a job that is not
listed_other : (ls : List Listed) (a n : ℕ) → lists_job ls a ≡ true → lists_job ls n ≡ false → a ≢ n
listed_other ls a n is none same = subst IsNone (sym (sym is ∙ ap (lists_job ls) same ∙ none)) tt

-- calls that change one file keep the jobs with other numbers, where it is that of no listed job
module _ (before after : HostState) (ls : List Listed) (greatest n : ℕ) (others : (m : ℕ) → m ≢ n → Keeps before after m) (unlisted : lists_job ls n ≡ false) where
  keep_basis : (cs : List Change) → AllByRecursion (IsListed ls) cs → AllByRecursion (λ (c : Change). Keeps before after c.listed.job) cs
  keep_basis cs listed = mapped (IsListed ls) (λ (c : Change). Keeps before after c.listed.job) cs (λ c is. others c.listed.job (listed_other ls c.listed.job n is unlisted)) listed

  keep_job : (x : LiveJob) → IsLive greatest ls x → number_of x ≢ n → JobKept before after x
  keep_job x live other = record { own = others x.layers.log.file (λ is. other (sym live.fit.file ∙ is)); basis = keep_basis (selected x.layers) live.basis }

  pub keep_jobs : (es : Live) → AllByRecursion (λ e. IsLive greatest ls e.1) es → AllByRecursion (λ e. number_of e.1 ≢ n) es → AllByRecursion (EntryKept before after) es
  keep_jobs [] live apart = tt
  keep_jobs (e ∷ es) live apart = (keep_job e.1 live.0 apart.0, keep_jobs es live.1 apart.1)

  -- one of the jobs becomes another one, with the number of the file
  pub zip_changed : (test : JobWord → Bool) (es : Live) (fs : Plain) (old x : LiveJob) (j : Job) → lookup test es ≡ Some old → number_of old ≡ n → AllByRecursion (λ e. IsLive greatest ls e.1) es → AreApart es → JobStands after x j
      → AllZip (EntryStands before) es fs → AllZip (EntryStands after) (set_value test es x) (set_value test fs j)
  zip_changed test [] [] old x j is same live apart stands zip = tt
  zip_changed test [] (f ∷ fs) old x j is same live apart stands zip = absurd zip
  zip_changed test (e ∷ es) [] old x j is same live apart stands zip = absurd zip
  zip_changed test (e ∷ es) (f ∷ fs) old x j is same live apart stands zip =
      subst (λ (w : JobWord). AllZip (EntryStands after) (set_value test (e ∷ es) x) (cond (test w) ((f.0, j) ∷ fs) (f ∷ set_value test fs j))) (sym zip.0.word)
      (by (test e.0) (λ later. zip_changed test es fs old x j later same live.1 apart.1 stands zip.1) is)
    where
      by : (b : Bool) → (lookup test es ≡ Some old → AllZip (EntryStands after) (set_value test es x) (set_value test fs j)) → cond b (Some e.1) (lookup test es) ≡ Some old
          → AllZip (EntryStands after) (cond b ((e.0, x) ∷ es) (e ∷ set_value test es x)) (cond b ((f.0, j) ∷ fs) (f ∷ set_value test fs j))
      by true rest first =
          let number : number_of e.1 ≡ n = ap number_of (same_job e.1 old first) ∙ same in (
            record { word = zip.0.word; job = stands },
            zip_stays before after es fs (keep_jobs es live.1 (mapped (λ g. number_of e.1 ≢ number_of g.1) (λ g. number_of g.1 ≢ n) es (λ g other is. other (number ∙ sym is)) apart.0)) zip.1,
          )
      by false rest later =
          let other : number_of e.1 ≢ n = λ number. all_found (λ g. number_of e.1 ≢ number_of g) test es old apart.0 later (number ∙ sym same) in
          (record { word = zip.0.word; job = job_kept before after e.1 f.1 (keep_job e.1 live.0 other) zip.0.job }, rest later)

  pub plains_changed : (test : JobWord → Bool) (es : Live) (old x : LiveJob) → lookup test es ≡ Some old → number_of old ≡ n → AllByRecursion (λ e. IsLive greatest ls e.1) es → AreApart es → StandsForOne after x
      → AllByRecursion (PlainOf before) es → AllByRecursion (PlainOf after) (set_value test es x)
  plains_changed test [] old x is same live apart stands all = tt
  plains_changed test (e ∷ es) old x is same live apart stands all = by (test e.0) (λ later. plains_changed test es old x later same live.1 apart.1 stands all.1) is
    where
      by : (b : Bool) → (lookup test es ≡ Some old → AllByRecursion (PlainOf after) (set_value test es x)) → cond b (Some e.1) (lookup test es) ≡ Some old → AllByRecursion (PlainOf after) (cond b ((e.0, x) ∷ es) (e ∷ set_value test es x))
      by true rest first =
          let number : number_of e.1 ≡ n = ap number_of (same_job e.1 old first) ∙ same in
          (stands, plains_stay before after es (keep_jobs es live.1 (mapped (λ g. number_of e.1 ≢ number_of g.1) (λ g. number_of g.1 ≢ n) es (λ g other is. other (number ∙ sym is)) apart.0)) all.1)
      by false rest later =
          let other : number_of e.1 ≢ n = λ number. all_found (λ g. number_of e.1 ≢ number_of g) test es old apart.0 later (number ∙ sym same) in
          (plain_kept before after e.1 (keep_job e.1 live.0 other) all.0, rest later)

-- what is kept of begins, where the files are
pub opened_stay : (before after : HostState) (kept : Kept) → ((m : ℕ) → Keeps before after m) → EachBegun (IsOwn before) kept → EachBegun (IsOwn after) kept
opened_stay before after kept each = each_mapped (IsOwn before) (IsOwn after) kept (λ c is. opened_still before after c (ap bytes_in (each c.listed.job)) is)

-- a session that stood before calls that only read
pub sound_reads : (before after : HostState) (session : LiveSession) → OnlyReads before after → IsSound before session → IsSound after session
sound_reads before after session only sound = record {
  memory = sound.memory;
  registry = λ tells. let told = sym only.tells ∙ tells in registry_kept before after session.registry (reads_keep only told 0) (sound.registry told);
  jobs = λ tells. let told = sym only.tells ∙ tells in plains_stay before after (jobs_of session) (keep_all_jobs before after (jobs_of session) (reads_keep only told)) (sound.jobs told);
  kept = λ tells. let told = sym only.tells ∙ tells in opened_stay before after session.kept (reads_keep only told) (sound.kept told);
}

-- the same publications stand where the listed logs are kept, and the jobs where theirs are
pub stands_kept : (before after : HostState) (session : LiveSession) (s : Session) → AllByRecursion (λ l. Keeps before after l.job) (listed_in session) → AllByRecursion (EntryKept before after) (jobs_of session) → Stands before session s → Stands after session s
stands_kept before after session s keep jobs stands = record {
  registry = stands.registry ∙ sym (same_publications (bytes_of before) (bytes_of after) (listed_in session) (bytes_stay before after (listed_in session) keep));
  settled = settled_stay before after (listed_in session) keep stands.settled;
  jobs = zip_stays before after (jobs_of session) s.jobs jobs stands.jobs;
  greatest = stands.greatest;
  settings = stands.settings;
}

-- calls that only read
pub stands_read : (before after : HostState) (session : LiveSession) (s : Session) → OnlyReads before after → IsTrue before.tells → Stands before session s → Stands after session s
stands_read before after session s only tells stands =
    stands_kept before after session s (keep_all before after (listed_in session) (reads_keep only tells)) (keep_all_jobs before after (jobs_of session) (reads_keep only tells)) stands

-- what the files stand for is kept where file 0 and the listed logs are
pub registry_value : (before after : HostState) (session : LiveSession) (s : Session) → IsTrue before.tells → IsSound before session → Stands before session s → Keeps before after 0 → AllByRecursion (λ l. Keeps before after l.job) (listed_in session)
    → value_on after ≡ Some s.registry
registry_value before after session s tells sound stands zero keep =
    listed_value after (listed_in session) (standing_list after session.registry (registry_kept before after session.registry zero (sound.registry tells)))
    ∙ ap Some (sym (stands.registry ∙ sym (same_publications (bytes_of before) (bytes_of after) (listed_in session) (bytes_stay before after (listed_in session) keep))))

-- what was selected before calls that only read
pub zip_read : (before after : HostState) → OnlyReads before after → IsTrue before.tells → (cs : List Change) (ds : List Delta) → AllZip (IsStoredFor before) cs ds → AllZip (IsStoredFor after) cs ds
zip_read before after only tells cs ds zip = basis_still before after cs ds (mapped_all (λ c. ap bytes_in (reads_keep only tells c.listed.job)) cs) zip
  where
    mapped_all : ((c : Change) → ReadsSame before after c) → (cs : List Change) → AllByRecursion (ReadsSame before after) cs
    mapped_all each [] = tt
    mapped_all each (c ∷ cs) = (each c, mapped_all each cs)

pub all_opened : (before after : HostState) → OnlyReads before after → IsTrue before.tells → (cs : List Change) → AllByRecursion (IsOwn before) cs → AllByRecursion (IsOwn after) cs
all_opened before after only tells cs all = mapped (IsOwn before) (IsOwn after) cs (λ c is. opened_still before after c (ap bytes_in (reads_keep only tells c.listed.job)) is) all
