-- What a begin does, seen from the session in memory.
use Rattle.std.proofs.Common.{◌≡◌, ◌∙◌, inl, inr, ℕ, Bool, true, false, cond, List, [], ◌∷◌, Option, Some, None, Result, Err, length, map, refl, sym, ap, subst}
use Rattle.std.proofs.lemmas.List.{length-map}
use Rattle.std.specs.Prelude.{IsTrue, IfOk, OnOk, ◌||◌, ◌&&◌, nat_le, if◌then◌else◌, is_some, option_map, find}
use Rattle.std.specs.BTreeMap.{is_at}
use Rattle.std.specs.Global.{Vec}
use Rattle.std.specs.List.{list_all, cons_option}
use Rattle.std.specs.Str.{bytes_eq}
use Rattle.dfs_host.specs.Fault.{HasFaultCause, NoFault}
use Rattle.dfs_host.specs.Host.{HostState, LeavesOnly, OnlyReads, bytes_of}
use Rattle.dfs_host.specs.declared.fault.Fault.{Fault}
use Rattle.dfs_host.specs.declared.fault.Fault.TheVariants.{NoMemory, Disk, LogFull, Changed}
use Rattle.dfs_host.proofs.Causes.{none_yet, cause_of_last}
use Rattle.dfs_record.specs.declared.SnapName.{SnapName}
use Rattle.dfs_registry.specs.declared.listed.Listed.{Listed}
use Rattle.dfs_registry.specs.Body.{has_name, lists_name}
use Rattle.dfs_reply.specs.declared.Word.TheVariants as word
use Rattle.dfs_reply.specs.Text.{text}
use Rattle.dfs_script.specs.declared.JobWord.{JobWord}
use Rattle.dfs_job.specs.declared.job.Job.{Job as LiveJob}
use Rattle.dfs_session.specs.declared.session.Session.{Session as LiveSession}
use Rattle.dfs_session.specs.Files.{publication_of, publications_of, value_on}
use Rattle.dfs_session.specs.Images.{HoldsEither}
use Rattle.dfs_job.specs.Job.{Job}
use Rattle.dfs_session.specs.Selected.{listed_as, is_listed, chosen_in}
use Rattle.dfs_session.specs.Session.{Session, Step, Registry, Publication, live_job, of_job, of_live, publishes, publishes_for, publishes_anew, refused, published_as, is_published, chosen, is_full, begins, begins_with, begins_unless, word_cmp, is_damaged}
use Rattle.dfs_session.specs.Sound.{IsSound, jobs_of, listed_in, live_in}
use Rattle.dfs_session.specs.Stands.{Stands, LeavesValue}
use Rattle.dfs_job.specs.declared.settings.Settings.{Settings}
use Rattle.dfs_session.specs.Worked.{IsError, AreNamed, IsFullWhere, IsShort, IsWorked, Work}
use Rattle.dfs_session.proofs.Changing.{Found}
use Rattle.dfs_session.proofs.Faults.{sound_refused, full_by}
use Rattle.dfs_session.proofs.Images.{images_on, read_images}
use Rattle.dfs_session.proofs.Jobs.{FoundBoth, both_found, zip_length}
use Rattle.dfs_session.proofs.Handed.{fault_or, handed_cause}
use Rattle.dfs_session.proofs.Kept.{sound_reads, stands_read}
use Rattle.dfs_session.proofs.Values.{stands_value}
use Rattle.dfs_session.specs.Writes.{OnlyThese}
use Rattle.dfs_session.proofs.Writing.{reads_these, these_on}

-- ---- what the plain session has

pub live_same : (host : HostState) (session : LiveSession) (s : Session) (w : JobWord) → Stands host session s → is_some (live_job s w) ≡ is_some (live_in session w)
live_same host session s w stands = by (live_in session w) (live_job s w) (both_found host (is_at (word_cmp w)) (jobs_of session) s.jobs stands.jobs)
  where
    by : (o : Option LiveJob) (p : Option Job) → FoundBoth host o p → is_some p ≡ is_some o
    by None None both = refl
    by None (Some j) both = absurd both
    by (Some x) None both = absurd both
    by (Some x) (Some j) both = refl

pub full_same : (host : HostState) (session : LiveSession) (s : Session) → Stands host session s → is_full s ≡ (nat_le 64 (length (jobs_of session)) || nat_le 4294967294 session.greatest)
full_same host session s stands = λ i. nat_le 64 (zip_length host (jobs_of session) s.jobs stands.jobs i) || nat_le 4294967294 (stands.greatest i)

published_listed : (files : ℕ → List ℕ) (ls : List Listed) (name : SnapName) → published_as (publications_of files ls) name ≡ option_map (publication_of files) (listed_as ls name)
published_listed files [] name = refl
published_listed files (l ∷ ls) name = by (bytes_eq name l.name) (published_listed files ls name)
  where
    by : (b : Bool) → published_as (publications_of files ls) name ≡ option_map (publication_of files) (listed_as ls name)
        → cond b (Some (publication_of files l)) (published_as (publications_of files ls) name) ≡ option_map (publication_of files) (cond b (Some l) (listed_as ls name))
    by true rest = refl
    by false rest = rest

mapped_some : (files : ℕ → List ℕ) (o : Option Listed) → is_some (option_map (publication_of files) o) ≡ is_some o
mapped_some files None = refl
mapped_some files (Some l) = refl

-- whether a snapshot of the name was published
pub is_published_same : (files : ℕ → List ℕ) (ls : List Listed) (name : SnapName) → is_published (publications_of files ls) name ≡ is_listed ls name
is_published_same files ls name = ap is_some (published_listed files ls name) ∙ mapped_some files (listed_as ls name)

pub all_published_same : (files : ℕ → List ℕ) (ls : List Listed) (names : List SnapName) → list_all (is_published (publications_of files ls)) names ≡ list_all (is_listed ls) names
all_published_same files ls [] = refl
all_published_same files ls (name ∷ names) = λ i. is_published_same files ls name i && all_published_same files ls names i

pub chosen_same : (files : ℕ → List ℕ) (ls : List Listed) (names : List SnapName) → chosen (publications_of files ls) names ≡ publications_of files (chosen_in ls names)
chosen_same files ls [] = refl
chosen_same files ls (name ∷ names) =
    (λ i. cons_option (published_listed files ls name i) (chosen_same files ls names i)) ∙ by (listed_as ls name)
  where
    by : (o : Option Listed) → cons_option (option_map (publication_of files) o) (publications_of files (chosen_in ls names)) ≡ publications_of files (cons_option o (chosen_in ls names))
    by None = refl
    by (Some l) = refl

-- ---- the refusals of a begin, and what it begins over

abbrev decided : Session → JobWord → List SnapName → Bool → Bool → Bool → Step
decided s w names live full listed =
    if live then refused s word.LiveJob
    else (if full then refused s word.Full
    else (if listed then begins_with s w (chosen s.registry names)
    else refused s word.NoSnap))

module _ (host : HostState) (session : LiveSession) (s : Session) (w : JobWord) (names : List SnapName) (stands : Stands host session s) where
  pub begins_as : (live full listed : Bool) → live ≡ is_some (live_in session w) → full ≡ (nat_le 64 (length (jobs_of session)) || nat_le 4294967294 session.greatest) → listed ≡ list_all (is_listed (listed_in session)) names
      → begins s w names ≡ decided s w names live full listed
  begins_as live full listed is_live is_full_so is_listed_so =
      let all : list_all (is_published s.registry) names ≡ listed = ap (λ (r : Registry). list_all (is_published r) names) stands.registry ∙ all_published_same (bytes_of host) (listed_in session) names ∙ sym is_listed_so in
      λ i. decided s w names ((live_same host session s w stands ∙ sym is_live) i) ((full_same host session s stands ∙ sym is_full_so) i) (all i)

  pub chosen_are : chosen s.registry names ≡ publications_of (bytes_of host) (chosen_in (listed_in session) names)
  chosen_are = ap (λ (r : Registry). chosen r names) stands.registry ∙ chosen_same (bytes_of host) (listed_in session) names

  pub begins_chosen : (found : Option Publication) → find is_damaged (publications_of (bytes_of host) (chosen_in (listed_in session) names)) ≡ found
      → begins_with s w (chosen s.registry names) ≡ begins_unless found s w (publications_of (bytes_of host) (chosen_in (listed_in session) names))
  begins_chosen found is = ap (begins_with s w) chosen_are ∙ ap (λ (o : Option Publication). begins_unless o s w (publications_of (bytes_of host) (chosen_in (listed_in session) names))) is

-- a begin over listed names is no refusal but for a damaged snapshot
pub begins_no_error : (host : HostState) (session : LiveSession) (s : Session) (w : JobWord) (names : List SnapName) → Stands host session s → false ≡ is_some (live_in session w) → false ≡ (nat_le 64 (length (jobs_of session)) || nat_le 4294967294 session.greatest)
    → true ≡ list_all (is_listed (listed_in session)) names → IsError (begins s w names).reply → ⊥
begins_no_error host session s w names stands is_live is_full_so is_listed_so is =
    by (find is_damaged (chosen s.registry names)) (subst (λ (t : Step). IsError t.reply) (begins_as host session s w names stands false false true is_live is_full_so is_listed_so) is)
  where
    by : (o : Option Publication) → IsError (begins_unless o s w (chosen s.registry names)).reply → ⊥
    by None error = error
    by (Some p) error = error

-- ---- calls that only read, and then a line's work

pub after_reads : (before mid after : HostState) (session new : LiveSession) (does did : Work) (result : Result (Vec ℕ) Fault) → IsSound before session → OnlyReads before mid → NoFault before mid
    → ((s : Session) → IsTrue before.tells → Stands before session s → does.step s ≡ did.step s) → ((s : Session) → does.job s ≡ did.job s) → ((t : Settings) → does.settings t ≡ did.settings t) → IsWorked did mid after session new result
    → (does.quiet session → OnOk result (after.reads ≡ before.reads)) → does.names ≡ did.names → does.writes session ≡ did.writes session → does.many session ≡ did.many session → ((s : Session) → IsTrue before.tells → Stands before session s → did.passes s session → does.passes s session) → does.log (jobs_of new) ≡ did.log (jobs_of new) → IsWorked does before after session new result
after_reads before mid after session new does did result sound only none same job settings worked reads named written many passes logged =
    let stands_mid : (s : Session) → IsTrue before.tells → Stands before session s → Stands mid session s = λ s tells stands. stands_read before mid session s only tells stands in
    record {
      sound = worked.sound;
      settings = subst (λ (t : Settings). OnOk result (new.settings ≡ t)) (sym (settings session.settings)) worked.settings;
      reply = λ s tells stands. subst (λ (t : Step). IfOk result (λ bytes. bytes.items ≡ text t.reply)) (sym (same s tells stands)) (worked.reply s (only.tells ∙ tells) (stands_mid s tells stands));
      stands = λ s tells stands. subst (λ (t : Step). OnOk result (Stands after new t.session)) (sym (same s tells stands)) (worked.stands s (only.tells ∙ tells) (stands_mid s tells stands));
      value = λ s tells stands. subst (λ (t : Step). LeavesValue result s.registry t.session.registry (value_on after)) (sym (same s tells stands)) (worked.value s (only.tells ∙ tells) (stands_mid s tells stands));
      images = λ s tells stands.
          images_on before mid after s.registry (does.step s).session.registry (read_images before mid session s (does.step s).session.registry tells sound stands only)
          (subst (λ (t : Step). LeavesOnly (HoldsEither s.registry t.session.registry) mid after) (sym (same s tells stands)) (worked.images s (only.tells ∙ tells) (stands_mid s tells stands)));
      writes = these_on (reads_these only) (subst (λ (w : ℕ → Bool). OnlyThese w mid after) (sym written) worked.writes);
      cause = cause_of_last none worked.cause result (λ fault is. is) (λ is. is);
      full = subst (λ (b : Bool). IsFullWhere result b (does.many session) new) (sym logged) (subst (λ (b : Bool). IsFullWhere result (did.log (jobs_of new)) b new) (sym many) worked.full);
      passes = λ s tells stands is. elim (worked.passes s (only.tells ∙ tells) (stands_mid s tells stands) is) [ inl holds ↦ inl (logged ∙ holds) | inr many ↦ inr (passes s tells stands many) ];
      short = λ s tells stands is. subst IsShort (sym (job s)) (worked.short s (only.tells ∙ tells) (stands_mid s tells stands) is);
      reads = reads;
      names = subst (λ (names : Option (List SnapName)). OnOk result (AreNamed names session new)) (sym named) worked.names;
    }

-- calls that only read, the last of which failed
pub read_fault_worked : {T : Type 0} (before after : HostState) (session : LiveSession) (work : Work) (fault : Fault) → IsSound before session → OnlyReads before after → HasFaultCause {T = T} before after (Err fault)
    → (fault ≡ LogFull → ⊥) → IsWorked work before after session session (Err fault)
read_fault_worked {T} before after session work fault sound only cause full = record {
  sound = tt;
  settings = tt;
  reply = λ s tells stands. tt;
  stands = λ s tells stands. tt;
  value = λ s tells stands.
      leaves fault s.registry (work.step s).session.registry (stands_value after session s (only.tells ∙ tells) (sound_reads before after session only sound) (stands_read before after session s only tells stands));
  images = λ s tells stands. read_images before after session s (work.step s).session.registry tells sound stands only;
  writes = reads_these only;
  cause = handed_cause fault (none_yet before) cause;
  full = full_by (Err fault) (work.many session) session (λ is. full (ap fault_or is)) (sound_refused session sound.memory);
  passes = λ s tells stands is. absurd (full (ap fault_or is));
  short = λ s tells stands is. absurd (full (ap fault_or is));
  reads = λ quiet. tt;
  names = tt;
}
  where
    leaves : (f : Fault) (a b : Registry) → value_on after ≡ Some a → LeavesValue {T = Vec ℕ} (Err f) a b (value_on after)
    leaves NoMemory a b same = same
    leaves Disk a b same = tt
    leaves LogFull a b same = same
    leaves (Changed file at) a b same = same

-- ---- what a publication is answered

abbrev publication_decided : Session → JobWord → Job → SnapName → Bool → Bool → Step
publication_decided s w j name taken full = if taken then refused s word.Taken else (if full then refused s word.Full else publishes_anew s w j name)

publications_length : (files : ℕ → List ℕ) (ls : List Listed) → length (publications_of files ls) ≡ length ls
publications_length files ls = length-map ls (publication_of files)

pub publishes_as : (host : HostState) (session : LiveSession) (s : Session) (w : JobWord) (live : LiveJob) (name : SnapName) → Stands host session s → (f : Found host s w live) (taken full : Bool) → taken ≡ is_listed (listed_in session) name
    → full ≡ nat_le 4096 (length (listed_in session)) → publishes_for s w name ≡ publication_decided s w f.plain name taken full
publishes_as host session s w live name stands f taken full is_taken is_full_so =
    let listed : is_published s.registry name ≡ taken = ap (λ (r : Registry). is_published r name) stands.registry ∙ is_published_same (bytes_of host) (listed_in session) name ∙ sym is_taken in
    let many : nat_le 4096 (length s.registry) ≡ full = ap (λ (r : Registry). nat_le 4096 (length r)) stands.registry ∙ ap (λ (n : ℕ). nat_le 4096 n) (publications_length (bytes_of host) (listed_in session)) ∙ sym is_full_so in
    ap (λ (o : Option Job). of_live o s (λ j. publishes s w j name)) f.found ∙ (λ i. publication_decided s w f.plain name (listed i) (many i))

-- the publication of a live job under a new name
pub publishes_as_anew : (host : HostState) (session : LiveSession) (s : Session) (w : JobWord) (live : LiveJob) (name : SnapName) → Stands host session s → Found host s w live → false ≡ is_listed (listed_in session) name
    → false ≡ nat_le 4096 (length (listed_in session)) → publishes_for s w name ≡ of_job s w (λ j. publishes_anew s w j name)
publishes_as_anew host session s w live name stands f is_taken is_full_so =
    publishes_as host session s w live name stands f false false is_taken is_full_so ∙ sym (ap (λ (o : Option Job). of_live o s (λ j. publishes_anew s w j name)) f.found)

-- which is no refusal
pub not_refused : {host : HostState} (session : LiveSession) (s : Session) (w : JobWord) {live : LiveJob} (name : SnapName) → Stands host session s → Found host s w live → false ≡ is_listed (listed_in session) name → false ≡ nat_le 4096 (length (listed_in session))
    → IsError (publishes_for s w name).reply → ⊥
not_refused {host} session s w {live} name stands f is_taken is_full_so is =
    subst IsError (ap (λ (t : Step). t.reply) (publishes_as_anew host session s w live name stands f is_taken is_full_so) ∙ ap (λ (o : Option Job). (of_live o s (λ j. publishes_anew s w j name)).reply) f.found) is

-- a name that is found is listed, and another one is not
pub any_found : (name : SnapName) (ls : List Listed) → lists_name ls name ≡ is_listed ls name
any_found name [] = refl
any_found name (l ∷ ls) = by (has_name name l) (any_found name ls)
  where
    by : (b : Bool) → lists_name ls name ≡ is_listed ls name → (b || lists_name ls name) ≡ is_some (cond b (Some l) (listed_as ls name))
    by true rest = refl
    by false rest = rest

-- the names and jobs of the publications
pub snapshots_same : (host : HostState) (session : LiveSession) (s : Session) → Stands host session s → map {B = SnapName × ℕ} (λ p. (p.name, p.job)) s.registry ≡ map {B = SnapName × ℕ} (λ l. (l.name, l.job)) (listed_in session)
snapshots_same host session s stands = ap (map {B = SnapName × ℕ} (λ (p : Publication). (p.name, p.job))) stands.registry ∙ each (listed_in session)
  where
    each : (ls : List Listed) → map {B = SnapName × ℕ} (λ p. (p.name, p.job)) (publications_of (bytes_of host) ls) ≡ map {B = SnapName × ℕ} (λ l. (l.name, l.job)) ls
    each [] = refl
    each (l ∷ ls) = ap (λ (rest : List (SnapName × ℕ)). (l.name, l.job) ∷ rest) (each ls)
