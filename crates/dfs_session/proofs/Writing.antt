-- Which files the calls of a line write, and that no log of a publication is among them.
use Rattle.std.proofs.Common.{◌≡◌, ◌≢◌, ◌∙◌, ℕ, ◌+◌, ◌<◌, Bool, true, false, List, [], ◌∷◌, Option, Some, None, Ok, Err, Result, refl, sym, ap, subst, arith}
use Rattle.std.proofs.lemmas.Bool.{eq-eqb, ne_eqb, or_from}
use mathlib.Core.Bool.{true≢false}
use Rattle.std.specs.Prelude.{IsTrue, is_some, nat_eq, ◌||◌, ◌++◌}
use Rattle.std.specs.BTreeMap.{is_at}
use Rattle.std.specs.List.{AllByRecursion}
use Rattle.dfs_host.specs.Disk.{Disk, FileState, MayLeave}
use Rattle.dfs_host.specs.Host.{HostState, LeavesOnly, IsSaying, Only, OnlyReads, SaysNothing, bytes_of}
use Rattle.dfs_host.proofs.Moments.{goes_on, started, widened}
use Rattle.dfs_registry.specs.Body.{greatest_job}
use Rattle.dfs_registry.specs.Reading.{Reading, listing, not_a_registry, damaged, registry as reading}
use Rattle.dfs_registry.specs.declared.listed.Listed.{Listed}
use Rattle.dfs_registry.proofs.Standing.{standing_list}
use Rattle.dfs_script.specs.declared.JobWord.{JobWord}
use Rattle.dfs_script.specs.declared.Line.{Line}
use Rattle.dfs_script.specs.declared.Line.TheVariants.{Nothing, Set, Snapshots, Begin, Space, Flush, Plan, Part, Stats, Publish, End}
use Rattle.dfs_script.specs.declared.LineFault.{LineFault}
use Rattle.dfs_job.specs.declared.job.Job.{Job as LiveJob}
use Rattle.dfs_session.specs.declared.session.Session.{Session as LiveSession}
use Rattle.dfs_session.specs.Files.{publications_of, value_on, value_read}
use Rattle.dfs_session.specs.Session.{Registry, Session, word_cmp}
use Rattle.dfs_session.specs.Sound.{IsLive, IsSound, jobs_of, listed_in, live_in, number_of}
use Rattle.dfs_session.specs.Stands.{Stands}
use Rattle.dfs_session.specs.Worked.{job_is, log_and_registry, next_log, none_written, own_log, writes_by, writes_of}
use Rattle.dfs_session.specs.Writes.{ChangesOnlyThese, FileStays, LogsStay, OnlyThese}
use Rattle.dfs_session.proofs.Jobs.{all_found}
use Rattle.dfs_session.proofs.Kept.{unlisted_apart}
use Rattle.dfs_session.proofs.Numbered.{AreNumbered, HasFile, registry_numbered}
use Rattle.dfs_session.proofs.Opening.{same_some}

-- ---- calls, one behind the other

pub reads_these : {written : ℕ → Bool} {old new : HostState} → OnlyReads old new → OnlyThese written old new
reads_these only = record {
  tells = only.tells;
  say_faults = only.say_faults;
  content = λ tells.
      let none = only.content tells in
      record {
        others = λ n free. ap (λ (disk : Disk). disk.files n) none.disk;
        said = ap (λ (disk : Disk). disk.said) none.disk;
        images = widened none.images (λ image is. record { files = λ n free. is.files n; said = is.said });
      };
}

-- a file that is not among these is another one than each of them
other_file : (written : ℕ → Bool) (n k : ℕ) → written k ≡ true → written n ≡ false → n ≢ k
other_file written n k is free same = true≢false (sym is ∙ ap written (sym same) ∙ free)

pub one_of_these : {written : ℕ → Bool} {k : ℕ} {old new : HostState} → written k ≡ true → Only k old new → OnlyThese written old new
one_of_these {written} {k} is only = record {
  tells = only.tells;
  say_faults = only.say_faults;
  content = λ tells.
      let changes = only.content tells in
      record {
        others = λ n free. changes.others n (other_file written n k is free);
        said = changes.said;
        images = widened changes.images (λ image with. record { files = λ n free. with.others.files n (other_file written n k is free); said = with.others.said });
      };
}

pub these_on : {written : ℕ → Bool} {old mid new : HostState} → OnlyThese written old mid → OnlyThese written mid new → OnlyThese written old new
these_on {written} {old} {mid} {new} first second = record {
  tells = second.tells ∙ first.tells;
  say_faults = second.say_faults ∙ first.say_faults;
  content = λ tells.
      let before = first.content tells in
      let behind = second.content (first.tells ∙ tells) in
      record {
        others = λ n free. behind.others n free ∙ before.others n free;
        said = behind.said ∙ before.said;
        images = goes_on before.images behind.images (λ image is. record {
          files = λ n free. subst (λ (file : FileState). MayLeave file (image.files n)) (before.others n free) (is.files n free);
          said = is.said ∙ before.said;
        });
      };
}

pub silent_these : {written : ℕ → Bool} {old new : HostState} → OnlyThese written old new → SaysNothing old new
silent_these only = record {
  tells = only.tells;
  say_faults = only.say_faults;
  content = λ tells. let changes = only.content tells in record { said = changes.said; images = widened changes.images (λ image is. is.said) };
}

-- the new job's log, and that of the job under the word
pub next_written : (session : LiveSession) → next_log session (session.greatest + 1) ≡ true
next_written session = eq-eqb (session.greatest + 1) (session.greatest + 1) refl

pub own_written : (session : LiveSession) (w : JobWord) (live : LiveJob) → live_in session w ≡ Some live → own_log session w live.ids.job ≡ true
own_written session w live found = ap (λ (o : Option LiveJob). job_is (λ j. nat_eq live.ids.job (number_of j)) o) found ∙ eq-eqb live.ids.job live.ids.job refl

pub log_written : (session : LiveSession) (w : JobWord) (live : LiveJob) → live_in session w ≡ Some live → log_and_registry session w live.ids.job ≡ true
log_written session w live found = by (nat_eq live.ids.job 0) (own_written session w live found)
  where
    by : (b : Bool) → own_log session w live.ids.job ≡ true → (b || own_log session w live.ids.job) ≡ true
    by true own = refl
    by false own = own

-- ---- a file that stays

pub file_stays : {written : ℕ → Bool} {old new : HostState} (n : ℕ) → written n ≡ false → ChangesOnlyThese written old new → FileStays n old new
file_stays n free changes = record { same = changes.others n free; images = widened changes.images (λ image is. is.files n free) }

pub file_idle : (n : ℕ) (host : HostState) → FileStays n host host
file_idle n host = record { same = refl; images = started host (λ image is. is.files n) }

-- a call that writes another file alone
pub other_stays : {old new : HostState} (n k : ℕ) → n ≢ k → Only k old new → IsTrue old.tells → FileStays n old new
other_stays n k apart only tells =
    let changes = only.content tells in
    record { same = changes.others n apart; images = widened changes.images (λ image with. with.others.files n apart) }

pub logs_idle : (registry : Registry) (host : HostState) → LogsStay registry host host
logs_idle [] host = tt
logs_idle (p ∷ ps) host = (file_idle p.job host, logs_idle ps host)

pub logs_on : (old mid new : HostState) (registry : Registry) → LogsStay registry old mid → LogsStay registry mid new → LogsStay registry old new
logs_on old mid new [] first second = tt
logs_on old mid new (p ∷ ps) first second = (
  record {
    same = second.0.same ∙ first.0.same;
    images = goes_on first.0.images second.0.images (λ image may. subst (λ (file : FileState). MayLeave file (image.files p.job)) first.0.same may);
  },
  logs_on old mid new ps first.1 second.1,
)

pub logs_said : {old new : HostState} (registry : Registry) (text : List ℕ) → ((n : ℕ) → new.disk.files n ≡ old.disk.files n) → LeavesOnly (IsSaying text old.disk) old new → LogsStay registry old new
logs_said [] text files images = tt
logs_said (p ∷ ps) text files images = (record { same = files p.job; images = widened images (λ image is. is.files p.job) }, logs_said ps text files images)

-- those of the first publications
pub logs_first : (old new : HostState) (registry more : Registry) → LogsStay (registry ++ more) old new → LogsStay registry old new
logs_first old new [] more all = tt
logs_first old new (p ∷ ps) more all = (all.0, logs_first old new ps more all.1)

-- ---- no line writes the log of a publication

abbrev AreFree : (ℕ → Bool) → List Listed → Type 0
AreFree written ls = AllByRecursion (λ l. written l.job ≡ false) ls

pub listed_stay : {written : ℕ → Bool} {old new : HostState} (files : ℕ → List ℕ) (ls : List Listed) → AreFree written ls → ChangesOnlyThese written old new → LogsStay (publications_of files ls) old new
listed_stay files [] free changes = tt
listed_stay files (l ∷ ls) free changes = (file_stays l.job free.0 changes, listed_stay files ls free.1 changes)

none_free : (ls : List Listed) → AreFree none_written ls
none_free [] = tt
none_free (l ∷ ls) = (refl, none_free ls)

next_free : (ls : List Listed) (next : ℕ) → greatest_job ls < next → AreFree (λ n. nat_eq n next) ls
next_free [] next below = tt
next_free (l ∷ ls) next below = (ne_eqb l.job next (λ is. omega (arith, is, below)), next_free ls next (omega (arith, below)))

apart_free : (ls : List Listed) (number : ℕ) → AllByRecursion (λ l. l.job ≢ number) ls → AreFree (λ n. nat_eq n number) ls
apart_free [] number apart = tt
apart_free (l ∷ ls) number apart = (ne_eqb l.job number apart.0, apart_free ls number apart.1)

registry_free : (written : ℕ → Bool) (ls : List Listed) → AllByRecursion HasFile ls → AreFree written ls → AreFree (λ n. nat_eq n 0 || written n) ls
registry_free written [] numbered free = tt
registry_free written (l ∷ ls) numbered free = (or_from (nat_eq l.job 0) (written l.job) (ne_eqb l.job 0 numbered.0) free.0, registry_free written ls numbered.1 free.1)

module _ (host : HostState) (session : LiveSession) (sound : IsSound host session) (tells : IsTrue host.tells) where
  own_free : (w : JobWord) → AreFree (own_log session w) (listed_in session)
  own_free w = by (live_in session w) refl
    where
      by : (o : Option LiveJob) → live_in session w ≡ o → AreFree (λ n. job_is (λ j. nat_eq n (number_of j)) o) (listed_in session)
      by None is = none_free (listed_in session)
      by (Some live) is =
          let lives = all_found (λ x. IsLive session.greatest (listed_in session) x) (is_at (word_cmp w)) (jobs_of session) live sound.memory.jobs is in
          apart_free (listed_in session) (number_of live) (unlisted_apart (listed_in session) (number_of live) lives.unlisted)

  -- no log is file 0
  pub own_registry : (w : JobWord) → own_log session w 0 ≡ false
  own_registry w = by (live_in session w) refl
    where
      by : (o : Option LiveJob) → live_in session w ≡ o → job_is (λ j. nat_eq 0 (number_of j)) o ≡ false
      by None is = refl
      by (Some live) is =
          let lives = all_found (λ x. IsLive session.greatest (listed_in session) x) (is_at (word_cmp w)) (jobs_of session) live sound.memory.jobs is in
          ne_eqb 0 (number_of live) (λ same. absurd (omega (arith, same, lives.fit.ids.job)))

  pub log_leaves_registry : (w : JobWord) (after : HostState) → OnlyThese (own_log session w) host after → FileStays 0 host after
  log_leaves_registry w after only = file_stays 0 (own_registry w) (only.content tells)

  pub begin_leaves_registry : (after : HostState) → OnlyThese (next_log session) host after → FileStays 0 host after
  begin_leaves_registry after only = file_stays 0 (ne_eqb 0 (session.greatest + 1) (λ same. absurd (omega (arith, same)))) (only.content tells)

  line_free : (line : Line) → AreFree (writes_of line session) (listed_in session)
  line_free Nothing = none_free (listed_in session)
  line_free (Set what value) = none_free (listed_in session)
  line_free Snapshots = none_free (listed_in session)
  line_free (Begin w names) = next_free (listed_in session) (session.greatest + 1) (omega (arith, sound.memory.listed))
  line_free (Space w op) = own_free w
  line_free (Flush w) = own_free w
  line_free (Plan w scope parts) = own_free w
  line_free (Part w part) = own_free w
  line_free (Stats w) = none_free (listed_in session)
  line_free (Publish w name) =
      registry_free (own_log session w) (listed_in session) (subst AreNumbered (standing_list host session.registry (sound.registry tells)) (registry_numbered (bytes_of host 0))) (own_free w)
  line_free (End w) = none_free (listed_in session)

  pub logs_stay : (m : Result Line LineFault) (s : Session) (after : HostState) → Stands host session s → OnlyThese (writes_by m session) host after → LogsStay s.registry host after
  logs_stay m s after stands only = subst (λ (r : Registry). LogsStay r host after) (sym stands.registry) (listed_stay (bytes_of host) (listed_in session) (by m) (only.content tells))
    where
      by : (m : Result Line LineFault) → AreFree (writes_by m session) (listed_in session)
      by (Ok line) = line_free line
      by (Err fault) = none_free (listed_in session)

-- nor does opening the registry
pub opened_logs : (before after : HostState) (registry : Registry) → Only 0 before after → IsTrue before.tells → value_on before ≡ Some registry → LogsStay registry before after
opened_logs before after registry only tells is = by (reading (bytes_of before 0)) (registry_numbered (bytes_of before 0)) is
  where
    by : (r : Reading) → AreNumbered r → value_read (bytes_of before) r ≡ Some registry → LogsStay registry before after
    by (listing ls) numbered is =
        subst (λ (r : Registry). LogsStay r before after) (same_some (publications_of (bytes_of before) ls) registry is)
        (listed_stay {written = λ n. nat_eq n 0} (bytes_of before) ls (apart_free ls 0 numbered) ((one_of_these refl only).content tells))
    by not_a_registry numbered is = absurd (true≢false (sym (ap is_some is)))
    by (damaged place) numbered is = absurd (true≢false (sym (ap is_some is)))
