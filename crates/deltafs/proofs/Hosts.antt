-- What is so of a session, as the host goes on by calls that leave the files.
use Rattle.std.proofs.Common.{◌≡◌, ◌∙◌, ℕ, List, refl, sym, ap, subst, arith}
use Rattle.std.specs.Prelude.{IsTrue}
use Rattle.std.specs.List.{AllByRecursion}
use Rattle.dfs_host.specs.Disk.{FileState, IsSettled}
use Rattle.dfs_host.specs.Host.{HostState, bytes_of}
use Rattle.dfs_registry.specs.Standing.{RegistryStands}
use Rattle.dfs_session.specs.declared.session.Session.{Session as LiveSession}
use Rattle.dfs_session.specs.Files.{publications_of, value, value_on}
use Rattle.dfs_session.specs.Session.{Session}
use Rattle.dfs_session.specs.Sound.{IsSound, jobs_of, listed_in}
use Rattle.dfs_session.specs.Stands.{Stands}
use Rattle.dfs_session.proofs.Kept.{keep_all_jobs, opened_stay, plains_stay, zip_stays}
use Rattle.deltafs.specs.declared.status.Status.{Status}
use Rattle.deltafs.specs.declared.status.Status.TheVariants.{Changed, Done}
use Rattle.deltafs.specs.Causes.{HasCause, DiskFaultsOf, SayFaultsOf}

-- Each file of the later host is that of the earlier one.
abbrev pub HasFilesOf : HostState → HostState → Type 0
HasFilesOf old new = (n : ℕ) → new.disk.files n ≡ old.disk.files n

module _ (old new : HostState) (same : HasFilesOf old new) where
  all_same : new.disk.files ≡ old.disk.files
  all_same = λ i n. same n i

  bytes_same : bytes_of new ≡ bytes_of old
  bytes_same = λ i n. (same n i).bytes

  pub value_stays : value_on new ≡ value_on old
  value_stays = ap value bytes_same

  pub registry_stays : (session : LiveSession) → RegistryStands old session.registry → RegistryStands new session.registry
  registry_stays session stands = record {
    settled = subst IsSettled (sym (same 0)) stands.settled;
    listing = stands.listing;
    file = ap (λ (file : FileState). file.bytes) (same 0) ∙ stands.file;
  }

  pub stands_stays : (session : LiveSession) (s : Session) → Stands old session s → Stands new session s
  stands_stays session s stands = record {
    registry = stands.registry ∙ ap (λ (files : ℕ → List ℕ). publications_of files (listed_in session)) (sym bytes_same);
    settled = subst (λ (files : ℕ → FileState). AllByRecursion (λ l. IsSettled (files l.job)) (listed_in session)) (sym all_same) stands.settled;
    jobs = zip_stays old new (jobs_of session) s.jobs (keep_all_jobs old new (jobs_of session) same) stands.jobs;
    greatest = stands.greatest;
    settings = stands.settings;
  }

-- where the files stay of a host that tells
pub sound_stays : (old new : HostState) (session : LiveSession) → new.tells ≡ old.tells → (IsTrue old.tells → HasFilesOf old new) → IsSound old session → IsSound new session
sound_stays old new session tells same sound = record {
  memory = sound.memory;
  registry = λ told. registry_stays old new (same (sym tells ∙ told)) session (sound.registry (sym tells ∙ told));
  jobs = λ told. plains_stay old new (jobs_of session) (keep_all_jobs old new (jobs_of session) (same (sym tells ∙ told))) (sound.jobs (sym tells ∙ told));
  kept = λ told. opened_stay old new session.kept (same (sym tells ∙ told)) (sound.kept (sym tells ∙ told));
}

-- Causes, one run of calls behind the other.

disk_on : (status : Status) (a b c : ℕ) → b ≡ a → DiskFaultsOf status b c → DiskFaultsOf status a c
disk_on status a b c same of = subst (λ (n : ℕ). DiskFaultsOf status n c) same of

say_on : (status : Status) (a b c : ℕ) → b ≡ a → SayFaultsOf status b c → SayFaultsOf status a c
say_on status a b c same of = subst (λ (n : ℕ). SayFaultsOf status n c) same of

abbrev IsFine : Status → Type 0
IsFine Changed = ⊥
IsFine status = Unit {0}

-- calls without a fault first
pub no_cause_on : (status : Status) {old mid new : HostState} → HasCause Done old mid → HasCause status mid new → HasCause status old new
no_cause_on status {old} {mid} {new} first second = record {
  tells = second.tells ∙ first.tells;
  later = omega (arith, first.later, second.later);
  disk_faults = disk_on status old.disk_faults mid.disk_faults new.disk_faults first.disk_faults second.disk_faults;
  say_faults = say_on status old.say_faults mid.say_faults new.say_faults first.say_faults second.say_faults;
  reads = omega (arith, first.reads, second.reads);
  changed = λ is. omega (arith, first.reads, second.changed is);
  never_changed = λ tells. second.never_changed (first.tells ∙ tells);
}

pub no_cause : (host : HostState) → HasCause Done host host
no_cause host = record {
  tells = refl;
  later = omega arith;
  disk_faults = refl;
  say_faults = refl;
  reads = omega arith;
  changed = λ is. absurd (subst IsFine is tt);
  never_changed = λ tells is. subst IsFine is tt;
}
