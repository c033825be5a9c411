-- What an opened session stands for.
use Rattle.std.proofs.Common.{◌≡◌, ◌≢◌, ◌∙◌, inl, ℕ, max, List, [], ◌∷◌, Option, Some, None, refl, sym, ap, subst}
use Rattle.std.specs.List.{AllByRecursion, AllZip}
use Rattle.dfs_host.specs.Disk.{FileState, Image, IsSettled, IsSound as FileIsSound}
use Rattle.dfs_host.specs.Host.{HostState, bytes_of, ChangesOnly, LeavesOnly}
use Rattle.dfs_host.proofs.Files.{left_when_settled}
use Rattle.dfs_host.proofs.Moments.{widened}
use Rattle.dfs_registry.specs.declared.listed.Listed.{Listed}
use Rattle.dfs_registry.specs.Body.{greatest_job}
use Rattle.dfs_registry.specs.Reading.{registry as reading}
use Rattle.dfs_registry.specs.Standing.{RegistryStands}
use Rattle.dfs_registry.proofs.Standing.{standing_list}
use Rattle.dfs_script.specs.declared.JobWord.{JobWord}
use Rattle.dfs_job.specs.declared.job.Job.{Job as LiveJob}
use Rattle.dfs_session.specs.declared.session.Session.{Session as LiveSession}
use Rattle.dfs_job.specs.declared.settings.Settings.{Settings}
use Rattle.dfs_session.specs.Files.{publications_of, value_on, value_read}
use Rattle.dfs_session.specs.Images.{Holds}
use Rattle.dfs_session.specs.Session.{Registry, greatest_published, opened_with}
use Rattle.dfs_session.specs.Sound.{jobs_of, listed_in}
use Rattle.dfs_session.specs.Stands.{EntryStands, Stands, LogIsSettled}
use Rattle.dfs_session.proofs.Numbered.{HasFile, AreNumbered, registry_numbered}
use Rattle.dfs_session.proofs.Values.{same_value, listed_value, same_reading}

abbrev some_or : Registry → Option Registry → Registry
some_or registry None = registry
some_or registry (Some other) = other

pub same_some : (a b : Registry) → Some a ≡ Some b → a ≡ b
same_some a b is = ap (some_or a) is

-- what reads give is one of the images
pub opened_value : (old new : HostState) → ChangesOnly 0 (λ c. reading c ≡ reading (bytes_of old 0)) old new → ((n : ℕ) → FileIsSound (new.disk.files n)) → value_on new ≡ value_on old
opened_value old new only sound =
    let here : Image = record { files = bytes_of new; said = new.disk.said } in
    same_value old new (only.images.each here (inl (record { files = λ n. (sound n).reads; said = refl }))).file (λ n other. ap (λ (file : FileState). file.bytes) (only.others n other))

-- each image since then
pub opened_images : (old new : HostState) (registry : Registry) → ChangesOnly 0 (λ c. reading c ≡ reading (bytes_of old 0)) old new → ((n : ℕ) → IsSettled (old.disk.files n)) → value_on old ≡ Some registry → LeavesOnly (Holds registry) old new
opened_images old new registry only settled was =
    widened only.images (λ image with.
    ap (value_read image.files) with.file
    ∙ same_reading (bytes_of old) image.files (reading (bytes_of old 0)) (registry_numbered (bytes_of old 0)) (λ n other. left_when_settled (settled n) (image.files n) (with.others.files n other)) ∙ was)

greatest_same : (files : ℕ → List ℕ) (ls : List Listed) → greatest_published (publications_of files ls) ≡ greatest_job ls
greatest_same files [] = refl
greatest_same files (l ∷ ls) = ap (λ (n : ℕ). max l.job n) (greatest_same files ls)

still_settled : (old new : HostState) (ls : List Listed) → ((n : ℕ) → n ≢ 0 → new.disk.files n ≡ old.disk.files n) → ((n : ℕ) → IsSettled (old.disk.files n)) → AllByRecursion HasFile ls → AllByRecursion (LogIsSettled new) ls
still_settled old new [] others settled numbered = tt
still_settled old new (l ∷ ls) others settled numbered = (subst IsSettled (sym (others l.job numbered.0)) (settled l.job), still_settled old new ls others settled numbered.1)

pub opened_stands : (old new : HostState) (session : LiveSession) (settings : Settings) (registry : Registry) → RegistryStands new session.registry → ChangesOnly 0 (λ c. reading c ≡ reading (bytes_of old 0)) old new
    → ((n : ℕ) → FileIsSound (new.disk.files n)) → ((n : ℕ) → IsSettled (old.disk.files n)) → value_on old ≡ Some registry
    → jobs_of session ≡ [] → session.greatest ≡ greatest_job (listed_in session) → session.settings ≡ settings → Stands new session (opened_with settings registry)
opened_stands old new session settings registry stands only sound settled was none greatest same =
    let reads = standing_list new session.registry stands in
    let is : registry ≡ publications_of (bytes_of new) (listed_in session) = same_some registry (publications_of (bytes_of new) (listed_in session)) (sym was ∙ sym (opened_value old new only sound) ∙ listed_value new (listed_in session) reads) in
    record {
      registry = is;
      settled = still_settled old new (listed_in session) only.others settled (subst AreNumbered reads (registry_numbered (bytes_of new 0)));
      jobs = subst (λ (es : List (JobWord × LiveJob)). AllZip (EntryStands new) es []) (sym none) tt;
      greatest = ap greatest_published is ∙ greatest_same (bytes_of new) (listed_in session) ∙ sym greatest;
      settings = sym same;
    }
