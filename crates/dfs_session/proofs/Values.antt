-- What the files of a host stand for, as its calls go on.
use Rattle.std.proofs.Common.{◌≡◌, ◌≢◌, ◌∙◌, ℕ, List, [], ◌∷◌, Some, refl, sym, ap}
use Rattle.std.specs.Prelude.{IsTrue}
use Rattle.std.specs.List.{AllByRecursion}
use Rattle.dfs_host.specs.Host.{HostState, bytes_of}
use Rattle.dfs_registry.specs.declared.listed.Listed.{Listed}
use Rattle.dfs_registry.specs.Reading.{Reading, listing, not_a_registry, damaged, registry}
use Rattle.dfs_registry.proofs.Standing.{standing_list}
use Rattle.dfs_change.specs.Meant.{log_meaning}
use Rattle.dfs_session.specs.declared.session.Session.{Session as LiveSession}
use Rattle.dfs_session.specs.Files.{publications_of, value_read, value_on}
use Rattle.dfs_session.specs.Session.{Session}
use Rattle.dfs_session.specs.Sound.{IsSound, listed_in}
use Rattle.dfs_session.specs.Stands.{Stands}
use Rattle.dfs_session.proofs.Numbered.{HasFile, AreNumbered, registry_numbered}

-- publications whose logs read the same are the same
pub same_publications : (old new : ℕ → List ℕ) (ls : List Listed) → AllByRecursion (λ l. new l.job ≡ old l.job) ls → publications_of new ls ≡ publications_of old ls
same_publications old new [] all = refl
same_publications old new (l ∷ ls) all = λ i. record { name = l.name; job = l.job; change = log_meaning (all.0 i) l } ∷ same_publications old new ls all.1 i

pub listed_value : (host : HostState) (ls : List Listed) → registry (bytes_of host 0) ≡ listing ls → value_on host ≡ Some (publications_of (bytes_of host) ls)
listed_value host ls is = ap (value_read (bytes_of host)) is

-- a session that stands has what the files stand for
pub stands_value : (host : HostState) (session : LiveSession) (s : Session) → IsTrue host.tells → IsSound host session → Stands host session s → value_on host ≡ Some s.registry
stands_value host session s tells sound stands = listed_value host (listed_in session) (standing_list host session.registry (sound.registry tells)) ∙ ap Some (sym stands.registry)

-- files that read the same but for file 0
pub same_reading : (old new : ℕ → List ℕ) (r : Reading) → AreNumbered r → ((n : ℕ) → n ≢ 0 → new n ≡ old n) → value_read new r ≡ value_read old r
same_reading old new (listing ls) numbered others = ap Some (same_publications old new ls (by ls numbered))
  where
    by : (ls : List Listed) → AllByRecursion HasFile ls → AllByRecursion (λ l. new l.job ≡ old l.job) ls
    by [] all = tt
    by (l ∷ ls) all = (others l.job all.0, by ls all.1)
same_reading old new not_a_registry numbered others = refl
same_reading old new (damaged place) numbered others = refl

-- a host whose registry reads the same and whose other files are the same stands for the same
pub same_value : (old new : HostState) → registry (bytes_of new 0) ≡ registry (bytes_of old 0) → ((n : ℕ) → n ≢ 0 → bytes_of new n ≡ bytes_of old n) → value_on new ≡ value_on old
same_value old new reads others = ap (value_read (bytes_of new)) reads ∙ same_reading (bytes_of old) (bytes_of new) (registry (bytes_of old 0)) (registry_numbered (bytes_of old 0)) others
