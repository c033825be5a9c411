-- What a crash leaves, where a session stands.
use Rattle.std.proofs.Common.{◌≡◌, ◌≢◌, ◌∙◌, inl, ℕ, List, [], ◌∷◌, Some, Result, Ok, Err, sym, ap}
use Rattle.std.specs.Prelude.{IsTrue, OnOk}
use Rattle.std.specs.List.{AllByRecursion}
use Rattle.dfs_host.specs.Disk.{Disk, Image, MayLeave, IsImage, IsImageBut}
use Rattle.dfs_host.specs.Host.{HostState, bytes_of, LeavesOnly, Only, OnlyReads}
use Rattle.dfs_host.proofs.Files.{left_when_settled}
use Rattle.dfs_host.proofs.Moments.{goes_on, widened}
use Rattle.dfs_registry.specs.declared.listed.Listed.{Listed}
use Rattle.dfs_registry.specs.Reading.{registry as reading}
use Rattle.dfs_registry.proofs.Standing.{standing_list}
use Rattle.dfs_session.specs.declared.session.Session.{Session as LiveSession}
use Rattle.dfs_session.specs.Files.{value_read}
use Rattle.dfs_session.specs.Images.{Holds, HoldsEither, HoldsNow}
use Rattle.dfs_session.specs.Session.{Session, Registry}
use Rattle.dfs_session.specs.Sound.{IsSound, listed_in}
use Rattle.dfs_session.specs.Stands.{Stands, LogIsSettled}
use Rattle.dfs_session.proofs.Values.{same_publications}

-- the logs that are listed are left as they read, where a crash leaves what it may of their files
left_logs : (host : HostState) (image : Image) (ls : List Listed) → AllByRecursion (λ l. MayLeave (host.disk.files l.job) (image.files l.job)) ls → AllByRecursion (LogIsSettled host) ls
    → AllByRecursion (λ l. image.files l.job ≡ bytes_of host l.job) ls
left_logs host image [] may settled = tt
left_logs host image (l ∷ ls) may settled = (left_when_settled settled.0 (image.files l.job) may.0, left_logs host image ls may.1 settled.1)

-- an image of file 0 and of the listed logs holds the registry
pub left_holds : (host : HostState) (session : LiveSession) (s : Session) (image : Image) → IsTrue host.tells → IsSound host session → Stands host session s → MayLeave (host.disk.files 0) (image.files 0)
    → AllByRecursion (λ l. MayLeave (host.disk.files l.job) (image.files l.job)) (listed_in session) → Holds s.registry image
left_holds host session s image tells sound stands zero logs =
    let registry = sound.registry tells in
    ap (λ (bytes : List ℕ). value_read image.files (reading bytes)) (left_when_settled registry.settled (image.files 0) zero)
    ∙ ap (value_read image.files) (standing_list host session.registry registry)
    ∙ ap Some (same_publications (bytes_of host) image.files (listed_in session) (left_logs host image (listed_in session) logs stands.settled) ∙ sym stands.registry)

all_left : (disk : Disk) (image : Image) (ls : List Listed) → ((n : ℕ) → MayLeave (disk.files n) (image.files n)) → AllByRecursion (λ l. MayLeave (disk.files l.job) (image.files l.job)) ls
all_left disk image [] each = tt
all_left disk image (l ∷ ls) each = (each l.job, all_left disk image ls each)

others_left : (disk : Disk) (image : Image) (k : ℕ) (ls : List Listed) → ((n : ℕ) → n ≢ k → MayLeave (disk.files n) (image.files n)) → AllByRecursion (λ l. l.job ≢ k) ls → AllByRecursion (λ l. MayLeave (disk.files l.job) (image.files l.job)) ls
others_left disk image k [] each others = tt
others_left disk image k (l ∷ ls) each others = (each l.job others.0, others_left disk image k ls each others.1)

-- an image of a host on which a session stands
pub image_holds : (host : HostState) (session : LiveSession) (s : Session) (image : Image) → IsTrue host.tells → IsSound host session → Stands host session s → IsImage host.disk image → Holds s.registry image
image_holds host session s image tells sound stands is = left_holds host session s image tells sound stands (is.files 0) (all_left host.disk image (listed_in session) is.files)

-- one outside a file that is not listed
pub image_but_holds : (host : HostState) (session : LiveSession) (s : Session) (image : Image) (k : ℕ) → IsTrue host.tells → IsSound host session → Stands host session s → 0 ≢ k → AllByRecursion (λ l. l.job ≢ k) (listed_in session)
    → IsImageBut k host.disk image → Holds s.registry image
image_but_holds host session s image k tells sound stands zero others is =
    left_holds host session s image tells sound stands (is.files 0 zero) (others_left host.disk image k (listed_in session) is.files others)

-- what was answered stays
pub holds_now : {T E : Type 0} (result : Result T E) (host : HostState) (session : LiveSession) (s : Session) → IsTrue host.tells → OnOk result (IsSound host session) → OnOk result (Stands host session s) → OnOk result (HoldsNow s.registry host)
holds_now (Ok x) host session s tells sound stands = λ image left. image_holds host session s image tells sound stands left
holds_now (Err e) host session s tells sound stands = tt

-- ---- runs of calls

-- calls that only read
pub read_images : (before after : HostState) (session : LiveSession) (s : Session) (later : Registry) → IsTrue before.tells → IsSound before session → Stands before session s → OnlyReads before after → LeavesOnly (HoldsEither s.registry later) before after
read_images before after session s later tells sound stands only =
    widened (only.content tells).images (λ image is. inl (image_holds before session s image tells sound stands is))

-- calls that change one file that is not listed
pub own_images : (before after : HostState) (session : LiveSession) (s : Session) (later : Registry) (k : ℕ) → IsTrue before.tells → IsSound before session → Stands before session s → 0 ≢ k → AllByRecursion (λ l. l.job ≢ k) (listed_in session) → Only k before after
    → LeavesOnly (HoldsEither s.registry later) before after
own_images before after session s later k tells sound stands zero others only =
    widened (only.content tells).images (λ image with. inl (image_but_holds before session s image k tells sound stands zero others with.others))

-- first the one, then the other
pub images_on : (before mid after : HostState) (a b : Registry) → LeavesOnly (HoldsEither a b) before mid → LeavesOnly (HoldsEither a b) mid after → LeavesOnly (HoldsEither a b) before after
images_on before mid after a b first second = goes_on first second (λ image is. is)
