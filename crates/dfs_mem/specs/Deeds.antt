-- What a list of calls does to a disk, and the disks that there were on the way.
use Rattle.std.specs.Prelude.{ℕ, Bool, nat_le, List, [], ◌∷◌, ◌++◌, Vec, take, if◌then◌else◌, ◌==◌}
use Rattle.std.specs.declared.alloc.Global.{Global}
use Rattle.dfs_host.specs.Disk.{FileState, Disk, settled_file, written, cut_to, synced}
use Rattle.dfs_mem.specs.declared.deed.Deed.{Deed}
use Rattle.dfs_mem.specs.declared.deed.Deed.TheVariants.{Write, Cut, Sync, Say}
use Rattle.dfs_mem.specs.declared.deed.Kept.{Kept}
use Rattle.dfs_mem.specs.Files.{bytes_in}

-- these files with nothing touched, and this said
abbrev pub start_disk : List (ℕ × Vec ℕ Global) → List ℕ → Disk
start_disk files said = record { files = λ n. settled_file (bytes_in files n); said = said }

-- the disk with another state of file n
abbrev pub put : ℕ → FileState → Disk → Disk
put n file disk = record { files = λ m. if m == n then file else disk.files m; said = disk.said }

-- what a call leaves that was begun: the next state, with the bytes of the old one where it failed
abbrev pub tried : Bool → FileState → FileState → FileState
tried done next old = record {
  bytes = if done then next.bytes else old.bytes;
  settled = next.settled;
  touched = next.touched;
  least = next.least;
  greatest = next.greatest;
}

abbrev pub write_step : ℕ → ℕ → List ℕ → Bool → Disk → Disk
write_step n at bytes done disk = put n (tried done (written at bytes (disk.files n)) (disk.files n)) disk

abbrev pub cut_step : ℕ → ℕ → Bool → Disk → Disk
cut_step n len done disk = put n (tried done (cut_to len (disk.files n)) (disk.files n)) disk

abbrev pub sync_step : ℕ → Disk → Disk
sync_step n disk = put n (synced (disk.files n)) disk

abbrev pub say_step : List ℕ → Disk → Disk
say_step bytes disk = record { files = disk.files; said = disk.said ++ bytes }

abbrev pub step : Deed → Disk → Disk
step (Write n patch done) disk = write_step n patch.at patch.bytes.items done disk
step (Cut n len done) disk = cut_step n len done disk
step (Sync n) disk = sync_step n disk
step (Say bytes count) disk = say_step (take count bytes.items) disk

-- the disk before a piece is said, after its first byte, and so on to its end
abbrev pub spoken : List ℕ → Disk → List Disk
spoken [] disk = disk ∷ []
spoken (byte ∷ bytes) disk = disk ∷ spoken bytes (say_step (byte ∷ []) disk)

-- the disks from before a call to its end
abbrev pub passed : Deed → Disk → List Disk
passed (Write n patch done) disk = disk ∷ []
passed (Cut n len done) disk = disk ∷ []
passed (Sync n) disk = disk ∷ []
passed (Say bytes count) disk = spoken bytes.items disk

-- the disk after these calls, the first of them first
abbrev pub disk_after : List Kept → Disk → Disk
disk_after [] disk = disk
disk_after (kept ∷ deeds) disk = disk_after deeds (step kept.deed disk)

-- the disks before that
abbrev pub disks_before : List Kept → Disk → List Disk
disks_before [] disk = []
disks_before (kept ∷ deeds) disk = passed kept.deed disk ++ disks_before deeds (step kept.deed disk)

-- Of deeds in the order of their calls those of the first `moment` calls. Calls are numbered from 1.
abbrev pub deeds_until : ℕ → List Kept → List Kept
deeds_until moment [] = []
deeds_until moment (kept ∷ deeds) = if nat_le kept.call moment then kept ∷ deeds_until moment deeds else []
