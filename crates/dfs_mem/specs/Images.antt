-- The disk after the first calls of a host, and which of the things that a crash may leave of it an image is.
use Rattle.std.specs.Prelude.{◌≡◌, ◌<◌, ℕ, zero, suc, List, [], ◌∷◌, ◌++◌, slice_index, if◌then◌else◌}
use Rattle.dfs_host.specs.Disk.{FileState, Disk, Image}
use Rattle.dfs_host.specs.Host.{bytes_of, said_of}
use Rattle.dfs_mem.specs.declared.choice.Choice.{Choice}
use Rattle.dfs_mem.specs.declared.choice.Length.{Length}
use Rattle.dfs_mem.specs.declared.choice.Length.TheVariants.{Least, Greatest}
use Rattle.dfs_mem.specs.declared.choice.Fill.{Fill}
use Rattle.dfs_mem.specs.declared.choice.Fill.TheVariants.{Settled, Latest, Byte}
use Rattle.dfs_mem.specs.declared.disk.MemDisk.{MemDisk}
use Rattle.dfs_mem.specs.declared.host.MemHost.{MemHost}
use Rattle.dfs_mem.specs.Deeds.{start_disk, disk_after, deeds_until}
use Rattle.dfs_mem.specs.MemHost.{state_of, calls_of}

abbrev pub disk_until : MemDisk → ℕ → Disk
disk_until mem moment = disk_after (deeds_until moment mem.deeds.items) (start_disk mem.start.items mem.start_said.items)

-- the disk after the first `moment` calls
abbrev pub disk_at : MemHost → ℕ → Disk
disk_at host moment = disk_until host.disk moment

-- the disks at the moments before this call stay
abbrev pub KeepsBefore : ℕ → MemDisk → MemDisk → Type 0
KeepsBefore call old new = (moment : ℕ) → moment < call → disk_until new moment ≡ disk_until old moment

-- One call more: at each moment before it the disk is what it was, and at its own moment the disk is what there is now. The moments
-- before it are those up to the old count of calls, as long as that count rises.
pub record KeepsMoments (old new : MemHost) : Type 0 where
  pub before : (moment : ℕ) → moment < calls_of new → disk_at new moment ≡ disk_at old moment
  pub last : disk_at new (calls_of new) ≡ (state_of new).disk

-- the image's length
abbrev pub length_of : Length → FileState → ℕ
length_of Least file = file.least
length_of Greatest file = file.greatest

-- the byte at a touched place, which is 0 where there is none
abbrev pub fill_at : Fill → FileState → ℕ → ℕ
fill_at Settled file place = slice_index file.settled place
fill_at Latest file place = slice_index file.bytes place
fill_at (Byte byte) file place = byte

-- the byte at a place
abbrev pub left_at : Fill → FileState → ℕ → ℕ
left_at fill file place = if file.touched place then fill_at fill file place else slice_index file.settled place

-- the values of f at 0, 1 and so on, so many of them
abbrev pub values_of : (ℕ → ℕ) → ℕ → List ℕ
values_of f zero = []
values_of f (suc count) = values_of f count ++ f count ∷ []

-- the image of a file
abbrev pub image_of : Choice → FileState → List ℕ
image_of choice file = values_of (left_at choice.fill file) (length_of choice.length file)

-- the image of file n of a disk
abbrev pub image_in : MemDisk → Choice → ℕ → List ℕ
image_in mem choice n = image_of choice ((disk_until mem choice.moment).files n)

-- what a host holds, as an image
abbrev pub held : MemHost → Image
held host = record { files = bytes_of (state_of host); said = said_of (state_of host) }
