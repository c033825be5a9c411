-- Which files are written, and which stay.
use Rattle.std.specs.Prelude.{◌≡◌, ℕ, Bool, false}
use Rattle.std.specs.List.{AllByRecursion}
use Rattle.dfs_host.specs.Disk.{Disk, Image, MayLeave}
use Rattle.dfs_host.specs.Host.{HostState, Told, LeavesOnly}
use Rattle.dfs_session.specs.Session.{Registry}

-- an image of the disk, but for these files
pub record IsImageBeside (written : ℕ → Bool) (disk : Disk) (image : Image) : Type 0 where
  pub files : (n : ℕ) → written n ≡ false → MayLeave (disk.files n) (image.files n)
  pub said : image.said ≡ disk.said

-- Nothing changes but these files, and each image since old is one of old but for them.
pub record ChangesOnlyThese (written : ℕ → Bool) (old new : HostState) : Type 0 where
  pub others : (n : ℕ) → written n ≡ false → new.disk.files n ≡ old.disk.files n
  pub said : new.disk.said ≡ old.disk.said
  pub images : LeavesOnly (IsImageBeside written old.disk) old new

-- What is said of a call that may write these files: each other file reads as before, with its settled bytes and touched places, and
-- an image since its start has of it what one at the start might have; what was said stays.
pub record OnlyThese (written : ℕ → Bool) (old new : HostState) : Type 0 where
  pub tells : new.tells ≡ old.tells
  pub say_faults : new.say_faults ≡ old.say_faults
  pub content : Told old (ChangesOnlyThese written old new)

-- A file is not written: it is as it was, and an image since has of it what one at the start might have.
pub record FileStays (n : ℕ) (old new : HostState) : Type 0 where
  pub same : new.disk.files n ≡ old.disk.files n
  pub images : LeavesOnly (λ image. MayLeave (old.disk.files n) (image.files n)) old new

-- the log of no publication is written
abbrev pub LogsStay : Registry → HostState → HostState → Type 0
LogsStay registry old new = AllByRecursion (λ p. FileStays p.job old new) registry
