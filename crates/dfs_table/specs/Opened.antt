-- Which table lies at a place of a log.
use Rattle.std.specs.Prelude.{◌≡◌, ◌≤◌, ◌+◌, ℕ, List, length, Some, Result, IsErrOf}
use Rattle.std.specs.List.{AllByRecursion}
use Rattle.dfs_host.specs.Counts.{Rose}
use Rattle.dfs_host.specs.Host.{HostState, now}
use Rattle.dfs_host.specs.declared.fault.Fault.TheVariants.{Disk}
use Rattle.dfs_record.specs.declared.Record.{Record}
use Rattle.dfs_block.specs.Block.{IsBlock, first_key, last_key}
use Rattle.dfs_fence.specs.declared.fence.Fence.{Fence}
use Rattle.dfs_fence.specs.Places.{BlockLies}
use Rattle.dfs_fence.specs.Reading.{BeginsAsIndex}
use Rattle.dfs_table.specs.declared.open.OpenFault.{OpenFault}
use Rattle.dfs_table.specs.declared.open.OpenFault.TheVariants.{Fault}
use Rattle.dfs_table.specs.Identities.{IsWithin}
use Rattle.dfs_table.specs.Stored.{IsBlockOf, IsIndexAt, part, records_at, records_by}

-- the block ends at this place or before it
abbrev pub EndsBy : ℕ → Fence → Type 0
EndsBy end f = f.at + f.len ≤ end

-- The index in so many bytes of the log of a job is that of these fences. It and each of their blocks ends at a place or before
-- it, each block agrees with its fence, and no identity in them is of a later job.
pub record IsTableAt (file : List ℕ) (job at len end : ℕ) (fs : List Fence) : Type 0 where
  pub index : IsIndexAt file at len fs
  pub index_ends : at + len ≤ end
  pub each : AllByRecursion (IsBlockOf file) fs
  pub each_ends : AllByRecursion (EndsBy end) fs
  pub within : AllByRecursion (IsWithin job) (records_by file fs)

-- The file has the block of the fence, which ends at a place or before it, and no identity in it is of a later job.
pub record IsBlockIn (file : List ℕ) (job end : ℕ) (f : Fence) : Type 0 where
  pub block : IsBlockOf file f
  pub ends : EndsBy end f
  pub within : AllByRecursion (IsWithin job) (records_at file f)

-- The bytes are the block of the fence, and no identity in it is of a later job.
pub record Agrees (job : ℕ) (f : Fence) (bytes : List ℕ) : Type 0 where
  pub records : List Record
  pub block : IsBlock bytes records
  pub count : length records ≡ f.count
  pub first : first_key records ≡ Some f.first
  pub last : last_key records ≡ Some f.last
  pub within : AllByRecursion (IsWithin job) records

-- The bytes begin as an index does, and where they are one, each of its blocks may lie where its fence says, and ends at a place or
-- before it.
pub record BlocksMayLie (file : List ℕ) (at len end : ℕ) : Type 0 where
  pub begins : BeginsAsIndex (part file at len)
  pub blocks : (fs : List Fence) → IsIndexAt file at len fs → AllByRecursion (BlockLies end) fs

abbrev pub IsNoTable : List ℕ → ℕ → ℕ → ℕ → ℕ → Type 0
IsNoTable file job at len end = (fs : List Fence) → ¬ (IsTableAt file job at len end fs)

-- `Disk` only where the count of disk faults rose, and every other answer leaves that count.
pub record HasOpenCause {T : Type 0} (old new : HostState) (result : Result T OpenFault) : Type 0 where
  pub tells : new.tells ≡ old.tells
  pub later : now old ≤ now new
  pub faults_later : old.disk_faults ≤ new.disk_faults
  pub disk : IsErrOf result (Fault Disk) → Rose old.disk_faults new.disk_faults
  pub other : (IsErrOf result (Fault Disk) → ⊥) → new.disk_faults ≡ old.disk_faults
  pub reads_later : old.reads ≤ new.reads
  pub say_faults : new.say_faults ≡ old.say_faults
