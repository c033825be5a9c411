-- What opening the registry answers.
use Rattle.std.specs.Prelude.{◌≡◌, ◌≤◌, ◌<◌, ℕ, true, false, List, ◌∷◌, ◌++◌, length, take, drop, Some, None, IsSome, Result, Ok, Err, IsErrOf}
use Rattle.dfs_host.specs.Counts.{Rose}
use Rattle.dfs_host.specs.Host.{HostState, now}
use Rattle.dfs_registry.specs.declared.listed.Listed.{Listed}
use Rattle.dfs_registry.specs.declared.gate.Gate.{Gate}
use Rattle.dfs_registry.specs.declared.gate.Gate.TheVariants.{Closed, Broken, Open}
use Rattle.dfs_registry.specs.declared.fault.RegFault.{RegFault}
use Rattle.dfs_registry.specs.declared.fault.RegFault.TheVariants.{NotRegistry, Damaged, NoMemory, Disk}
use Rattle.dfs_registry.specs.Body.{body, read_body}
use Rattle.dfs_registry.specs.Seen.{RegistryState}
use Rattle.dfs_registry.specs.Reading.{Reading, listing, not_a_registry, damaged, header, blocks, is_open, step, IsBody}

-- `Disk` only where the count of disk faults rose, and every other answer leaves that count
pub record HasRegCause {T : Type 0} (old new : HostState) (result : Result T RegFault) : Type 0 where
  pub tells : new.tells ≡ old.tells
  pub later : now old ≤ now new
  pub faults_later : old.disk_faults ≤ new.disk_faults
  pub disk : IsErrOf result Disk → Rose old.disk_faults new.disk_faults
  pub other : (IsErrOf result Disk → ⊥) → new.disk_faults ≡ old.disk_faults
  pub reads_later : old.reads ≤ new.reads
  pub say_faults : new.say_faults ≡ old.say_faults

-- an open gate and this body at the front
pub record IsOpened (bytes : List ℕ) (b : Listed) : Type 0 where
  pub opened : is_open bytes ≡ true
  pub read : read_body (drop 1 bytes) ≡ Some b
  pub spelled : take (step b) bytes ≡ 1 ∷ body b

-- an open gate and no body at the front
pub record IsBroken (bytes : List ℕ) : Type 0 where
  pub opened : is_open bytes ≡ true
  pub read : read_body (drop 1 bytes) ≡ None

-- what stands at the front
abbrev pub IsGate : List ℕ → Gate → Type 0
IsGate bytes Closed = is_open bytes ≡ false
IsGate bytes Broken = IsBroken bytes
IsGate bytes (Open b) = IsOpened bytes b

abbrev pub FitsBody : Gate → Type 0
FitsBody Closed = Unit {0}
FitsBody Broken = Unit {0}
FitsBody (Open b) = IsBody b

-- the file is open gates with these bodies, and then a gate that is not open and whatever stands behind it
pub record EndsBehind (bs : List Listed) (bytes : List ℕ) : Type 0 where
  pub ending : List ℕ
  pub shut : is_open ending ≡ false
  pub file : bytes ≡ header ++ blocks bs ++ ending

-- a longer file with the header
pub record IsMarked (bytes : List ℕ) : Type 0 where
  pub long : 9 < length bytes
  pub header : take 8 bytes ≡ header

-- an open gate at the front, and a body that can be read
pub record HoldsBody (bytes : List ℕ) : Type 0 where
  pub opened : is_open bytes ≡ true
  pub read : IsSome (read_body (drop 1 bytes))

-- a longer file with the header, whose first gate is open before a body that can be read
pub record HasPublication (bytes : List ℕ) : Type 0 where
  pub marked : IsMarked bytes
  pub first : HoldsBody (drop 8 bytes)

-- the answer of an opening, by what the file stands for
abbrev pub IsAnswer : Reading → Result RegistryState RegFault → Type 0
IsAnswer reading (Ok registry) = reading ≡ listing registry.entries
IsAnswer reading (Err NotRegistry) = reading ≡ not_a_registry
IsAnswer reading (Err (Damaged place)) = reading ≡ damaged place
IsAnswer reading (Err NoMemory) = Unit {0}
IsAnswer reading (Err Disk) = Unit {0}

-- the file is no registry, or a damaged one
abbrev pub IsShut : Reading → Type 0
IsShut (listing bs) = ⊥
IsShut not_a_registry = Unit {0}
IsShut (damaged place) = Unit {0}
