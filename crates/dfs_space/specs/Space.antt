-- The state of a space, and the causes of its answers.
use Rattle.std.specs.Prelude.{◌≡◌, ◌↔◌, ◌≤◌, ◌<◌, ℕ, Bool, IsTrue, IsFalse, List, [], Result, OnOk, IsErrOf}
use Rattle.dfs_record.specs.declared.Record.{Record}
use Rattle.dfs_record.specs.Namespace.{Namespace}
use Rattle.dfs_host.specs.Counts.{Rose}
use Rattle.dfs_host.specs.declared.fault.Fault.{Fault}
use Rattle.dfs_host.specs.declared.fault.Fault.TheVariants.{Disk, LogFull, Changed}

-- What a space is seen as, beside the map that it stands for.
pub record SpaceState : Type 0 where
  -- whether it tells what it has
  pub tells : Bool
  -- counts that never fall
  pub disk_faults : ℕ
  pub reads : ℕ
  pub spent : Bool
  -- the size of the piece that its log last refused
  pub refused : ℕ

-- its calls may be made
pub record IsReady (space : SpaceState) : Type 0 where
  pub live : IsFalse space.spent
  pub none_refused : space.refused ≡ 0

-- The cause of the answer of a call or a run of calls, and what the answer leaves.
pub record HasSpaceCause {T : Type 0} (old new : SpaceState) (result : Result T Fault) : Type 0 where
  pub tells : new.tells ≡ old.tells
  pub live : OnOk result (IsFalse new.spent)
  pub faults_later : old.disk_faults ≤ new.disk_faults
  pub disk : IsErrOf result Disk → Rose old.disk_faults new.disk_faults
  pub other : (IsErrOf result Disk → ⊥) → new.disk_faults ≡ old.disk_faults
  pub reads_later : old.reads ≤ new.reads
  pub changed : (file at : ℕ) → IsErrOf result (Changed file at) → Rose old.reads new.reads
  pub never_changed : IsTrue old.tells → (file at : ℕ) → IsErrOf result (Changed file at) → ⊥
  pub full : IsErrOf result LogFull ↔ (0 < new.refused)

-- no fault came between the two
pub record NoSpaceFault (old new : SpaceState) : Type 0 where
  pub tells : new.tells ≡ old.tells
  pub disk_faults : new.disk_faults ≡ old.disk_faults
  pub reads_later : old.reads ≤ new.reads

-- What is said of a call or a run of calls that changes nothing.
pub record HasRead {S T : Type 0} (StandsFor : S → Namespace → Type 0) (follows : S → S → List Record → Type 0) (state : S → SpaceState) (old new : S) (result : Result T Fault) : Type 0 where
  pub map : (m : Namespace) → StandsFor old m → StandsFor new m
  pub went_on : follows old new []
  pub cause : HasSpaceCause (state old) (state new) result
  pub never_full : IsErrOf result LogFull → ⊥
