-- The causes of a run's status, and the counts that it leaves.
use Rattle.std.specs.Prelude.{◌≡◌, ◌≢◌, ◌≤◌, ℕ, IsTrue}
use Rattle.dfs_host.specs.Counts.{Rose}
use Rattle.dfs_host.specs.Host.{HostState, now}
use Rattle.deltafs.specs.declared.status.Status.{Status}
use Rattle.deltafs.specs.declared.status.Status.TheVariants.{Usage, NotRegistry, RegistryDamaged, DiskFault, OutputFault, SourceFault, Changed}

-- the count of faults of the files
abbrev pub DiskFaultsOf : Status → ℕ → ℕ → Type 0
DiskFaultsOf DiskFault old new = (old ≤ new) × Rose old new
DiskFaultsOf status old new = new ≡ old

-- the count of faults in saying
abbrev pub SayFaultsOf : Status → ℕ → ℕ → Type 0
SayFaultsOf OutputFault old new = (old ≤ new) × Rose old new
SayFaultsOf status old new = new ≡ old

-- the count of faults of the source
abbrev pub SourceFaultsOf : Status → ℕ → ℕ → Type 0
SourceFaultsOf SourceFault old new = (old ≤ new) × Rose old new
SourceFaultsOf status old new = new ≡ old

-- what a host counts
pub record HasCause (status : Status) (old new : HostState) : Type 0 where
  pub tells : new.tells ≡ old.tells
  pub later : now old ≤ now new
  pub disk_faults : DiskFaultsOf status old.disk_faults new.disk_faults
  pub say_faults : SayFaultsOf status old.say_faults new.say_faults
  pub reads : old.reads ≤ new.reads
  -- a block that was read again was another one: never where the host tells
  pub changed : status ≡ Changed → Rose old.reads new.reads
  pub never_changed : IsTrue old.tells → status ≢ Changed

-- a status that the lines of a script may end with
abbrev pub IsOfLines : Status → Type 0
IsOfLines Usage = ⊥
IsOfLines NotRegistry = ⊥
IsOfLines (RegistryDamaged place) = ⊥
IsOfLines status = Unit {0}
