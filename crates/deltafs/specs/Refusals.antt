-- Runs that are refused.
use Rattle.std.specs.Prelude.{◌≡◌}
use Rattle.dfs_host.specs.Host.{HostState, OnlyReads}
use Rattle.dfs_host.specs.Source.{SourceState}
use Rattle.dfs_registry.specs.declared.fault.RegFault.{RegFault}
use Rattle.dfs_registry.specs.declared.fault.RegFault.TheVariants as reg
use Rattle.deltafs.specs.declared.status.Status.{Status}
use Rattle.deltafs.specs.declared.status.Status.TheVariants.{Usage, NotRegistry, RegistryDamaged, DiskFault, NoMemory}

-- the answers of a run that works no line
abbrev pub IsRefusal : Status → Type 0
IsRefusal Usage = Unit {0}
IsRefusal NotRegistry = Unit {0}
IsRefusal (RegistryDamaged place) = Unit {0}
IsRefusal status = ⊥

-- The refusal is answered, but for want of memory and a device that failed.
abbrev pub Refuses : Status → Status → Type 0
Refuses refusal NoMemory = Unit {0}
Refuses refusal DiskFault = Unit {0}
Refuses refusal status = status ≡ refusal

-- the status by the fault of an opening
abbrev pub status_of : RegFault → Status
status_of reg.NotRegistry = NotRegistry
status_of (reg.Damaged place) = RegistryDamaged place
status_of reg.NoMemory = NoMemory
status_of reg.Disk = DiskFault

-- Nothing was taken, written or said.
pub record StaysShut (host host_after : HostState) (source source_after : SourceState) : Type 0 where
  pub untaken : source_after ≡ source
  pub only : OnlyReads host host_after
