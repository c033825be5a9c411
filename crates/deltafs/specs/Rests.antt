-- How file 0 stands when a run ends.
use Rattle.std.specs.Prelude.{◌≡◌, ◌⊎◌, List}
use Rattle.dfs_host.specs.Disk.{IsSettled}
use Rattle.dfs_host.specs.Host.{HostState, bytes_of}
use Rattle.dfs_registry.specs.declared.listed.Listed.{Listed}
use Rattle.dfs_registry.specs.Reading.{at_rest, listing, registry as reading}
use Rattle.dfs_session.specs.Writes.{FileStays}
use Rattle.deltafs.specs.declared.status.Status.{Status}
use Rattle.deltafs.specs.declared.status.Status.TheVariants.{Usage, NotRegistry, RegistryDamaged, DiskFault, NoMemory}

-- File 0 is settled, and of the entries that it means it has the header, an open gate and a body for each, the closed gate, and
-- nothing else. What the files stand for is made of these entries.
pub record IsAtRest (host : HostState) : Type 0 where
  pub entries : List Listed
  pub settled : IsSettled (host.disk.files 0)
  pub means : reading (bytes_of host 0) ≡ listing entries
  pub bytes : bytes_of host 0 ≡ at_rest entries

-- So it is where the registry was opened, but for a call on a file that failed.
abbrev pub LeavesAtRest : Status → HostState → Type 0
LeavesAtRest DiskFault host = Unit {0}
LeavesAtRest status host = IsAtRest host

-- the same of a whole run, which may not open the registry: file 0 is as it was then
abbrev pub Rests : Status → HostState → HostState → Type 0
Rests Usage before after = FileStays 0 before after
Rests NotRegistry before after = FileStays 0 before after
Rests (RegistryDamaged place) before after = FileStays 0 before after
Rests NoMemory before after = IsAtRest after ⊎ FileStays 0 before after
Rests status before after = LeavesAtRest status after
