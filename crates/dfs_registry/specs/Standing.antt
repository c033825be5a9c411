-- What a registry stands on.
use Rattle.std.specs.Prelude.{◌≡◌, List}
use Rattle.dfs_host.specs.Disk.{IsSettled}
use Rattle.dfs_host.specs.Disk.{Image}
use Rattle.dfs_host.specs.Host.{HostState, LeavesNow, bytes_of}
use Rattle.dfs_registry.specs.declared.listed.Listed.{Listed}
use Rattle.dfs_registry.specs.Reading.{IsListing, at_rest, registry as reading, listing}
use Rattle.dfs_registry.specs.Seen.{RegistryState}

-- file 0 is settled, and it is open gates with the registry's publications and the standing gate
pub record RegistryStands (host : HostState) (registry : RegistryState) : Type 0 where
  pub settled : IsSettled (host.disk.files 0)
  pub listing : IsListing registry.entries
  pub file : bytes_of host 0 ≡ at_rest registry.entries

-- a crash now leaves these publications
abbrev pub LeavesList : HostState → List Listed → Type 0
LeavesList host bs = (image : Image) → LeavesNow host image → reading (image.files 0) ≡ listing bs
