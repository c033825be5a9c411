-- The host that a folder is, and the source that a reader is. Neither tells what it has.
use Rattle.std.specs.Prelude.{ℕ, [], false}
use Rattle.dfs_host.specs.Host.{HostState, silent_state}
use Rattle.dfs_host.specs.Source.{SourceState}
use Rattle.dfs_folder.specs.declared.host.FolderHost.{FolderHost}
use Rattle.dfs_folder.specs.declared.source.StdinSource.{StdinSource}

module _ {W : Type 0} where
  abbrev pub state_of : FolderHost W → HostState
  state_of host = silent_state host.disk_faults host.say_faults host.reads

abbrev pub silent_source : ℕ → SourceState
silent_source faults = record { tells = false; rest = []; faults = faults }

module _ {R : Type 0} where
  abbrev pub source_of : StdinSource R → SourceState
  source_of source = silent_source source.faults
