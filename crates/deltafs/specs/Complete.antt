-- Runs that nothing stops.
use Rattle.std.specs.Prelude.{ℕ, ◌<◌, List, length, Option, Some, None}
use Rattle.dfs_gen.specs.Script.{script as generated}
use Rattle.dfs_host.specs.Counts.{Rose}
use Rattle.dfs_host.specs.Host.{HostState}
use Rattle.dfs_host.specs.Source.{SourceState}
use Rattle.dfs_script.specs.Script.{lines_of}
use Rattle.dfs_session.specs.Room.{HaveRoom}
use Rattle.dfs_session.specs.Session.{Registry, opened}
use Rattle.deltafs.specs.declared.status.Status.{Status}
use Rattle.deltafs.specs.declared.status.Status.TheVariants.{Done, NoMemory}
use Rattle.deltafs.specs.declared.words.Command.{Command}
use Rattle.deltafs.specs.declared.words.Command.TheVariants.{Run, Gen}

-- the log of each job of the script has room for what the job may need at its end
abbrev pub JobsHaveRoom : Option Command → Registry → List ℕ → Type 0
JobsHaveRoom None old script = ⊥
JobsHaveRoom (Some Run) old script = HaveRoom (opened old) (lines_of script)
JobsHaveRoom (Some (Gen creates)) old script = HaveRoom (opened old) (lines_of (generated creates))

-- a script that the source has is shorter than the limit
abbrev pub FitsLimit : Option Command → ℕ → List ℕ → Type 0
FitsLimit None limit script = Unit {0}
FitsLimit (Some Run) limit script = length script < limit
FitsLimit (Some (Gen creates)) limit script = Unit {0}

-- no count of faults rose
pub record MeetsNoFault (host_old host_new : HostState) (source_old source_new : SourceState) : Type 0 where
  pub disk : ¬ (Rose host_old.disk_faults host_new.disk_faults)
  pub output : ¬ (Rose host_old.say_faults host_new.say_faults)
  pub input : ¬ (Rose source_old.faults source_new.faults)

-- the run is done, or memory ran out
abbrev pub IsCompleted : Status → Type 0
IsCompleted Done = Unit {0}
IsCompleted NoMemory = Unit {0}
IsCompleted status = ⊥
