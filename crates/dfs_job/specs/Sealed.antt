-- Runs that may be sealed as one, and how they were.
use Rattle.std.specs.Prelude.{◌≡◌, ◌≢◌, ◌+◌, ◌++◌, ℕ, List, [], ◌∷◌, flat_map, length}
use Rattle.std.specs.List.{AllByRecursion}
use Rattle.dfs_host.specs.Host.{HostState, bytes_of}
use Rattle.dfs_record.specs.declared.Record.{Record}
use Rattle.dfs_record.specs.Delta.{Delta}
use Rattle.dfs_change.specs.Identities.{AreFit, FitsJob}
use Rattle.dfs_change.specs.Whole.{extents_of}
use Rattle.dfs_manifest.specs.Manifest.{manifest_bytes}
use Rattle.dfs_table.specs.Stored.{IsStored, IsTableOf, part}
use Rattle.dfs_table.specs.declared.run.Run.{Run}
use Rattle.dfs_view.specs.declared.layers.Layers.{Layers}
use Rattle.dfs_view.specs.Layers.{AreStored, own_runs}
use Rattle.dfs_view.specs.View.{runs_len}

-- The runs are stored in the file of the job for these layers, whose records are its own.
pub record IsSealable (host : HostState) (file : ℕ) (runs : List Run) (ls : List (List Record)) : Type 0 where
  pub stored : AreStored (bytes_of host file) runs ls
  pub own : AllByRecursion (FitsJob file) (flat_map (λ rs. rs) ls)

-- the layers that they are stored for
pub record AreSealable (host : HostState) (file : ℕ) (runs : List Run) : Type 0 where
  pub layers : List (List Record)
  pub are : IsSealable host file runs layers

-- The run is stored in the file of the job for a change set of it.
pub record IsRunOfJob (host : HostState) (file : ℕ) (run : Run) : Type 0 where
  pub changes : Delta
  pub stored : IsStored (bytes_of host file) run changes
  pub own : AreFit file changes

-- The file has so many bytes at the place that are the manifest of the run, and has the run's tables.
pub record HasManifest (file : List ℕ) (at len : ℕ) (run : Run) : Type 0 where
  pub bytes : part file at len ≡ manifest_bytes (extents_of run.tables)
  pub each : AllByRecursion (IsTableOf file) run.tables

-- The layers, all closed then, are sealed: the manifest is that of the only one's run as it stands, else of a run that was written
-- behind them. Before the manifest nothing was written but the blocks and indexes of new runs.
pub record SealsLayers (file : List ℕ) (old new : Layers) (at len : ℕ) : Type 0 where
  pub run : Run
  pub manifest : HasManifest file at len run
  pub one : length (own_runs new) ≡ 1 → (own_runs new ≡ run ∷ []) × (at + runs_len (own_runs old) ≡ old.log.len + runs_len (own_runs new))
  pub merged : length (own_runs new) ≢ 1 → at + runs_len (own_runs old) ≡ old.log.len + runs_len (own_runs new ++ run ∷ [])
