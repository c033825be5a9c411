-- What the layers of a job stand for on a host.
use Rattle.std.specs.Prelude.{◌≡◌, ◌≤◌, ◌<◌, ℕ, List, [], ◌∷◌, ◌++◌, map, flat_map, Option, Some, None, IsFalse}
use Rattle.std.specs.List.{AllByRecursion}
use Rattle.dfs_host.specs.Host.{HostState, bytes_of}
use Rattle.dfs_record.specs.declared.Entry.{Entry}
use Rattle.dfs_record.specs.declared.Record.{Record}
use Rattle.dfs_record.specs.declared.Value.{Value}
use Rattle.dfs_record.specs.declared.Value.TheVariants.{Del, Put}
use Rattle.dfs_record.specs.Delta.{delta, records_of}
use Rattle.dfs_record.specs.KeyMap.{empty}
use Rattle.dfs_record.specs.Namespace.{Namespace, after_records}
use Rattle.dfs_buffer.specs.Buffer.{StandsFor}
use Rattle.dfs_change.specs.declared.change.Change.{Change}
use Rattle.dfs_log.specs.Logs.{LogStands}
use Rattle.dfs_table.specs.declared.run.Run.{Run}
use Rattle.dfs_table.specs.Counts.{count_of}
use Rattle.dfs_table.specs.Tables.{all_fences}
use Rattle.dfs_table.specs.Stored.{IsTableOf, IsStored, table_records}
use Rattle.dfs_table.specs.Writer.{AreIn}
use Rattle.dfs_view.specs.declared.layers.Layers.{Layers}
use Rattle.dfs_view.specs.Lists.{Layered}

-- The file has the run, whose tables all lie in it.
pub record LiesIn (host : HostState) (file : ℕ) (run : Run) : Type 0 where
  pub each : AllByRecursion (IsTableOf (bytes_of host file)) run.tables
  pub inside : AreIn file run.tables

-- each table of the run lies in its file
abbrev pub IsHeld : HostState → Run → Type 0
IsHeld host run = AllByRecursion (λ t. IsTableOf (bytes_of host t.file) t) run.tables

-- the records of the run's tables, each in its own file
abbrev pub records_on : HostState → Run → List Record
records_on host run = flat_map (λ t. table_records (bytes_of host t.file) t) run.tables

-- the selected change sets, in the order of selection
abbrev pub selected : Layers → List Change
selected layers = map (λ c. c.value) layers.basis.items

-- how many records the fences of the run count
abbrev pub run_count : Run → ℕ
run_count run = count_of (all_fences run.tables)

-- the runs of the closed layers, the oldest first
abbrev pub own_runs : Layers → List Run
own_runs layers = map (λ r. r.value) layers.runs.items

-- the runs of the selected change sets, each with the file that it lies in, and those of the closed layers
abbrev pub runs_of : Layers → List (ℕ × Run)
runs_of layers = map (λ c. (c.value.listed.job, c.value.run.value)) layers.basis.items ++ map (λ r. (layers.log.file, r.value)) layers.runs.items

-- all records that the layers have, in the order in which they count
abbrev pub layer_records : HostState → Layers → List Record
layer_records host layers = flat_map (λ (r : ℕ × Run). records_on host r.1) (runs_of layers) ++ records_of layers.buffer.held

-- the namespace that they leave
abbrev pub layers_map : HostState → Layers → Namespace
layers_map host layers = after_records empty (layer_records host layers)

-- what the last value of a key leaves there
abbrev pub entry_left : Option Value → Option Entry
entry_left None = None
entry_left (Some Del) = None
entry_left (Some (Put entry)) = Some entry

-- On every host: the conditions of a view.
pub record AreFit (layers : Layers) : Type 0 where
  pub live : IsFalse layers.log.spent
  pub none_refused : layers.log.refused ≡ 0
  pub least : 1 ≤ layers.limit
  pub most : layers.limit ≤ 65536
  pub room : layers.buffer.made < layers.limit

-- On a host that tells: the log stands there, and each run lies in its file.
pub record Stand (host : HostState) (layers : Layers) : Type 0 where
  pub log : LogStands host layers.log
  pub runs : AllByRecursion (λ (r : ℕ × Run). LiesIn host r.0 r.1) (runs_of layers)

-- each run is stored in the file for the change set of its list
abbrev pub AreStored : List ℕ → List Run → List (List Record) → Type 0
AreStored file [] [] = Unit {0}
AreStored file [] (l ∷ ls) = ⊥
AreStored file (r ∷ rs) [] = ⊥
AreStored file (r ∷ rs) (l ∷ ls) = IsStored file r (delta l) × AreStored file rs ls

-- The layers stand for these lists: each run for its closed layer, and the buffer for the open one.
pub record StandFor (host : HostState) (layers : Layers) (l : Layered) : Type 0 where
  pub closed : AreStored (bytes_of host layers.log.file) (own_runs layers) l.closed
  pub open_ : StandsFor layers.buffer l.open_
