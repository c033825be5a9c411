-- How a view goes on.
use Rattle.std.specs.Prelude.{◌≡◌, ◌<◌, ◌≤◌, ◌+◌, ◌*◌, ℕ, Bool, not, IsTrue, IsFalse, cond, List, [], ◌∷◌, ◌++◌, length, take, Result, OnOk, OnErr}
use Rattle.std.specs.Borrow.{GName}
use Rattle.std.specs.List.{AllByRecursion, sum_by}
use Rattle.dfs_host.specs.Host.{HostState, now, Told, bytes_of, Only}
use Rattle.dfs_buffer.specs.Buffer.{nothing}
use Rattle.dfs_log.specs.Logs.{LogStands}
use Rattle.dfs_record.specs.declared.Record.{Record}
use Rattle.dfs_record.specs.Delta.{records_of}
use Rattle.dfs_table.specs.declared.run.Run.{Run}
use Rattle.dfs_table.specs.Cut.{IsCut}
use Rattle.dfs_table.specs.Stored.{IsStored, IsTableOf, run_records}
use Rattle.dfs_table.specs.Writer.{AreIn, table_len}
use Rattle.dfs_view.specs.declared.layers.Layers.{Layers}
use Rattle.dfs_view.specs.Layers.{StandFor, own_runs, run_count}
use Rattle.dfs_view.specs.Lists.{Layered, add_all}

-- A host and layers, and whether they may be used.
pub record Pair : Type 0 where
  pub host : HostState
  pub layers : Layers
  pub live : Bool

-- A run of the job's own: its tables lie in the file, and a manifest may tell of them.
pub record IsOwnRun (file : ℕ) (run : Run) : Type 0 where
  pub inside : AreIn file run.tables
  pub few : length run.tables ≤ 131072

-- The file has the run, which is cut as its records there say.
pub record IsCutIn (host : HostState) (file : ℕ) (run : Run) : Type 0 where
  pub each : AllByRecursion (IsTableOf (bytes_of host file)) run.tables
  pub cut : IsCut (run_records (bytes_of host file) run.tables) run.tables

-- how many records the closed layers have
abbrev pub closed_count : Layers → ℕ
closed_count layers = sum_by run_count (own_runs layers)

-- how many bytes of a log the runs have: those of their blocks and indexes
abbrev pub runs_len : List Run → ℕ
runs_len runs = sum_by (λ r. sum_by table_len r.tables) runs

-- the log grew by the new runs' blocks and indexes alone
abbrev pub GrowsByRuns : Layers → Layers → Type 0
GrowsByRuns old new = new.log.len + runs_len (own_runs old) ≡ old.log.len + runs_len (own_runs new)

-- What a pair that may be used keeps, where so many records come in and the layers become others.
pub record WorksOn (old new : Pair) (count : ℕ) (becomes : Layered → Layered) : Type 0 where
  pub later : now old.host ≤ now new.host
  -- no file but the log's is written, and none is read
  pub only : Only old.layers.log.file old.host new.host
  pub reads : new.host.reads ≡ old.host.reads
  pub limit : new.layers.limit ≡ old.layers.limit
  pub basis : new.layers.basis.items ≡ old.layers.basis.items
  pub file : new.layers.log.file ≡ old.layers.log.file
  pub log_limit : new.layers.log.limit ≡ old.layers.log.limit
  -- each new run is the job's own, cut as its records say
  pub more : List Run
  pub runs : own_runs new.layers ≡ own_runs old.layers ++ more
  pub more_own : AllByRecursion (IsOwnRun old.layers.log.file) more
  pub more_cut : Told old.host (AllByRecursion (IsCutIn new.host old.layers.log.file) more)
  -- the closed layers get no more records than came in
  pub counted : closed_count new.layers + cond new.live new.layers.buffer.made 0 ≤ closed_count old.layers + (old.layers.buffer.made + count)
  -- a record costs the log at most 1,100 bytes, a piece that was refused counted, and those of the open layer not
  pub growth : new.layers.log.len + new.layers.log.refused + 1100 * cond new.live new.layers.buffer.made 0
      ≤ old.layers.log.len + 1100 * (old.layers.buffer.made + count)
  -- nothing is written beside the blocks and indexes of the new runs
  pub wrote : IsTrue new.live → new.layers.log.len ≡ old.layers.log.len + runs_len more
  -- a piece was refused only where it did not fit
  pub past : 0 < new.layers.log.refused → old.layers.log.limit < new.layers.log.len + new.layers.log.refused
  pub added : Told old.host (IsTrue new.live → (l : Layered) → StandFor old.host old.layers l → StandFor new.host new.layers (becomes l))
  -- the bytes that the log's file had stay in their places
  pub bytes : Told old.host (take (length (bytes_of old.host old.layers.log.file)) (bytes_of new.host old.layers.log.file) ≡ bytes_of old.host old.layers.log.file)

-- the records go to the end of the open layer, which closes where it has so many
abbrev pub GoesOn : Pair → Pair → List Record → Type 0
GoesOn old new records = WorksOn old new (length records) (λ l. add_all old.layers.limit l records)

-- The open layer is empty, and behind the runs there is one with its records.
pub record IsClosed (host host_after : HostState) (old new : Layers) : Type 0 where
  pub run : Run
  pub runs : own_runs new ≡ own_runs old ++ run ∷ []
  pub own : IsOwnRun old.log.file run
  pub count : run_count run ≤ old.buffer.made
  pub cut : IsCut (records_of old.buffer.held) run.tables
  pub wrote : new.log.len ≡ old.log.len + sum_by table_len run.tables
  pub emptied : new.buffer ≡ nothing
  pub live : IsFalse new.log.spent
  pub none_refused : new.log.refused ≡ 0
  pub log : Told host (LogStands host_after new.log)
  pub stored : Told host (IsStored (bytes_of host_after old.log.file) run old.buffer.held)

-- Behind the runs there is one more, which is cut as the records of the open layer say.
pub record AddsRun (old new : Layers) : Type 0 where
  pub run : Run
  pub runs : own_runs new ≡ own_runs old ++ run ∷ []
  pub cut : IsCut (records_of old.buffer.held) run.tables

-- Behind the runs there are none or more others, each of which is cut as its records in the log say.
pub record AddsCut (host : HostState) (old new : Layers) : Type 0 where
  pub more : List Run
  pub runs : own_runs new ≡ own_runs old ++ more
  pub cut : AllByRecursion (IsCutIn host old.log.file) more

-- An open layer that has a record becomes a run.
pub record AddsOpen (old new : Layers) : Type 0 where
  pub none : old.buffer.made ≡ 0 → own_runs new ≡ own_runs old
  pub one : 1 ≤ old.buffer.made → AddsRun old new

-- What closing the open layer leaves, whatever the answer.
pub record Closes {T E : Type 0} (host host_after : HostState) (old new : Layers) (result : Result T E) : Type 0 where
  pub only : Only old.log.file host host_after
  pub limit : new.limit ≡ old.limit
  pub basis : new.basis.items ≡ old.basis.items
  pub file : new.log.file ≡ old.log.file
  pub log_limit : new.log.limit ≡ old.log.limit
  pub growth : new.log.len + new.log.refused ≤ old.log.len + 1100 * old.buffer.made
  pub past : 0 < new.log.refused → old.log.limit < new.log.len + new.log.refused
  pub before : Told host (take old.log.len (bytes_of host_after old.log.file) ≡ bytes_of host old.log.file)
  pub same_runs : OnErr result (own_runs new ≡ own_runs old)
  pub closed : OnOk result (IsClosed host host_after old new)

-- A view as its parts: the names of its two references, what is behind them, and whether it is spent.
pub record Parts : Type 0 where
  pub host_name : GName
  pub layers_name : GName
  pub host : HostState
  pub layers : Layers
  pub spent : Bool

abbrev pub pair_of : Parts → Pair
pair_of parts = record { host = parts.host; layers = parts.layers; live = not parts.spent }

-- No call is made of the host, and the log is as before.
pub record LeavesLog (host host_after : HostState) (old new : Layers) : Type 0 where
  pub idle : host_after ≡ host
  pub log : new.log ≡ old.log

-- A spent view is followed by itself alone.
pub record Stays (old new : Parts) (records : List Record) : Type 0 where
  pub same : new ≡ old
  pub none : records ≡ []

-- It holds the same references. The names matter to whoever lent them: what is behind the view's at its end is behind the lender's.
pub record ViewFollows (old new : Parts) (records : List Record) : Type 0 where
  pub same_host : new.host_name ≡ old.host_name
  pub same_layers : new.layers_name ≡ old.layers_name
  pub live : IsFalse old.spent → GoesOn (pair_of old) (pair_of new) records
  -- as long as the open layer has room for the records
  pub room : old.layers.buffer.made + length records < old.layers.limit → LeavesLog old.host new.host old.layers new.layers
  pub spent : IsTrue old.spent → Stays old new records
