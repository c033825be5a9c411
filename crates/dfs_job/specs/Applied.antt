-- What an operation did to layers and to the numbers of their job.
use Rattle.std.specs.Prelude.{◌≡◌, ◌≤◌, ◌<◌, ◌+◌, List, length, Result, OnOk, OnErr}
use mathlib.Core.List.{IsPrefix}
use Rattle.dfs_host.specs.Host.{Told}
use Rattle.dfs_host.specs.declared.fault.Fault.{Fault}
use Rattle.dfs_record.specs.declared.Record.{Record}
use Rattle.dfs_path.specs.declared.Op.{Op}
use Rattle.dfs_ops.specs.declared.Ids.{Ids}
use Rattle.dfs_ops.specs.Op.{outcome}
use Rattle.dfs_view.specs.Layers.{layers_map}
use Rattle.dfs_view.specs.View.{Pair, GoesOn, LeavesLog}

-- The layers went on by some records, at most two: all of the operation's where it was answered, some first ones with a fault.
pub record IsApplied {T : Type 0} (old new : Pair) (ids ids_now : Ids) (op : Op) (result : Result T Fault) : Type 0 where
  pub records : List Record
  pub went_on : GoesOn old new records
  -- nothing is written while the open layer has room for them
  pub room : old.layers.buffer.made + length records < old.layers.limit → LeavesLog old.host new.host old.layers new.layers
  pub few : length records ≤ 2
  pub job : OnOk result (ids_now.job ≡ ids.job)
  pub made : OnOk result (ids_now.made ≡ ids.made + length records)
  pub whole : Told old.host (OnOk result (records ≡ (outcome (layers_map old.host old.layers) ids op).records))
  pub first : Told old.host (OnErr result (IsPrefix records (outcome (layers_map old.host old.layers) ids op).records))
