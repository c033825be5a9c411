-- Records of a source that are being written to a log as a run.
use Rattle.std.specs.Prelude.{◌≡◌, ◌≤◌, ℕ, ◌+◌, ◌*◌, ◌++◌, Bool, false, List, length, map, Some}
use Rattle.std.specs.List.{AllByRecursion}
use Rattle.dfs_host.specs.Fault.{NoFault}
use Rattle.dfs_host.specs.Host.{HostState, Told, bytes_of}
use Rattle.dfs_record.specs.declared.Key.{Key}
use Rattle.dfs_record.specs.declared.Record.{Record}
use Rattle.dfs_block.specs.Block.{IsAboveLast, first_key, last_key}
use Rattle.dfs_log.specs.Logs.{LogState, LogStands}
use Rattle.dfs_table.specs.Appending.{Appends}
use Rattle.dfs_table.specs.Cut.{cut, cut_behind}
use Rattle.dfs_table.specs.Writer.{AreIn, EndsPass, IsSound, KeyPasses, WriterStands, WriterState, count_in, fences_of, owed, pushed, wrote}

-- Of these records all but the rest were given to the writer, which may begin so many tables.
pub record IsWriting (start now : HostState) (log_start log : LogState) (tables : ℕ) (all rest : List Record) (w : WriterState) : Type 0 where
  pub written : Told start (pushed (bytes_of now log_start.file) w ++ rest ≡ all)
  pub stands : Told start (WriterStands (bytes_of now log_start.file) w)
  pub log_stands : Told start (LogStands now log)
  pub sound : IsSound w
  pub above : (key : Key) → first_key rest ≡ Some key → IsAboveLast (last_key w.records) key
  pub count : count_in w + length rest ≡ length all
  pub tables_left : w.tables_left ≡ tables
  pub live : w.spent ≡ false
  pub log_live : log.spent ≡ false
  pub file : AreIn log_start.file w.closed
  pub cut : map (λ f. f.count) (fences_of w) ++ map length (cut_behind rest w.records) ≡ map length (cut all)
  pub wrote : log.len ≡ log_start.len + wrote w
  pub growth : log.len + owed w ≤ log_start.len + 1100 * count_in w
  pub left : Appends start now log_start log
  pub no_fault : NoFault start now
  -- what all keys pass, those of the blocks and of the records not yet written and not yet given pass
  pub passing : (p : Key → Bool) → AllByRecursion (KeyPasses p) all → AllByRecursion (EndsPass p) (fences_of w) × AllByRecursion (KeyPasses p) w.records × AllByRecursion (KeyPasses p) rest
