-- Records of job 1 that are written to its log as a run.
use Rattle.std.proofs.Common.{◌≡◌, ◌<◌, ◌∷◌, [], ℕ, zero, suc, List, false, length, get_or, arith}
use Rattle.std.specs.Prelude.{Option}
use Rattle.std.specs.List.{AllByRecursion}
use Rattle.dfs_host.specs.Host.{HostState, bytes_of}
use Rattle.dfs_record.specs.declared.Key.{Key}
use Rattle.dfs_block.specs.Block.{last_key}
use Rattle.dfs_log.specs.Logs.{LogState, LogStands}
use Rattle.dfs_table.specs.Identities.{IsWithin}
use Rattle.dfs_table.specs.Writer.{AreIn, WriterState, WriterStands, pushed}

-- The writer was given such records, the last of which has this key.
pub record IsPushing (host : HostState) (log : LogState) (w : WriterState) (last : Option Key) : Type 0 where
  pub live : w.spent ≡ false
  pub log_live : log.spent ≡ false
  pub log_file : log.file ≡ 1
  pub file : AreIn 1 w.closed
  pub log_stands : LogStands host log
  pub stands : WriterStands (bytes_of host 1) w
  pub last_is : last_key w.records ≡ last
  pub within : AllByRecursion (IsWithin 1) (pushed (bytes_of host 1) w)
  pub tables_left : w.tables_left ≡ 2

pub all_at : {A : Type 0} (P : A → Type 0) (xs : List A) (i : ℕ) (d : A) → i < length xs → AllByRecursion P xs → P (get_or xs i d)
all_at P [] i d below all = absurd (omega (arith, below))
all_at P (x ∷ xs) zero d below all = all.0
all_at P (x ∷ xs) (suc i) d below all = all_at P xs i d (omega (arith, below)) all.1
