-- Records and change sets of a job.
use Rattle.std.specs.Prelude.{ℕ}
use Rattle.std.specs.List.{AllByRecursion}
use Rattle.dfs_record.specs.declared.Record.{Record}
use Rattle.dfs_record.specs.Delta.{Delta, records_of}
use Rattle.dfs_record.specs.Record.{IsRecord}
use Rattle.dfs_table.specs.Identities.{IsWithin}

-- a valid record of a job that has this number
pub record FitsJob (job : ℕ) (r : Record) : Type 0 where
  pub valid : IsRecord r
  pub within : IsWithin job r

-- a change set of such records
abbrev pub AreFit : ℕ → Delta → Type 0
AreFit job d = AllByRecursion (FitsJob job) (records_of d)
