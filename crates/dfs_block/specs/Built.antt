-- A block under construction.
use Rattle.std.specs.Prelude.{◌≡◌, ◌≤◌, ℕ, List, length}
use Rattle.std.specs.Prelude.{vec_capacity}
use Rattle.std.specs.Global.{Vec}
use Rattle.std.specs.List.{AllByRecursion}
use Rattle.dfs_record.specs.declared.Record.{Record}
use Rattle.dfs_record.specs.Record.{IsRecord}
use Rattle.dfs_record.specs.Records.{KeysRise}
use Rattle.dfs_block.specs.Block.{block_bytes, most_bytes}

-- the bytes are those of the block of these records, which are so many, and there is room for the longest block
pub record IsBuilt (bytes : Vec ℕ) (count : ℕ) (rs : List Record) : Type 0 where
  pub number : count ≡ length rs
  pub spelled : bytes.items ≡ block_bytes rs
  pub short : length bytes.items ≤ most_bytes
  pub room : most_bytes ≤ vec_capacity bytes
  pub rise : KeysRise rs
  pub valid : AllByRecursion IsRecord rs
