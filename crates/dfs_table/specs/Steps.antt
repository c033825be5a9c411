-- The steps of a writer of tables.
use Rattle.std.specs.Prelude.{◌≡◌, ◌≤◌, ◌<◌, ◌+◌, ℕ, List, [], ◌∷◌, ◌++◌, length, Option, Some}
use Rattle.dfs_record.specs.declared.Key.{Key}
use Rattle.dfs_record.specs.declared.Record.{Record}
use Rattle.dfs_block.specs.Block.{IsBlock, block_bytes, first_key, last_key}
use Rattle.dfs_fence.specs.declared.fence.Fence.{Fence}
use Rattle.dfs_fence.specs.Index.{AreApart, IsAboveLast, IsIndex, index_bytes, last_end, most_fences}
use Rattle.dfs_table.specs.declared.table.Table.{Table}
use Rattle.dfs_table.specs.Counts.{count_of}
use Rattle.dfs_table.specs.Writer.{IsFull, WriterState, fences_of}
use Rattle.std.specs.List.{AllByRecursion}

-- the fence of the block of these records, which begins at this place
pub record States (place : ℕ) (rs : List Record) (f : Fence) : Type 0 where
  pub block : IsBlock (block_bytes rs) rs
  pub at : f.at ≡ place
  pub len : f.len ≡ length (block_bytes rs)
  pub count : f.count ≡ length rs
  pub first : first_key rs ≡ Some f.first
  pub last : last_key rs ≡ Some f.last

-- each record not yet written is above what was written
abbrev pub IsAboveAll : WriterState → Type 0
IsAboveAll w = (key : Key) → first_key w.records ≡ Some key → IsAboveLast (last_end (fences_of w)) key

-- The records not yet written became the last block of the table under way.
pub record ClosesBlock (at : ℕ) (old new : WriterState) : Type 0 where
  pub fence : Fence
  pub states : States at old.records fence
  pub fences : new.fences ≡ old.fences ++ fence ∷ []
  pub blocks : new.blocks ≡ old.blocks ++ block_bytes old.records
  pub records : new.records ≡ []
  pub closed : new.closed ≡ old.closed

-- The table under way became the last closed one, with its index at this place of this file.
pub record ClosesTable (job place : ℕ) (old new : WriterState) : Type 0 where
  pub index : IsIndex (index_bytes old.fences) old.fences
  pub table : Table
  pub file : table.file ≡ job
  pub index_at : table.index_at ≡ place
  pub index_len : table.index_len ≡ length (index_bytes old.fences)
  pub table_fences : table.fences ≡ old.fences
  pub table_blocks : table.blocks ≡ old.blocks
  pub closed : new.closed ≡ old.closed ++ table ∷ []
  pub fences : new.fences ≡ []
  pub blocks : new.blocks ≡ []
  pub records : new.records ≡ old.records

-- The block under way is the last one of its table, and no more tables may be begun.
pub record EndsRun (w : WriterState) : Type 0 where
  pub last_block : length w.fences + 1 ≡ most_fences
  pub none_left : w.tables_left ≤ length w.closed + 1

-- All is written up to this key, so many records, and the next record may follow.
pub record IsReady (last : Option Key) (count : ℕ) (w : WriterState) : Type 0 where
  pub records : w.records ≡ []
  pub few : length w.fences < most_fences
  pub rise : AreApart (fences_of w)
  pub last_is : last_end (fences_of w) ≡ last
  pub room : length w.closed < w.tables_left
  pub full : AllByRecursion IsFull w.closed
  pub some : AllByRecursion (λ f. 1 ≤ f.count) (fences_of w)
  pub counted : count_of (fences_of w) ≡ count
