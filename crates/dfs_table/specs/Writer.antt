-- What a writer of tables is seen as, and what it is to stand in the bytes of a file.
use Rattle.std.specs.Prelude.{◌≡◌, ◌≤◌, ◌<◌, ◌+◌, ◌*◌, ◌⊎◌, ℕ, Bool, true, false, List, [], ◌∷◌, ◌++◌, length, take, Some}
use Rattle.std.specs.List.{AllByRecursion, sum_by}
use Rattle.dfs_record.specs.declared.Key.{Key}
use Rattle.dfs_record.specs.declared.Record.{Record}
use Rattle.dfs_block.specs.Block.{block_bytes, first_key, last_key, most_bytes}
use Rattle.dfs_fence.specs.declared.fence.Fence.{Fence}
use Rattle.dfs_fence.specs.Index.{AreApart, IsAboveLast, last_end, most_fences}
use Rattle.dfs_table.specs.declared.table.Table.{Table}
use Rattle.dfs_table.specs.Counts.{count_of}
use Rattle.dfs_table.specs.Stored.{IsBlockOf, IsTableOf, blocks_by, records_by, run_records}
use Rattle.dfs_table.specs.Tables.{all_fences}

pub record WriterState : Type 0 where
  -- the tables that it closed
  pub closed : List Table
  -- the fences of the table under way, and the bytes of its blocks
  pub fences : List Fence
  pub blocks : List ℕ
  -- the records that it has not written yet
  pub records : List Record
  -- how many tables it may begin
  pub tables_left : ℕ
  pub spent : Bool

-- a writer that was given no record
abbrev pub fresh : ℕ → WriterState
fresh tables_left = record { closed = []; fences = []; blocks = []; records = []; tables_left = tables_left; spent = false }

-- the fences of all blocks that it wrote
abbrev pub fences_of : WriterState → List Fence
fences_of w = all_fences w.closed ++ w.fences

-- The file has what the writer wrote: the tables that it closed, and the blocks of the one under way.
pub record WriterStands (file : List ℕ) (w : WriterState) : Type 0 where
  pub closed : AllByRecursion (IsTableOf file) w.closed
  pub each : AllByRecursion (IsBlockOf file) w.fences
  pub blocks : w.blocks ≡ blocks_by file w.fences

-- The records that the writer was given: those in the file, and behind them those that it has not written yet.
abbrev pub pushed : List ℕ → WriterState → List Record
pushed file w = run_records file w.closed ++ records_by file w.fences ++ w.records

-- how many records the writer was given
abbrev pub count_in : WriterState → ℕ
count_in w = count_of (all_fences w.closed ++ w.fences) + length w.records

-- how many bytes of a log a table has
abbrev pub table_len : Table → ℕ
table_len t = length t.blocks + t.index_len

-- how many bytes the writer wrote: its blocks, and the indexes of the tables that it closed
abbrev pub wrote : WriterState → ℕ
wrote w = length w.blocks + sum_by table_len w.closed

-- the table has as many blocks as a table may have
abbrev pub IsFull : Table → Type 0
IsFull t = length t.fences ≡ most_fences

-- the tables lie in this file
abbrev pub AreIn : ℕ → List Table → Type 0
AreIn file ts = AllByRecursion (λ t. t.file ≡ file) ts

-- the first and the last key of the block pass the test
abbrev pub EndsPass : (Key → Bool) → Fence → Type 0
EndsPass p f = (p f.first ≡ true) × (p f.last ≡ true)

-- the key of the record passes the test
abbrev pub KeyPasses : (Key → Bool) → Record → Type 0
KeyPasses p r = p r.key ≡ true

-- the next record goes into the block under way
abbrev pub Fits : WriterState → Record → Type 0
Fits w r = length (block_bytes (w.records ++ r ∷ [])) ≤ most_bytes

-- The next record begins a table: none is under way, or the block that it does not fit into is the last one of its table.
abbrev pub BeginsTable : WriterState → Record → Type 0
BeginsTable w r = (w.records ≡ []) ⊎ ((¬ (Fits w r)) × (length w.fences + 1 ≡ most_fences))

-- how many tables were begun
abbrev pub begun : WriterState → ℕ
begun w = length w.closed + length (take 1 w.records)

-- the next record begins a table, and no more may be begun
abbrev pub IsOneTooMany : WriterState → Record → Type 0
IsOneTooMany w r = BeginsTable w r × (w.tables_left ≤ begun w)

-- At most so many bytes are still to be appended for what the writer was given. A record alone in its table costs at most 2 bytes
-- of its block and 539 of its own, 4 of the index and 542 of its fence.
abbrev pub owed : WriterState → ℕ
owed w = 1100 * length w.records + 546 * length w.fences

-- The records not yet written became one block, which begins at the place and is the last one of all. Where its table was closed, the
-- index begins behind it.
pub record AddsBlock (place : ℕ) (old new : WriterState) : Type 0 where
  pub fence : Fence
  pub at : fence.at ≡ place
  pub index_at : (table : Table) → new.closed ≡ old.closed ++ table ∷ [] → table.index_at ≡ place + fence.len
  pub fences : fences_of new ≡ fences_of old ++ fence ∷ []
  pub count : fence.count ≡ length old.records
  pub first : first_key old.records ≡ Some fence.first
  pub last : last_key old.records ≡ Some fence.last

-- The records not yet written became the last block of the table under way, which begins at the place. The table became the last one
-- of these, and its index begins behind the block.
pub record AddsTable (place : ℕ) (w : WriterState) (ts : List Table) : Type 0 where
  pub table : Table
  pub fence : Fence
  pub at : fence.at ≡ place
  pub index_at : table.index_at ≡ place + fence.len
  pub tables : ts ≡ w.closed ++ table ∷ []
  pub fences : table.fences ≡ w.fences ++ fence ∷ []
  pub count : fence.count ≡ length w.records
  pub first : first_key w.records ≡ Some fence.first
  pub last : last_key w.records ≡ Some fence.last

-- what is so of each writer that is not spent
pub record IsSound (w : WriterState) : Type 0 where
  pub few : length w.fences < most_fences
  pub none : w.records ≡ [] → (w.closed ≡ []) × (w.fences ≡ []) × (w.blocks ≡ [])
  pub rise : AreApart (all_fences w.closed ++ w.fences)
  pub above : (key : Key) → first_key w.records ≡ Some key → IsAboveLast (last_end (all_fences w.closed ++ w.fences)) key
  pub begun : begun w ≤ w.tables_left
  pub full : AllByRecursion IsFull w.closed
  pub some : AllByRecursion (λ f. 1 ≤ f.count) (all_fences w.closed ++ w.fences)
