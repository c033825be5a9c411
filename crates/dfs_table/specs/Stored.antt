-- Where tables and their blocks lie in the bytes of a file, and which records they have.
use Rattle.std.specs.Prelude.{◌≡◌, ◌≤◌, ◌+◌, ℕ, List, length, take, drop, Some, flat_map}
use Rattle.std.specs.List.{AllByRecursion}
use Rattle.dfs_record.specs.declared.Record.{Record}
use Rattle.dfs_record.specs.Delta.{Delta, records_of}
use Rattle.dfs_block.specs.Block.{IsBlock, first_key, last_key}
use Rattle.dfs_block.specs.Front.{records_front}
use Rattle.dfs_fence.specs.declared.fence.Fence.{Fence}
use Rattle.dfs_fence.specs.Index.{IsIndex}
use Rattle.dfs_table.specs.declared.table.Table.{Table}
use Rattle.dfs_table.specs.declared.run.Run.{Run}

-- so many bytes of the file, from a place on
abbrev pub part : List ℕ → ℕ → ℕ → List ℕ
part file at len = take len (drop at file)

-- the bytes of the block that the fence states
abbrev pub block_at : List ℕ → Fence → List ℕ
block_at file f = part file f.at f.len

-- as many records as the fence counts, read behind the two bytes of the block's own count
abbrev pub records_at : List ℕ → Fence → List Record
records_at file f = records_front f.count (drop 2 (block_at file f))

-- The file has the block where the fence says, at place 12 or behind it, and the two agree in the number of records, the first key
-- and the last one.
pub record IsBlockOf (file : List ℕ) (f : Fence) : Type 0 where
  pub behind : 12 ≤ f.at
  pub inside : f.at + f.len ≤ length file
  pub block : IsBlock (block_at file f) (records_at file f)
  pub count : length (records_at file f) ≡ f.count
  pub first : first_key (records_at file f) ≡ Some f.first
  pub last : last_key (records_at file f) ≡ Some f.last

-- The file has the index of these fences in so many bytes, at place 12 or behind it.
pub record IsIndexAt (file : List ℕ) (at len : ℕ) (fs : List Fence) : Type 0 where
  pub behind : 12 ≤ at
  pub inside : at + len ≤ length file
  pub index : IsIndex (part file at len) fs

-- the bytes of the blocks, one after the other
abbrev pub blocks_by : List ℕ → List Fence → List ℕ
blocks_by file fs = flat_map (block_at file) fs

-- the records of the blocks, one after the other
abbrev pub records_by : List ℕ → List Fence → List Record
records_by file fs = flat_map (records_at file) fs

-- The file has the index of the table and each of its blocks, and what the table holds of them is what the file has.
pub record IsTableOf (file : List ℕ) (t : Table) : Type 0 where
  pub index : IsIndexAt file t.index_at t.index_len t.fences
  pub each : AllByRecursion (IsBlockOf file) t.fences
  pub blocks : t.blocks ≡ blocks_by file t.fences

abbrev pub table_records : List ℕ → Table → List Record
table_records file t = records_by file t.fences

abbrev pub run_records : List ℕ → List Table → List Record
run_records file ts = flat_map (table_records file) ts

-- The run is stored in the file: it has each of its tables, and their records are those of the change set.
pub record IsStored (file : List ℕ) (run : Run) (d : Delta) : Type 0 where
  pub each : AllByRecursion (IsTableOf file) run.tables
  pub records : run_records file run.tables ≡ records_of d
