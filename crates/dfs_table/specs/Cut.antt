-- How the records of a run are cut into blocks, and its blocks into tables.
use Rattle.std.specs.Prelude.{◌≡◌, ◌+◌, ◌-◌, ◌/◌, ℕ, nat_le, Bool, true, if◌then◌else◌, List, [], ◌∷◌, ◌++◌, length, map, filter_map, take}
use Rattle.std.specs.List.{AllByRecursion}
use Rattle.dfs_record.specs.declared.Key.{Key}
use Rattle.dfs_record.specs.declared.Record.{Record}
use Rattle.dfs_block.specs.Block.{block_bytes, first_key, most_bytes}
use Rattle.dfs_table.specs.declared.table.Table.{Table}
use Rattle.dfs_table.specs.Tables.{all_fences}
use Rattle.dfs_table.specs.Writer.{IsFull}

-- the record goes into the block of these records: it is the first one, or it does not carry the block past 4,096 bytes
abbrev pub fits : List Record → Record → Bool
fits [] r = true
fits (b ∷ bs) r = nat_le (length (block_bytes ((b ∷ bs) ++ r ∷ []))) most_bytes

-- the blocks of these records, behind those that the first block has already: each takes records as long as they fit
abbrev pub cut_behind : List Record → List Record → List (List Record)
cut_behind [] [] = []
cut_behind [] (b ∷ bs) = (b ∷ bs) ∷ []
cut_behind (r ∷ rs) block = if fits block r then cut_behind rs (block ++ r ∷ []) else block ∷ cut_behind rs (r ∷ [])

-- the blocks of a run of these records
abbrev pub cut : List Record → List (List Record)
cut rs = cut_behind rs []

-- the first key of each of its blocks
abbrev pub block_firsts : List Record → List Key
block_firsts rs = filter_map first_key (cut rs)

-- how many tables they need, of 4,096 blocks each
abbrev pub tables_needed : List Record → ℕ
tables_needed rs = (length (cut rs) + 4095) / 4096

-- The tables have the blocks of these records, and each table but the last is full.
pub record IsCut (rs : List Record) (ts : List Table) : Type 0 where
  pub blocks : map (λ f. f.count) (all_fences ts) ≡ map length (cut rs)
  pub full : AllByRecursion IsFull (take (length ts - 1) ts)
  pub needed : length ts ≡ tables_needed rs
