-- The parts of a compaction: which records each has, and where they lie.
use Rattle.std.specs.Prelude.{ℕ, zero, suc, ◌+◌, List, [], ◌∷◌, map, flat_map, Option, Some, None}
use Rattle.dfs_record.specs.declared.Key.{Key}
use Rattle.dfs_record.specs.declared.Record.{Record}
use Rattle.dfs_record.specs.Delta.{Delta, merged, records_of}
use Rattle.dfs_record.specs.Records.{Files}
use Rattle.dfs_cursor.specs.Ranges.{part}
use Rattle.dfs_fence.specs.declared.fence.Fence.{Fence}
use Rattle.dfs_plan.specs.Parts.{boundary}
use Rattle.dfs_table.specs.declared.run.Run.{Run}
use Rattle.dfs_table.specs.declared.table.Table.{Table}
use Rattle.dfs_table.specs.Counts.{count_of}
use Rattle.dfs_table.specs.Cut.{tables_needed}
use Rattle.dfs_table.specs.Stored.{IsStored}
use Rattle.dfs_table.specs.Tables.{all_fences}
use Rattle.dfs_table.specs.Writer.{AreIn}

-- the fences of all blocks of the runs
abbrev pub fences_in : List Run → List Fence
fences_in runs = flat_map (λ r. all_fences r.tables) runs

-- the first key of each block
abbrev pub first_keys : List Run → List Key
first_keys runs = map (λ f. f.first) (fences_in runs)

-- how many records the runs have
abbrev pub count_all : List Run → ℕ
count_all runs = count_of (fences_in runs)

-- the merged list of the change sets, of each the keys from one end up to, not with, the other
abbrev pub merged_part : Option Key → Option Key → List Delta → List Record
merged_part low high ds = merged (map (λ d. part low high (records_of d)) ds)

-- The run lies in one file, and is stored there for the change set.
pub record IsSource (files : Files) (run : Run) (d : Delta) : Type 0 where
  pub file : ℕ
  pub inside : AreIn file run.tables
  pub stored : IsStored (files file) run d

-- each run for its change set
abbrev pub AreSources : Files → List Run → List Delta → Type 0
AreSources files [] [] = Unit {0}
AreSources files [] (d ∷ ds) = ⊥
AreSources files (r ∷ rs) [] = ⊥
AreSources files (r ∷ rs) (d ∷ ds) = IsSource files r d × AreSources files rs ds

-- the tables of a part, none where it was not merged yet
abbrev pub tables_in : Option Run → List Table
tables_in None = []
tables_in (Some run) = run.tables

-- the tables of all merged parts, in the order of their ranges
abbrev pub tables_of : List (Option Run) → List Table
tables_of merged = flat_map tables_in merged

-- how many tables the parts below this number need together
abbrev pub tables_below : List Key → ℕ → List Delta → ℕ → ℕ
tables_below keys parts ds zero = 0
tables_below keys parts ds (suc i) = tables_below keys parts ds i + tables_needed (merged_part (boundary keys parts i) (boundary keys parts (i + 1)) ds)
