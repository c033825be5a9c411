-- What a compaction is seen as, and what it is to stand on files.
use Rattle.std.specs.Prelude.{◌≡◌, ◌≤◌, ◌<◌, ◌+◌, ◌*◌, ℕ, Bool, List, Option, Some, IsSome, IsSomeAnd, length, slice_get, slice_set}
use Rattle.std.specs.List.{AllByRecursion}
use Rattle.std.specs.List.Sorted.{IsPermutation}
use Rattle.dfs_record.specs.declared.Key.{Key}
use Rattle.dfs_record.specs.declared.Record.{Record}
use Rattle.dfs_record.specs.Delta.{Delta, delta}
use Rattle.dfs_record.specs.Records.{Files}
use Rattle.dfs_cursor.specs.Ranges.{is_within}
use Rattle.dfs_plan.specs.Parts.{boundary}
use Rattle.dfs_plan.specs.Plan.{IsPlan}
use Rattle.dfs_table.specs.declared.run.Run.{Run}
use Rattle.dfs_table.specs.Counts.{count_of}
use Rattle.dfs_table.specs.Cut.{IsCut, tables_needed}
use Rattle.dfs_table.specs.Stored.{IsStored}
use Rattle.dfs_table.specs.Tables.{AreTables, all_fences}
use Rattle.dfs_table.specs.Writer.{AreIn, EndsPass}
use Rattle.dfs_compact.specs.declared.compaction.Parted.{Parted}
use Rattle.dfs_compact.specs.declared.compaction.Parted.TheVariants.{Merged, Last, Range, Done}
use Rattle.dfs_compact.specs.Parts.{AreSources, count_all, first_keys, merged_part, tables_of}

pub record CompactionState : Type 0 where
  -- the runs that are merged, the oldest first
  pub sources : List Run
  -- the first keys of their blocks, sorted, and how many parts they cut the keys into
  pub keys : List Key
  pub parts : ℕ
  -- of each part, in the order of their ranges, what it was merged to
  pub merged : List (Option Run)
  pub spent : Bool

-- the records of the part with this number
abbrev pub part_of : CompactionState → List Delta → ℕ → List Record
part_of c ds i = merged_part (boundary c.keys c.parts i) (boundary c.keys c.parts (i + 1)) ds

-- A compaction stands where its sources are stored in their files for these change sets, and the tables of each merged part lie in
-- this file and are stored there for the merged list of the change sets, cut to the part's range, as many as it needs.
pub record Stands (files : Files) (file : ℕ) (c : CompactionState) (ds : List Delta) : Type 0 where
  pub sources : AreSources files c.sources ds
  pub inside : AreIn file (tables_of c.merged)
  pub each : (i : ℕ) (run : Run) → slice_get c.merged i ≡ Some (Some run) → IsStored (files file) run (delta (part_of c ds i))
  pub cut : (i : ℕ) (run : Run) → slice_get c.merged i ≡ Some (Some run) → IsCut (part_of c ds i) run.tables

-- with this part the run of all parts would pass 131,072 tables
abbrev pub IsPastWith : CompactionState → List Delta → ℕ → Type 0
IsPastWith c ds i = 131072 < length (tables_of c.merged) + tables_needed (part_of c ds i)

-- the part with this number was merged
abbrev pub IsMerged : CompactionState → ℕ → Type 0
IsMerged c i = IsSomeAnd (slice_get c.merged i) IsSome

-- all parts were merged
abbrev pub AreMerged : CompactionState → Type 0
AreMerged c = AllByRecursion IsSome c.merged

-- there is no such part, or it was merged: the call is refused
abbrev pub IsRefusal : Parted → Type 0
IsRefusal Merged = ⊥
IsRefusal Last = ⊥
IsRefusal Range = Unit {0}
IsRefusal Done = Unit {0}

-- the part was merged
abbrev pub IsWritten : Parted → Type 0
IsWritten Merged = Unit {0}
IsWritten Last = Unit {0}
IsWritten Range = ⊥
IsWritten Done = ⊥

-- which of the two answers a part that was merged has
abbrev pub HasOutcome : CompactionState → Parted → Type 0
HasOutcome c Merged = ¬ (AreMerged c)
HasOutcome c Last = AreMerged c
HasOutcome c Range = ⊥
HasOutcome c Done = ⊥

-- The sources have so many records that 131,072 tables may not hold them: each full one has 4,096 blocks, and each part one table at
-- most that is not full.
abbrev pub IsOverfull : CompactionState → Type 0
IsOverfull c = 536870912 < count_all c.sources + 4095 * c.parts

-- The part became this run, and nothing else changed.
pub record IsAdded (old new : CompactionState) (i : ℕ) : Type 0 where
  pub run : Run
  pub same : new ≡ record old { merged = slice_set old.merged i (Some run) }

-- What a part was merged to, on every host: its blocks lie in the part's range, it has no more records than the sources together, and
-- all its tables but the last are full.
pub record IsPartOf (sources : List Run) (keys : List Key) (parts i : ℕ) (run : Run) : Type 0 where
  pub tables : AreTables run.tables
  pub within : AllByRecursion (EndsPass (is_within (boundary keys parts i) (boundary keys parts (i + 1)))) (all_fences run.tables)
  pub few : count_of (all_fences run.tables) ≤ count_all sources
  pub enough : 4096 * length run.tables ≤ count_of (all_fences run.tables) + 4095

-- what is so of each compaction
pub record IsCompaction (sources : List Run) (keys : List Key) (parts : ℕ) (merged : List (Option Run)) : Type 0 where
  pub len : length merged ≡ parts
  pub plan : IsPlan keys parts
  pub firsts : IsPermutation (first_keys sources) keys
  pub tables : length (tables_of merged) ≤ 131072
  pub each : (i : ℕ) (run : Run) → slice_get merged i ≡ Some (Some run) → IsPartOf sources keys parts i run
