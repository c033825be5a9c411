-- When the log of a publication is whole, and which change set it then has.
use Rattle.std.specs.Prelude.{◌≡◌, ◌≤◌, ◌+◌, ℕ, List, [], ◌∷◌, length, take, map, flat_map}
use Rattle.std.specs.List.{AllByRecursion}
use Rattle.dfs_record.specs.Delta.{Delta, delta}
use Rattle.dfs_fence.specs.declared.fence.Fence.{Fence}
use Rattle.dfs_fence.specs.Index.{AreApart}
use Rattle.dfs_fence.specs.Places.{Lies}
use Rattle.dfs_log.specs.Logs.{log_header}
use Rattle.dfs_manifest.specs.Manifest.{Extent, IsManifest}
use Rattle.dfs_registry.specs.declared.listed.Listed.{Listed}
use Rattle.dfs_table.specs.declared.table.Table.{Table}
use Rattle.dfs_table.specs.Counts.{count_of}
use Rattle.dfs_table.specs.Opened.{IsTableAt}
use Rattle.dfs_table.specs.Stored.{part, records_by}

-- the place behind the manifest
abbrev pub end_of : Listed → ℕ
end_of l = l.at + l.len

-- Each index that the manifest tells of is a table's, with these fences.
abbrev pub AreTablesAt : List ℕ → Listed → List Extent → List (List Fence) → Type 0
AreTablesAt file l [] [] = Unit {0}
AreTablesAt file l [] (fs ∷ fss) = ⊥
AreTablesAt file l (t ∷ ts) [] = ⊥
AreTablesAt file l (t ∷ ts) (fs ∷ fss) = IsTableAt file l.job t.0 t.1 (end_of l) fs × AreTablesAt file l ts fss

-- the fences of all tables, in order
abbrev pub joined : List (List Fence) → List Fence
joined fss = flat_map (λ fs. fs) fss

-- The file begins with the header of the entry's job, and has the manifest's place behind it.
pub record IsLogged (file : List ℕ) (l : Listed) : Type 0 where
  pub long : 12 ≤ length file
  pub header : take 12 file ≡ log_header l.job
  pub behind : 12 ≤ l.at
  pub inside : end_of l ≤ length file

-- an index may lie at each of the places, and ends at a place or before it
abbrev pub IndexesLie : ℕ → List Extent → Type 0
IndexesLie end ts = AllByRecursion (λ t. Lies t.0 t.1 2220036 end) ts

-- The manifest is one, and an index may lie at each of its places.
pub record IndexesMayLie (file : List ℕ) (l : Listed) : Type 0 where
  pub tables : List Extent
  pub manifest : IsManifest (part file l.at l.len) tables
  pub lie : IndexesLie (end_of l) tables

-- The file has the log of the entry: a header with the job's number, and behind it the manifest and what the manifest tells of. The
-- keys rise over all blocks, and the blocks have as many records as the entry counts.
pub record IsWhole (file : List ℕ) (l : Listed) (ts : List Extent) (fss : List (List Fence)) : Type 0 where
  pub logged : IsLogged file l
  pub manifest : IsManifest (part file l.at l.len) ts
  pub tables : AreTablesAt file l ts fss
  pub rise : AreApart (joined fss)
  pub count : count_of (joined fss) ≡ l.count

-- The log is damaged.
abbrev pub IsDamaged : List ℕ → Listed → Type 0
IsDamaged file l = (ts : List Extent) (fss : List (List Fence)) → ¬ (IsWhole file l ts fss)

-- The log is whole, and has this change set.
pub record HasChanges (file : List ℕ) (l : Listed) (d : Delta) : Type 0 where
  pub tables : List Extent
  pub fences : List (List Fence)
  pub whole : IsWhole file l tables fences
  pub changes : d ≡ delta (records_by file (joined fences))

-- where the indexes of tables lie
abbrev pub extents_of : List Table → List Extent
extents_of ts = map (λ t. (t.index_at, t.index_len)) ts

abbrev pub table_fences : List Table → List (List Fence)
table_fences ts = map (λ t. t.fences) ts

-- How many reads it takes to open a log with these tables: of its header and its manifest, and of each index and each block.
abbrev pub reads_of : List (List Fence) → ℕ
reads_of fss = 2 + length fss + length (joined fss)
