-- The change set of a log, as a function of its file.
use Rattle.std.specs.Prelude.{◌≡◌, ◌↔◌, ◌≤◌, ℕ, if◌then◌else◌, List, ◌++◌, length, take, drop, map, Option, Some, None}
use Rattle.std.specs.Int.{w32, from_be_bytes}
use Rattle.dfs_record.specs.Delta.{Delta, delta}
use Rattle.dfs_block.specs.Front.{so_many}
use Rattle.dfs_fence.specs.declared.fence.Fence.{Fence}
use Rattle.dfs_fence.specs.Reading.{fence_at}
use Rattle.dfs_manifest.specs.Manifest.{Extent}
use Rattle.dfs_manifest.specs.Tables.{tables_in}
use Rattle.dfs_registry.specs.declared.listed.Listed.{Listed}
use Rattle.dfs_table.specs.Stored.{part, records_by}
use Rattle.dfs_change.specs.Whole.{HasChanges, IsDamaged, end_of, joined}
use Rattle.dfs_change.specs.Checks.{is_whole}

-- the number in the first four bytes
abbrev pub counted : List ℕ → ℕ
counted bytes = from_be_bytes w32 (take 4 bytes)

-- the tables that the bytes of a manifest tell of
abbrev pub tables_of : List ℕ → List Extent
tables_of bytes = tables_in (counted bytes) (drop 4 bytes)

-- the fences in the bytes of an index
abbrev pub fences_in : List ℕ → List Fence
fences_in bytes = so_many fence_at (counted bytes) (drop 4 bytes)

abbrev pub tables_at : List ℕ → Listed → List Extent
tables_at file l = tables_of (part file l.at l.len)

-- the fences of each table
abbrev pub fences_at : List ℕ → List Extent → List (List Fence)
fences_at file ts = map (λ t. fences_in (part file t.0 t.1)) ts

-- the fences of each table of the log in a file with these bytes
abbrev pub fences_listed : List ℕ → Listed → List (List Fence)
fences_listed file l = fences_at file (tables_at file l)

-- the change set of these tables, where with them the log is whole
abbrev pub changes_with : List ℕ → Listed → List Extent → List (List Fence) → Option Delta
changes_with file l ts fss = if is_whole file l ts fss then Some (delta (records_by file (joined fss))) else None

-- The change set of the log in a file with these bytes; none where it is damaged.
unfoldable pub log_meaning : List ℕ → Listed → Option Delta
log_meaning file l = changes_with file l (tables_at file l) (fences_listed file l)

-- ---- laws

abbrev pub WholeLogsMean : Type 0
WholeLogsMean = (file : List ℕ) (l : Listed) (d : Delta) → (log_meaning file l ≡ Some d) ↔ HasChanges file l d

abbrev pub DamagedLogsMeanNothing : Type 0
DamagedLogsMeanNothing = (file : List ℕ) (l : Listed) → (log_meaning file l ≡ None) ↔ IsDamaged file l

-- bytes behind the manifest do not count
abbrev pub NothingBehindMeans : Type 0
NothingBehindMeans = (file more : List ℕ) (l : Listed) → end_of l ≤ length file → log_meaning (file ++ more) l ≡ log_meaning file l

abbrev pub HasOneChangeSet : Type 0
HasOneChangeSet = (file : List ℕ) (l : Listed) (d e : Delta) → HasChanges file l d → HasChanges file l e → d ≡ e
