-- Which bytes are a manifest, and of which tables.
use Rattle.std.specs.Prelude.{◌≡◌, ◌≤◌, ◌<◌, ◌^◌, ℕ, List, ◌++◌, length}
use Rattle.std.specs.Int.{w32, w64, to_be_bytes}
use Rattle.std.specs.List.{AllByRecursion, flat_map}

-- where the index of a table lies: its place, and how many bytes it has
abbrev pub Extent : Type 0
Extent = ℕ × ℕ

abbrev pub IsExtent : Extent → Type 0
IsExtent t = (t.0 < 2 ^ 64) × (t.1 < 2 ^ 32)

abbrev pub extent_bytes : Extent → List ℕ
extent_bytes t = to_be_bytes w64 t.0 ++ to_be_bytes w32 t.1

-- how many tables there are, in four bytes, and the extents of their indexes one after the other
abbrev pub manifest_bytes : List Extent → List ℕ
manifest_bytes ts = to_be_bytes w32 (length ts) ++ flat_map extent_bytes ts

-- the most tables of a manifest
abbrev pub most_tables : ℕ
most_tables = 131072

-- The bytes are the manifest of these tables.
pub record IsManifest (bytes : List ℕ) (ts : List Extent) : Type 0 where
  pub few : length ts ≤ most_tables
  pub spelled : bytes ≡ manifest_bytes ts
  pub fit : AllByRecursion IsExtent ts

abbrev pub IsNoManifest : List ℕ → Type 0
IsNoManifest bytes = (ts : List Extent) → ¬ (IsManifest bytes ts)

-- bytes are the manifest of one list
abbrev pub HasOneList : Type 0
HasOneList = (bytes : List ℕ) (ts us : List Extent) → IsManifest bytes ts → IsManifest bytes us → ts ≡ us

-- the most bytes of a manifest
abbrev pub most_bytes : ℕ
most_bytes = 1572868

abbrev pub IsShort : Type 0
IsShort = (bytes : List ℕ) (ts : List Extent) → IsManifest bytes ts → length bytes ≤ most_bytes
