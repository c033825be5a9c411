-- The tables that bytes tell of.
use Rattle.std.specs.Prelude.{◌≡◌, ◌≤◌, ◌*◌, ℕ, zero, suc, List, [], ◌∷◌, length, take, drop}
use Rattle.std.specs.Int.{w32, w64, from_be_bytes}
use Rattle.dfs_manifest.specs.Manifest.{Extent, most_tables}

-- the place and the length that the first twelve bytes spell
abbrev pub extent_in : List ℕ → Extent
extent_in bytes = (from_be_bytes w64 (take 8 bytes), from_be_bytes w32 (take 4 (drop 8 bytes)))

-- so many extents, twelve bytes each
unfoldable pub tables_in : ℕ → List ℕ → List Extent
tables_in zero bytes = []
tables_in (suc count) bytes = extent_in bytes ∷ tables_in count (drop 12 bytes)

-- so many extents lie in the bytes, and nothing else
pub record HoldsTables (count : ℕ) (bytes : List ℕ) : Type 0 where
  pub few : count ≤ most_tables
  pub len : length bytes ≡ 12 * count
