-- So many fences, one after the other.
use Rattle.std.specs.Prelude.{◌≡◌, ℕ, List, length}
use Rattle.std.specs.List.{flat_map}
use Rattle.dfs_fence.specs.declared.fence.Fence.{Fence}
use Rattle.dfs_fence.specs.Index.{AreFences, fence_bytes}

-- The bytes are so many fences that may stand in one index, and nothing else.
pub record AreSpelled (count : ℕ) (bytes : List ℕ) (fs : List Fence) : Type 0 where
  pub number : length fs ≡ count
  pub spelled : bytes ≡ flat_map fence_bytes fs
  pub fences : AreFences fs

abbrev pub NoneSpelled : ℕ → List ℕ → Type 0
NoneSpelled count bytes = (fs : List Fence) → ¬ (AreSpelled count bytes fs)
