-- Which fence covers a key.
use Rattle.std.specs.Prelude.{◌≡◌, ℕ, List, Some, slice_get}
use Rattle.dfs_record.specs.declared.Key.{Key}
use Rattle.dfs_fence.specs.declared.fence.Fence.{Fence}
use Rattle.dfs_fence.specs.Index.{IsAtMost, AreFences}

-- from the first key up to and with the last one
pub record Covers (f : Fence) (key : Key) : Type 0 where
  pub first : IsAtMost f.first key
  pub last : IsAtMost key f.last

-- the fence with this number covers the key
abbrev pub CoversAt : List Fence → Key → ℕ → Type 0
CoversAt fs key i = (f : Fence) × ((slice_get fs i ≡ Some f) × Covers f key)

abbrev pub NoneCovers : List Fence → Key → Type 0
NoneCovers fs key = (i : ℕ) → ¬ (CoversAt fs key i)

-- at most one fence covers a key
abbrev pub AtMostOneCovers : Type 0
AtMostOneCovers = (fs : List Fence) (key : Key) (i j : ℕ) → AreFences fs → CoversAt fs key i → CoversAt fs key j → i ≡ j
