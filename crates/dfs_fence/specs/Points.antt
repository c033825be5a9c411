-- Where a binary search among fences ends.
use Rattle.std.specs.Prelude.{◌≡◌, ℕ, Bool, true, false, List, Option}
use Rattle.std.specs.List.Sorted.{IsPartitionPoint}
use Rattle.std.specs.Ordering.{is_lt}
use Rattle.dfs_record.specs.declared.Key.{Key}
use Rattle.dfs_record.specs.Key.{key_cmp}
use Rattle.dfs_fence.specs.declared.fence.Fence.{Fence}
use Rattle.dfs_fence.specs.Ranges.{is_below, is_from}

abbrev pub ends_below : Key → Fence → Bool
ends_below key f = is_lt (key_cmp f.last key)

abbrev pub begins_below : Key → Fence → Bool
begins_below key f = is_lt (key_cmp f.first key)

-- so many fences end below the key, and no others
abbrev pub IsEndsPoint : List Fence → Key → ℕ → Type 0
IsEndsPoint fs key n = IsPartitionPoint (λ f. ends_below key f ≡ true) (λ f. ends_below key f ≡ false) fs n

-- so many fences begin below the key, and no others
abbrev pub IsBeginsPoint : List Fence → Key → ℕ → Type 0
IsBeginsPoint fs key n = IsPartitionPoint (λ f. begins_below key f ≡ true) (λ f. begins_below key f ≡ false) fs n

-- so many fences lie below the low end, and no others
abbrev pub IsFromPoint : List Fence → Option Key → ℕ → Type 0
IsFromPoint fs low n = IsPartitionPoint (λ f. is_from low f.last ≡ false) (λ f. is_from low f.last ≡ true) fs n

-- so many fences begin below the high end, and no others
abbrev pub IsToPoint : List Fence → Option Key → ℕ → Type 0
IsToPoint fs high n = IsPartitionPoint (λ f. is_below f.first high ≡ true) (λ f. is_below f.first high ≡ false) fs n
