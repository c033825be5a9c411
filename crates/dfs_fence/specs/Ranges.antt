-- Which fences meet a range of keys, from one end up to, not with, another one. An open end is beyond every key.
use Rattle.std.specs.Prelude.{◌≡◌, ◌≤◌, ◌<◌, ◌↔◌, ℕ, Bool, true, ◌&&◌, not, List, Option, Some, None, slice_get, IsTrue}
use Rattle.std.specs.Ordering.{is_lt}
use Rattle.dfs_record.specs.declared.Key.{Key}
use Rattle.dfs_record.specs.Key.{key_cmp}
use Rattle.dfs_fence.specs.declared.fence.Fence.{Fence}

abbrev pub is_below : Key → Option Key → Bool
is_below key None = true
is_below key (Some high) = is_lt (key_cmp key high)

abbrev pub is_from : Option Key → Key → Bool
is_from None key = true
is_from (Some low) key = not (is_lt (key_cmp key low))

-- the range has room for a key: its low end is below its high one
abbrev pub has_room : Option Key → Option Key → Bool
has_room None high = true
has_room (Some low) high = is_below low high

-- its first key is below the high end, and its last key is not below the low one
abbrev pub meets : Option Key → Option Key → Fence → Bool
meets low high f = has_room low high && is_below f.first high && is_from low f.last

-- the fences with the numbers from the first up to, not with, the second are those that meet the range
abbrev pub AreThoseThatMeet : Option Key → Option Key → List Fence → ℕ × ℕ → Type 0
AreThoseThatMeet low high fs ends = (i : ℕ) (f : Fence) → slice_get fs i ≡ Some f → IsTrue (meets low high f) ↔ ((ends.0 ≤ i) × (i < ends.1))

abbrev pub NoneMeets : Option Key → Option Key → List Fence → Type 0
NoneMeets low high fs = (i : ℕ) (f : Fence) → slice_get fs i ≡ Some f → ¬ (IsTrue (meets low high f))
