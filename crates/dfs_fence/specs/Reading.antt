-- Fences read from the front of bytes.
use Rattle.std.specs.Prelude.{ℕ, Bool, true, ◌&&◌, List, Option, Some, None, IsSome, IsSomeAnd, IsTrue, drop}
use Rattle.std.specs.Int.{w16, w32, w64}
use Rattle.std.specs.Ordering.{is_le, is_lt}
use Rattle.dfs_record.specs.declared.Key.{Key}
use Rattle.dfs_record.specs.Key.{key_cmp}
use Rattle.dfs_record.specs.Lend.{key_of}
use Rattle.dfs_record.specs.Name.{is_between}
use Rattle.dfs_record.specs.Reading.{paired, mapped, number_in, number_at, key_at}
use Rattle.dfs_fence.specs.declared.fence.Fence.{Fence}
use Rattle.dfs_fence.specs.declared.reading.FenceRef.{FenceRef}

-- what is lent of a fence, seen as the fence
abbrev pub fence_of : FenceRef → Fence
fence_of f = record { at = f.at; len = f.len; count = f.count; first = key_of f.first; last = key_of f.last }

unfoldable pub fence_at : List ℕ → Option (Fence × List ℕ)
fence_at bytes =
    mapped (λ p. record { at = p.0.0.0.0; len = p.0.0.0.1; count = p.0.0.1; first = p.0.1; last = p.1 })
    (paired (paired (paired (paired (number_at w64) (number_at w32)) (number_at w16)) key_at) key_at) bytes

-- The bytes begin as an index does: a count of 1 to 4,096 in four bytes, and behind it a fence.
pub record BeginsAsIndex (bytes : List ℕ) : Type 0 where
  pub count : IsSomeAnd (number_in w32 bytes) (λ count. IsTrue (is_between 1 4096 count))
  pub fence : IsSome (fence_at (drop 4 bytes))

-- whether the key is above the last one, where there is one
abbrev pub is_above : Option Key → Key → Bool
is_above None key = true
is_above (Some last) key = is_lt (key_cmp last key)

-- whether a fence with these keys may stand behind one that ends at the last key
abbrev pub may_follow : Option Key → Key → Key → Bool
may_follow end first last = is_le (key_cmp first last) && is_above end first
