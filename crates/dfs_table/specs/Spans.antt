-- Which table of a run may have a key.
use Rattle.std.specs.Prelude.{◌≡◌, ℕ, Bool, true, false, List, [], ◌∷◌, Option, Some, None, IsSomeAnd, slice_get}
use Rattle.std.specs.List.Sorted.{IsPartitionPoint}
use Rattle.dfs_record.specs.declared.Key.{Key}
use Rattle.dfs_fence.specs.declared.fence.Fence.{Fence}
use Rattle.dfs_fence.specs.Index.{IsAtMost, last_end}
use Rattle.dfs_fence.specs.Reading.{is_above}
use Rattle.dfs_table.specs.declared.table.Table.{Table}

abbrev pub first_begin : List Fence → Option Key
first_begin [] = None
first_begin (f ∷ fs) = Some f.first

-- from the first key of the table up to and with the last one
pub record Spans (t : Table) (key : Key) : Type 0 where
  pub first : IsSomeAnd (first_begin t.fences) (λ first. IsAtMost first key)
  pub last : IsSomeAnd (last_end t.fences) (λ last. IsAtMost key last)

-- the table with this number spans the key
abbrev pub SpansAt : List Table → Key → ℕ → Type 0
SpansAt ts key i = (t : Table) × ((slice_get ts i ≡ Some t) × Spans t key)

abbrev pub NoneSpans : List Table → Key → Type 0
NoneSpans ts key = (i : ℕ) → ¬ (SpansAt ts key i)

abbrev pub ends_below : Key → Table → Bool
ends_below key t = is_above (last_end t.fences) key

-- so many tables end below the key, and no others
abbrev pub IsEndsPoint : List Table → Key → ℕ → Type 0
IsEndsPoint ts key n = IsPartitionPoint (λ t. ends_below key t ≡ true) (λ t. ends_below key t ≡ false) ts n
