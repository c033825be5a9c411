-- A list that a sort has put in order is sorted in each pair of its keys.
use Rattle.std.proofs.Common.{◌≡◌, ℕ, true, false, List, ◌++◌, length, take, refl, sym, ap, subst, arith, ◌∙◌}
use Rattle.std.specs.declared.cmp.Ordering.{Ordering}
use Rattle.std.specs.declared.cmp.Ordering.TheVariants.{Less, Equal, Greater}
use Rattle.std.specs.Ordering.{is_lt, is_le, ordering_reverse}
use Rattle.std.specs.List.Sorted.{IsSorted}
use Rattle.std.proofs.lemmas.List.Sorted.{sorted_far, ranks_by}
use Rattle.std.proofs.lemmas.Option.{slice_get_within, get_or_from_slice_get}
use Rattle.std.proofs.lemmas.List.{take-append-le, take_all}
use Rattle.dfs_record.specs.declared.Key.{Key}
use Rattle.dfs_record.specs.Key.{key_cmp, keys_total}
use Rattle.dfs_plan.specs.Parts.{AreSorted}

not_below_le : (r : Ordering) → is_lt r ≡ false → is_le (ordering_reverse r) ≡ true
not_below_le Less e = sym e
not_below_le Equal e = refl
not_below_le Greater e = refl

pub sorted_pairs : (keys : List Key) → IsSorted key_cmp keys → AreSorted keys
sorted_pairs keys up i j k l between at_i at_j =
    let far = sorted_far (λ x y. is_lt (key_cmp x y)) (ranks_by keys_total (λ x. x)) keys up i j k between (slice_get_within keys j l at_j) in
    let e : is_lt (key_cmp l k) ≡ false = cc (get_or_from_slice_get keys i k k at_i, get_or_from_slice_get keys j l k at_j, far) in
    ap is_le (keys_total.antisymm k l) ∙ not_below_le (key_cmp l k) e

-- the same of what a slice's sort leaves in the vector that it was lent from
pub sorted_back : (count : ℕ) (keys behind : List Key) → count ≡ length keys → IsSorted key_cmp keys → AreSorted (take count (keys ++ behind))
sorted_back count keys behind all up =
    subst AreSorted (sym (take-append-le count keys behind (omega arith) ∙ take_all count keys (omega arith))) (sorted_pairs keys up)
