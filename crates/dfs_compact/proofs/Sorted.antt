-- Keys are sorted in one way.
use Rattle.std.proofs.Common.{◌≡◌, ◌≤◌, ℕ, suc, Bool, true, false, cond, List, [], ◌∷◌, refl, sym, ap, ◌∙◌, arith}
use Rattle.std.specs.Prelude.{Some, IsTrue, slice_get}
use Rattle.std.specs.List.{sum_by}
use Rattle.std.specs.List.Sorted.{IsPermutation}
use Rattle.std.specs.Ordering.{eq_by_cmp, is_le}
use Rattle.std.specs.declared.cmp.Ordering.{Ordering}
use Rattle.std.specs.declared.cmp.Ordering.TheVariants.{Less, Equal, Greater}
use Rattle.std.proofs.lemmas.List.Sorted.{sum_by-IsPermutation}
use Rattle.std.proofs.lemmas.List.Sums.{sum_by-cons}
use Rattle.dfs_record.specs.declared.Key.{Key}
use Rattle.dfs_record.specs.Key.{key_cmp, keys_exact}
use Rattle.dfs_record.proofs.Maps.{alike_keys, same_key}
use Rattle.dfs_fence.proofs.Orders.{not_both}
use Rattle.dfs_plan.specs.Parts.{AreSorted}

-- 1 at the key, and 0 at every other one
abbrev one : Key → Key → ℕ
one key other = cond (eq_by_cmp key_cmp key other) 1 0

has : (keys : List Key) (key : Key) → 1 ≤ sum_by (one key) keys → (i : ℕ) × (slice_get keys i ≡ Some key)
has [] key some = absurd (omega (arith, some))
has (k ∷ ks) key some = by (eq_by_cmp key_cmp key k) refl (has ks key)
  where
    by : (b : Bool) → eq_by_cmp key_cmp key k ≡ b → (1 ≤ sum_by (one key) ks → (i : ℕ) × (slice_get ks i ≡ Some key)) → (i : ℕ) × (slice_get (k ∷ ks) i ≡ Some key)
    by true e rest = (0, ap Some (sym (alike_keys key k e)))
    by false e rest =
        let none : one key k ≡ 0 = ap (λ (b : Bool). cond b 1 0) e in
        let there = rest (omega (arith, some, sum_by-cons (one key) k ks, none)) in
        (suc there.0, there.1)

here : (key : Key) (keys : List Key) → 1 ≤ sum_by (one key) (key ∷ keys)
here key keys = let at : one key key ≡ 1 = ap (λ (b : Bool). cond b 1 0) (same_key key) in omega (arith, sum_by-cons (one key) key keys, at)

both : (a b : Key) → IsTrue (is_le (key_cmp a b)) → IsTrue (is_le (key_cmp b a)) → a ≡ b
both a b le back = by (key_cmp a b) refl le
  where
    by : (o : Ordering) → key_cmp a b ≡ o → IsTrue (is_le o) → a ≡ b
    by Less e le = absurd (not_both a b e back)
    by Equal e le = keys_exact a b e
    by Greater e le = absurd cc

same_sums : (ys zs : List Key) → AreSorted ys → AreSorted zs → ((f : Key → ℕ) → sum_by f ys ≡ sum_by f zs) → ys ≡ zs
same_sums [] [] first second same = refl
same_sums [] (z ∷ zs) first second same = absurd (omega (arith, same (λ k. 1), sum_by-cons (λ (k : Key). 1) z zs))
same_sums (y ∷ ys) [] first second same = absurd (omega (arith, same (λ k. 1), sum_by-cons (λ (k : Key). 1) y ys))
same_sums (y ∷ ys) (z ∷ zs) first second same =
    let y_there = has (z ∷ zs) y (omega (arith, same (one y), here y ys)) in
    let z_there = has (y ∷ ys) z (omega (arith, same (one z), here z zs)) in
    let heads : y ≡ z = both y z (first 0 z_there.0 y z (omega arith) refl z_there.1) (second 0 y_there.0 z y (omega arith) refl y_there.1) in
    let tails : ys ≡ zs =
    same_sums ys zs (λ i j k l le a b. first (suc i) (suc j) k l (omega (arith, le)) a b) (λ i j k l le a b. second (suc i) (suc j) k l (omega (arith, le)) a b)
    (λ f. omega (arith, same f, sum_by-cons f y ys, sum_by-cons f z zs, ap f heads)) in
    λ i. heads i ∷ tails i

pub sorted_once : (xs ys zs : List Key) → AreSorted ys → AreSorted zs → IsPermutation xs ys → IsPermutation xs zs → ys ≡ zs
sorted_once xs ys zs first second to_first to_second = same_sums ys zs first second (λ f. sum_by-IsPermutation f xs ys to_first ∙ sym (sum_by-IsPermutation f xs zs to_second))
