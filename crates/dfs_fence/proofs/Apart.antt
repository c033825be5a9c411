-- Fences that rise and do not overlap.
use Rattle.std.proofs.Common.{◌≡◌, ℕ, zero, suc, ◌-◌, ◌<◌, Bool, true, false, cond, List, [], ◌∷◌, ◌++◌, length, get_or, refl, sym, ap, subst, ◌∙◌, inl, inr, arith, length-append}
use Rattle.std.specs.Prelude.{Option, Some, None, slice_get}
use Rattle.std.specs.List.{AllByRecursion}
use Rattle.std.specs.Ordering.{is_le, is_lt}
use Rattle.std.proofs.lemmas.Bool.{cases_lt}
use Rattle.std.proofs.lemmas.Option.{get_or_from_slice_get, slice_get_within, slice_get-get_or}
use Rattle.dfs_record.specs.declared.Key.{Key}
use Rattle.dfs_record.specs.Key.{key_cmp}
use Rattle.dfs_record.specs.Records.{IsBelow}
use Rattle.dfs_record.proofs.Readings.{both_true}
use Rattle.dfs_fence.specs.declared.fence.Fence.{Fence}
use Rattle.dfs_fence.specs.Cover.{Covers, CoversAt, AtMostOneCovers}
use Rattle.dfs_fence.specs.Index.{IsFence, AreApart, AreFences, IsAboveLast, last_end}
use Rattle.dfs_fence.specs.Reading.{is_above, may_follow}
use Rattle.dfs_fence.proofs.Orders.{less, at_most_below, below_below, below_at_most, not_both}
use Rattle.dfs_fence.proofs.Spelled.{all_more, some_is}

apart_behind : (f : Fence) (fs : List Fence) → AreApart (f ∷ fs) → AreApart fs
apart_behind f [] h = tt
apart_behind f (g ∷ fs) h = h.1

pub each_at : (fs : List Fence) → AllByRecursion IsFence fs → (i : ℕ) (d : Fence) → i < length fs → IsFence (get_or fs i d)
each_at [] all i d below = absurd (omega (arith, below))
each_at (f ∷ fs) all zero d below = all.0
each_at (f ∷ fs) all (suc i) d below = each_at fs all.1 i d (omega (arith, below))

-- below the first one, and so below all behind it
ends_before_all : (f : Fence) (fs : List Fence) → AllByRecursion IsFence fs → AreApart (f ∷ fs) → (j : ℕ) (d : Fence) → j < length fs → IsBelow f.last (get_or fs j d).first
ends_before_all f [] all apart j d below = absurd (omega (arith, below))
ends_before_all f (g ∷ fs) all apart zero d below = apart.0
ends_before_all f (g ∷ fs) all apart (suc j) d below =
    below_below f.last g.last (get_or fs j d).first (below_at_most f.last g.first g.last apart.0 all.0.order) (ends_before_all g fs all.1 apart.1 j d (omega (arith, below)))

pub ends_before : (fs : List Fence) → AllByRecursion IsFence fs → AreApart fs → (i j : ℕ) (d : Fence) → i < j → j < length fs → IsBelow (get_or fs i d).last (get_or fs j d).first
ends_before [] all apart i j d lt below = absurd (omega (arith, below))
ends_before (f ∷ fs) all apart i zero d lt below = absurd (omega (arith, lt))
ends_before (f ∷ fs) all apart zero (suc j) d lt below = ends_before_all f fs all.1 apart j d (omega (arith, below))
ends_before (f ∷ fs) all apart (suc i) (suc j) d lt below = ends_before fs all.1 (apart_behind f fs apart) i j d (omega (arith, lt)) (omega (arith, below))

-- ---- which fence covers a key

-- the fence that covers it, as it stands in the list
pub covering : (fs : List Fence) (key : Key) (i : ℕ) (d : Fence) → CoversAt fs key i → (i < length fs) × Covers (get_or fs i d) key
covering fs key i d at = (slice_get_within fs i at.0 at.1.0, subst (λ (f : Fence). Covers f key) (sym (get_or_from_slice_get fs i at.0 d at.1.0)) at.1.1)

not_before : (fs : List Fence) (key : Key) (i j : ℕ) → AreFences fs → CoversAt fs key i → CoversAt fs key j → i < j → ⊥
not_before fs key i j are p q lt =
    let d = p.0 in
    let a = covering fs key i d p in
    let b = covering fs key j d q in
    not_both key (get_or fs j d).first (at_most_below key (get_or fs i d).last (get_or fs j d).first a.1.last (ends_before fs are.each are.apart i j d lt b.0)) b.1.first

pub one_covers : AtMostOneCovers
one_covers fs key i j are p q = elim (cases_lt i j) [
  | inl lt ↦ absurd (not_before fs key i j are p q lt)
  | inr ge ↦ elim (cases_lt j i) [
    | inl lt ↦ absurd (not_before fs key j i are q p lt)
    | inr le ↦ omega (arith, ge, le)
  ]
]

-- ---- one more fence

pub last_more : (fs : List Fence) (f : Fence) → last_end (fs ++ f ∷ []) ≡ Some f.last
last_more [] f = refl
last_more (x ∷ []) f = refl
last_more (x ∷ y ∷ fs) f = last_more (y ∷ fs) f

pub apart_more : (fs : List Fence) (f : Fence) → AreApart fs → IsAboveLast (last_end fs) f.first → AreApart (fs ++ f ∷ [])
apart_more [] f apart above = tt
apart_more (x ∷ []) f apart above = (above, tt)
apart_more (x ∷ y ∷ fs) f apart above = (apart.0, apart_more (y ∷ fs) f apart.1 above)

-- what stands behind others is above the last of them
pub above_last : (fs : List Fence) (f : Fence) (more : List Fence) → AreApart (fs ++ f ∷ more) → is_above (last_end fs) f.first ≡ true
above_last [] f more apart = refl
above_last (x ∷ []) f more apart = ap is_lt apart.0
above_last (x ∷ y ∷ fs) f more apart = above_last (y ∷ fs) f more apart.1

pub fences_more : (fs : List Fence) (f : Fence) → AreFences fs → length fs < 4096 → IsFence f → IsAboveLast (last_end fs) f.first → AreFences (fs ++ f ∷ [])
fences_more fs f are few fence above = record {
  few = omega (arith, few, length-append fs (f ∷ []));
  each = all_more IsFence fs f are.each fence;
  apart = apart_more fs f are.apart above;
}

-- pushed or not
pub fences_either : (b : Bool) (fs new : List Fence) (f : Fence) → new ≡ cond b (fs ++ f ∷ []) fs → AreFences fs → AreFences (fs ++ f ∷ []) → AreFences new
fences_either true fs new f is are more = subst AreFences (sym is) more
fences_either false fs new f is are more = subst AreFences (sym is) are

-- ---- tests

pub above_of : (o : Option Key) (key : Key) → is_above o key ≡ true → IsAboveLast o key
above_of None key h = tt
above_of (Some last) key h = less (key_cmp last key) h

-- where the fence is one of an index, the test passes
pub follows : (fs : List Fence) (f : Fence) (more : List Fence) → AreApart (fs ++ f ∷ more) → IsFence f → may_follow (last_end fs) f.first f.last ≡ true
follows fs f more apart fence = both_true (is_le (key_cmp f.first f.last)) (is_above (last_end fs) f.first) fence.order (above_last fs f more apart)

-- the last end, by the last fence
pub last_is : (fs : List Fence) (f : Fence) → slice_get fs (length fs - 1) ≡ Some f → last_end fs ≡ Some f.last
last_is [] f e = absurd cc
last_is (x ∷ []) f e = ap (λ (y : Fence). Some y.last) (some_is x f e)
last_is (x ∷ y ∷ fs) f e =
    let one : length (x ∷ y ∷ fs) - 1 ≡ suc (length (y ∷ fs) - 1) = omega arith in
    last_is (y ∷ fs) f (sym (ap (slice_get (x ∷ y ∷ fs)) one) ∙ e)

pub no_last : (fs : List Fence) → slice_get fs (length fs - 1) ≡ None → last_end fs ≡ None
no_last [] e = refl
no_last (x ∷ fs) e = absurd (cc (e, slice_get-get_or (x ∷ fs) (length (x ∷ fs) - 1) x (omega arith)))
