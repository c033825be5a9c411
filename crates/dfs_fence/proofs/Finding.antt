-- Binary search among fences.
use Rattle.std.proofs.Common.{◌≡◌, ℕ, ◌<◌, ◌≤◌, Bool, true, false, not, ◌&&◌, List, [], ◌∷◌, length, get_or, refl, sym, ap, subst, ◌∙◌, inl, inr, arith}
use Rattle.std.specs.Prelude.{Option, Some, None, IsTrue, slice_get}
use Rattle.std.specs.List.Sorted.{IsPartitionedBy}
use Rattle.std.specs.Ordering.{is_lt}
use Rattle.std.proofs.lemmas.Bool.{cases_lt}
use Rattle.std.proofs.lemmas.Option.{get_or_from_slice_get, slice_get_within, slice_get-get_or}
use Rattle.dfs_record.specs.declared.Key.{Key}
use Rattle.dfs_record.specs.Key.{key_cmp}
use Rattle.dfs_record.specs.Records.{IsBelow}
use Rattle.dfs_record.proofs.Readings.{first_true, second_true, both_true}
use Rattle.dfs_fence.specs.declared.fence.Fence.{Fence}
use Rattle.dfs_fence.specs.Cover.{CoversAt}
use Rattle.dfs_fence.specs.Index.{IsAtMost, AreFences}
use Rattle.dfs_fence.specs.Points.{ends_below, begins_below, IsEndsPoint, IsBeginsPoint, IsFromPoint, IsToPoint}
use Rattle.dfs_fence.specs.Ranges.{is_below, is_from, has_room, meets, AreThoseThatMeet, NoneMeets}
use Rattle.dfs_fence.proofs.Apart.{each_at, ends_before, covering}
use Rattle.dfs_fence.proofs.Orders.{less, at_most_below, below_below, below_at_most, not_both, not_below}
use Rattle.dfs_fence.proofs.Spelled.{some_is}

pub ends_parted : (fs : List Fence) (key : Key) → AreFences fs → IsPartitionedBy (ends_below key) fs
ends_parted fs key are i j d le below lt = elim (cases_lt i j) [
  | inl before ↦
      let a = get_or fs i d in
      let b = get_or fs j d in
      let first : IsBelow a.last b.first = ends_before fs are.each are.apart i j d before below in
      let last : IsBelow a.last b.last = below_at_most a.last b.first b.last first (each_at fs are.each j d below).order in
      ap is_lt (below_below a.last b.last key last (less (key_cmp b.last key) lt))
  | inr ge ↦ subst (λ n. ends_below key (get_or fs n d) ≡ true) (omega (arith, le, ge)) lt
]

pub begins_parted : (fs : List Fence) (key : Key) → AreFences fs → IsPartitionedBy (begins_below key) fs
begins_parted fs key are i j d le below lt = elim (cases_lt i j) [
  | inl before ↦
      let a = get_or fs i d in
      let b = get_or fs j d in
      let first : IsBelow a.last b.first = ends_before fs are.each are.apart i j d before below in
      let begins : IsBelow a.first b.first = at_most_below a.first a.last b.first (each_at fs are.each i d (omega (arith, before, below))).order first in
      ap is_lt (below_below a.first b.first key begins (less (key_cmp b.first key) lt))
  | inr ge ↦ subst (λ n. begins_below key (get_or fs n d) ≡ true) (omega (arith, le, ge)) lt
]

-- ---- the fence that covers a key

-- it stands where the fences stop to end below the key
pub stands_there : (fs : List Fence) (key : Key) (n : ℕ) → AreFences fs → IsEndsPoint fs key n → (i : ℕ) → CoversAt fs key i → i ≡ n
stands_there fs key n are point i at =
    let d = at.0 in
    let here = get_or fs i d in
    let c = covering fs key i d at in
    elim (cases_lt i n) [
      | inl before ↦ absurd (not_both here.last key (less (key_cmp here.last key) (point.0 i d (omega arith) before)) c.1.last)
      | inr ge ↦ elim (cases_lt n i) [
        | inl behind ↦
            let there = get_or fs n d in
            let ends : IsBelow there.last key = below_at_most there.last here.first key (ends_before fs are.each are.apart n i d behind c.0) c.1.first in
            let is : ends_below key there ≡ true = ap is_lt ends in
            let is_not : ends_below key there ≡ false = point.1 n d (omega (arith, behind)) (omega (arith, behind, c.0)) in
            absurd (cc (is, is_not))
        | inr le ↦ omega (arith, ge, le)
      ]
    ]

-- the fence there covers the key, if it begins at it or below it
pub covers_there : (fs : List Fence) (key : Key) (n : ℕ) (f : Fence) → IsEndsPoint fs key n → slice_get fs n ≡ Some f → IsAtMost f.first key → CoversAt fs key n
covers_there fs key n f point at first =
    let is_not : ends_below key f ≡ false = subst (λ (g : Fence). ends_below key g ≡ false) (get_or_from_slice_get fs n f f at) (point.1 n f (omega arith) (slice_get_within fs n f at)) in
    (f, (at, record { first = first; last = not_below f.last key is_not }))

pub none_there : (fs : List Fence) (key : Key) (n : ℕ) → AreFences fs → IsEndsPoint fs key n → slice_get fs n ≡ None → (i : ℕ) → ¬ (CoversAt fs key i)
none_there fs key n are point none i at =
    let same = stands_there fs key n are point i at in
    let here : slice_get fs n ≡ Some at.0 = ap (slice_get fs) (sym same) ∙ at.1.0 in
    absurd (cc (here, none))

pub begins_above : (fs : List Fence) (key : Key) (n : ℕ) (f : Fence) → AreFences fs → IsEndsPoint fs key n → slice_get fs n ≡ Some f → IsBelow key f.first → (i : ℕ) → ¬ (CoversAt fs key i)
begins_above fs key n f are point here above i at =
    let same = stands_there fs key n are point i at in
    let f_is : at.0 ≡ f = some_is at.0 f (sym (ap (slice_get fs) (sym same) ∙ at.1.0) ∙ here) in
    not_both key f.first above (subst (λ (g : Fence). IsAtMost g.first key) f_is at.1.1.first)

-- ---- the fences that meet a range

pub from_key : (fs : List Fence) (low : Key) (n : ℕ) → IsEndsPoint fs low n → IsFromPoint fs (Some low) n
from_key fs low n point = ((λ k d le lt. ap not (point.0 k d le lt)), (λ k d le lt. ap not (point.1 k d le lt)))

pub to_key : (fs : List Fence) (high : Key) (n : ℕ) → IsBeginsPoint fs high n → IsToPoint fs (Some high) n
to_key fs high n point = point

not_from : (b : Bool) → not b ≡ false → b ≡ true
not_from true e = refl
not_from false e = absurd cc

-- a fence can't lie below the low end and from the high one on
no_gap : (low high : Option Key) (f : Fence) → IsAtMost f.first f.last → is_from low f.last ≡ false → is_below f.first high ≡ false → has_room low high ≡ true → ⊥
no_gap None high f order not_from_low not_to room = absurd cc
no_gap (Some low) None f order not_from_low not_to room = absurd cc
no_gap (Some low) (Some high) f order not_from_low not_to room =
    let last : IsBelow f.last low = less (key_cmp f.last low) (not_from (is_lt (key_cmp f.last low)) not_from_low) in
    let first : IsBelow f.first low = at_most_below f.first f.last low order last in
    let is : is_lt (key_cmp f.first high) ≡ true = ap is_lt (below_below f.first low high first (less (key_cmp low high) room)) in
    absurd (cc (is, not_to))

-- an end that is below the other one comes first
pub in_order : (fs : List Fence) (low high : Option Key) (from to : ℕ) → AreFences fs → IsFromPoint fs low from → IsToPoint fs high to → from ≤ length fs → has_room low high ≡ true → from ≤ to
in_order [] low high from to are f t within room = omega (arith, within)
in_order (x ∷ fs) low high from to are f t within room = elim (cases_lt to from) [
  | inl lt ↦
      let g = get_or (x ∷ fs) to x in
      let below : to < length (x ∷ fs) = omega (arith, lt, within) in
      absurd (no_gap low high g (each_at (x ∷ fs) are.each to x below).order (f.0 to x (omega arith) lt) (t.1 to x (omega arith) below) room)
  | inr ge ↦ ge
]

pub those_that_meet : (fs : List Fence) (low high : Option Key) (from to : ℕ) → IsFromPoint fs low from → IsToPoint fs high to → has_room low high ≡ true → AreThoseThatMeet low high fs (from, to)
those_that_meet fs low high from to f t room i x at = (inside, meeting)
  where
    within : i < length fs
    within = slice_get_within fs i x at

    here : get_or fs i x ≡ x
    here = get_or_from_slice_get fs i x x at

    inside : IsTrue (meets low high x) → (from ≤ i) × (i < to)
    inside h =
        let is_from_low : is_from low x.last ≡ true = second_true (has_room low high && is_below x.first high) (is_from low x.last) h in
        let is_to_high : is_below x.first high ≡ true = second_true (has_room low high) (is_below x.first high) (first_true (has_room low high && is_below x.first high) (is_from low x.last) h) in (
          elim (cases_lt i from) [
            | inl lt ↦
                let is_not : is_from low x.last ≡ false = subst (λ (g : Fence). is_from low g.last ≡ false) here (f.0 i x (omega arith) lt) in
                absurd (cc (is_from_low, is_not))
            | inr ge ↦ ge
          ],
          elim (cases_lt i to) [
            | inl lt ↦ lt
            | inr ge ↦
                let is_not : is_below x.first high ≡ false = subst (λ (g : Fence). is_below g.first high ≡ false) here (t.1 i x ge within) in
                absurd (cc (is_to_high, is_not))
          ],
        )

    meeting : (from ≤ i) × (i < to) → IsTrue (meets low high x)
    meeting h =
        both_true (has_room low high && is_below x.first high) (is_from low x.last)
        (both_true (has_room low high) (is_below x.first high) room (subst (λ (g : Fence). is_below g.first high ≡ true) here (t.0 i x (omega arith) h.1)))
        (subst (λ (g : Fence). is_from low g.last ≡ true) here (f.1 i x h.0 within))

-- a range with no room meets none
pub no_room : (fs : List Fence) (low high : Option Key) → has_room low high ≡ false → AreThoseThatMeet low high fs (0, 0)
no_room fs low high not_room i x at = (
  (λ h. let room : has_room low high ≡ true = first_true (has_room low high) (is_below x.first high) (first_true (has_room low high && is_below x.first high) (is_from low x.last) h) in absurd (cc (room, not_room))),
  (λ h. absurd (omega (arith, h.1))),
)

pub none_meets : (fs : List Fence) (low high : Option Key) (from to : ℕ) → AreThoseThatMeet low high fs (from, to) → from ≤ to → to ≤ length fs → NoneMeets low high fs → from ≡ to
none_meets [] low high from to those le within none = omega (arith, le, within)
none_meets (x ∷ fs) low high from to those le within none = elim (cases_lt from to) [
  | inl lt ↦
      let there = slice_get-get_or (x ∷ fs) from x (omega (arith, lt, within)) in
      absurd (none from (get_or (x ∷ fs) from x) there ((those from (get_or (x ∷ fs) from x) there).1 (omega arith, lt)))
  | inr ge ↦ omega (arith, le, ge)
]
