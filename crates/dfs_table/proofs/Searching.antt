-- Binary search among the tables of a run, and which of them has the record with a key.
use Rattle.std.proofs.Common.{◌≡◌, ℕ, zero, suc, ◌<◌, ◌≤◌, true, false, List, [], ◌∷◌, ◌++◌, length, get_or, refl, sym, ap, subst, ◌∙◌, inl, inr, arith}
use Rattle.std.specs.Prelude.{Some, None, IsSomeAnd, slice_get}
use Rattle.std.specs.List.{AllByRecursion}
use Rattle.std.specs.List.Sorted.{IsPartitionedBy}
use Rattle.std.specs.Ordering.{is_le, is_lt}
use Rattle.std.proofs.lemmas.Bool.{cases_lt}
use Rattle.std.proofs.lemmas.Option.{get_or_from_slice_get, same_Some, slice_get_within}
use Rattle.dfs_record.specs.declared.Key.{Key}
use Rattle.dfs_record.specs.Delta.{last_value, or_else}
use Rattle.dfs_record.specs.Key.{key_cmp}
use Rattle.dfs_record.specs.Records.{IsBelow}
use Rattle.dfs_record.proofs.Replays.{last_value-append, or_else-none}
use Rattle.dfs_fence.specs.declared.fence.Fence.{Fence}
use Rattle.dfs_fence.specs.Cover.{CoversAt}
use Rattle.dfs_fence.specs.Index.{AreApart, AreFences, IsAtMost, IsFence, last_end}
use Rattle.dfs_fence.specs.Reading.{is_above}
use Rattle.dfs_fence.proofs.Apart.{above_last}
use Rattle.dfs_fence.proofs.Orders.{at_most_below, below_at_most, below_below, less, not_below, not_both}
use Rattle.dfs_table.specs.declared.table.Table.{Table}
use Rattle.dfs_table.specs.Spans.{IsEndsPoint, NoneSpans, Spans, SpansAt, ends_below, first_begin}
use Rattle.dfs_table.specs.Stored.{IsTableOf, run_records, table_records}
use Rattle.dfs_table.specs.Tables.{AreTables, all_fences}
use Rattle.dfs_table.proofs.Finding.{found_nowhere}

-- ---- the first key and the last one of a table

at_most : (a b : Key) → IsBelow a b → IsAtMost a b
at_most a b lt = ap is_le lt

first_below : (f g : Fence) (fs : List Fence) → AllByRecursion IsFence (f ∷ g ∷ fs) → AreApart (f ∷ g ∷ fs) → IsBelow f.first g.first
first_below f g fs each apart = at_most_below f.first f.last g.first each.0.order apart.0

-- the first key and the last one of fences
pub record HasEnds (fs : List Fence) : Type 0 where
  pub first : Key
  pub last : Key
  pub begins : first_begin fs ≡ Some first
  pub ends : last_end fs ≡ Some last
  pub order : IsAtMost first last

has_ends : (fs : List Fence) → 1 ≤ length fs → AllByRecursion IsFence fs → AreApart fs → HasEnds fs
has_ends [] some each apart = absurd (omega (arith, some))
has_ends (f ∷ []) some each apart = record { first = f.first; last = f.last; begins = refl; ends = refl; order = each.0.order }
has_ends (f ∷ g ∷ fs) some each apart =
    let h = has_ends (g ∷ fs) (omega arith) each.1 apart.1 in
    let order : IsAtMost g.first h.last = subst (λ k. IsAtMost k h.last) (sym (same_Some g.first h.first h.begins)) h.order in
    record { first = f.first; last = h.last; begins = refl; ends = h.ends; order = at_most f.first h.last (below_at_most f.first g.first h.last (first_below f g fs each apart) order) }

-- a key that a fence covers stands between the two
from_first : (key : Key) (fs : List Fence) (h : HasEnds fs) → AllByRecursion IsFence fs → AreApart fs → (i : ℕ) → CoversAt fs key i → IsAtMost h.first key
from_first key [] h each apart i at = absurd (cc h.begins)
from_first key (f ∷ fs) h each apart i at = subst (λ k. IsAtMost k key) (same_Some f.first h.first h.begins) (from f fs each apart i at)
  where
    from : (f : Fence) (fs : List Fence) → AllByRecursion IsFence (f ∷ fs) → AreApart (f ∷ fs) → (i : ℕ) → CoversAt (f ∷ fs) key i → IsAtMost f.first key
    from f fs each apart zero at = subst (λ (g : Fence). IsAtMost g.first key) (sym (same_Some f at.0 at.1.0)) at.1.1.first
    from f [] each apart (suc i) at = absurd (cc at.1.0)
    from f (g ∷ fs) each apart (suc i) at = at_most f.first key (below_at_most f.first g.first key (first_below f g fs each apart) (from g fs each.1 apart.1 i at))

to_last : (key : Key) (fs : List Fence) (h : HasEnds fs) → AllByRecursion IsFence fs → AreApart fs → (i : ℕ) → CoversAt fs key i → IsAtMost key h.last
to_last key [] h each apart i at = absurd (cc h.begins)
to_last key (f ∷ []) h each apart zero at =
    subst (IsAtMost key) (same_Some f.last h.last h.ends) (subst (λ (g : Fence). IsAtMost key g.last) (sym (same_Some f at.0 at.1.0)) at.1.1.last)
to_last key (f ∷ []) h each apart (suc i) at = absurd (cc at.1.0)
to_last key (f ∷ g ∷ fs) h each apart zero at =
    let behind = has_ends (g ∷ fs) (omega arith) each.1 apart.1 in
    let same : behind.last ≡ h.last = same_Some behind.last h.last (sym behind.ends ∙ h.ends) in
    let here : IsAtMost key f.last = subst (λ (x : Fence). IsAtMost key x.last) (sym (same_Some f at.0 at.1.0)) at.1.1.last in
    let below : IsBelow key g.first = at_most_below key f.last g.first here apart.0 in
    let order : IsAtMost g.first behind.last = subst (λ k. IsAtMost k behind.last) (sym (same_Some g.first behind.first behind.begins)) behind.order in
    at_most key h.last (subst (IsBelow key) same (below_at_most key g.first behind.last below order))
to_last key (f ∷ g ∷ fs) h each apart (suc i) at =
    to_last key (g ∷ fs) (record { first = g.first; last = h.last; begins = refl; ends = h.ends; order = order }) each.1 apart.1 i at
  where
    behind : HasEnds (g ∷ fs)
    behind = has_ends (g ∷ fs) (omega arith) each.1 apart.1

    order : IsAtMost g.first h.last
    order =
        subst (λ k. IsAtMost k h.last) (sym (same_Some g.first behind.first behind.begins))
        (subst (IsAtMost behind.first) (same_Some behind.last h.last (sym behind.ends ∙ h.ends)) behind.order)

spans_by : (t : Table) (key : Key) (h : HasEnds t.fences) → IsAtMost h.first key → IsAtMost key h.last → Spans t key
spans_by t key h first last = record {
  first = subst (λ o. IsSomeAnd o (λ k. IsAtMost k key)) (sym h.begins) first;
  last = subst (λ o. IsSomeAnd o (IsAtMost key)) (sym h.ends) last;
}

span_first : (t : Table) (key : Key) (h : HasEnds t.fences) → Spans t key → IsAtMost h.first key
span_first t key h s = subst (λ o. IsSomeAnd o (λ k. IsAtMost k key)) h.begins s.first

span_last : (t : Table) (key : Key) (h : HasEnds t.fences) → Spans t key → IsAtMost key h.last
span_last t key h s = subst (λ o. IsSomeAnd o (IsAtMost key)) h.ends s.last

ends_by : (t : Table) (key : Key) (h : HasEnds t.fences) → IsBelow h.last key → ends_below key t ≡ true
ends_by t key h lt = ap (λ o. is_above o key) h.ends ∙ ap is_lt lt

pub end_below : (t : Table) (key : Key) (h : HasEnds t.fences) → ends_below key t ≡ true → IsBelow h.last key
end_below t key h e = less (key_cmp h.last key) (ap (λ o. is_above o key) (sym h.ends) ∙ e)

-- ---- tables that rise

apart_drop : (xs ys : List Fence) → AreApart (xs ++ ys) → AreApart ys
apart_drop [] ys apart = apart
apart_drop (x ∷ []) [] apart = tt
apart_drop (x ∷ []) (y ∷ ys) apart = apart.1
apart_drop (x ∷ z ∷ xs) ys apart = apart_drop (z ∷ xs) ys apart.1

first_after : (xs fs more : List Fence) (last first : Key) → AreApart (xs ++ (fs ++ more)) → last_end xs ≡ Some last → first_begin fs ≡ Some first → IsBelow last first
first_after xs [] more last first apart ends begins = absurd (cc begins)
first_after xs (f ∷ fs) more last first apart ends begins =
    subst (IsBelow last) (same_Some f.first first begins) (less (key_cmp last f.first) (ap (λ o. is_above o f.first) (sym ends) ∙ above_last xs f (fs ++ more) apart))

ends_at : (ts : List Table) → AreTables ts → (i : ℕ) (d : Table) → i < length ts → HasEnds (get_or ts i d).fences
ends_at ts are = here ts are.each are.some
  where
    here : (ts : List Table) → AllByRecursion (λ t. AreFences t.fences) ts → AllByRecursion (λ t. 1 ≤ length t.fences) ts → (i : ℕ) (d : Table) → i < length ts → HasEnds (get_or ts i d).fences
    here [] each some i d below = absurd (omega (arith, below))
    here (t ∷ ts) each some zero d below = has_ends t.fences some.0 each.0.each each.0.apart
    here (t ∷ ts) each some (suc i) d below = here ts each.1 some.1 i d (omega (arith, below))

pub behind : (t : Table) (ts : List Table) → AreTables (t ∷ ts) → AreTables ts
behind t ts are = record { each = are.each.1; some = are.some.1; rise = apart_drop t.fences (all_fences ts) are.rise }

-- a table ends below each one behind it
ends_before : (ts : List Table) → AreTables ts → (i j : ℕ) (d : Table) → i < j → j < length ts → (a : HasEnds (get_or ts i d).fences) (b : HasEnds (get_or ts j d).fences) → IsBelow a.last b.first
ends_before [] are i j d lt below a b = absurd (omega (arith, below))
ends_before (t ∷ ts) are i zero d lt below a b = absurd (omega (arith, lt))
ends_before (t ∷ ts) are (suc i) (suc j) d lt below a b = ends_before ts (behind t ts are) i j d (omega (arith, lt)) (omega (arith, below)) a b
ends_before (t ∷ []) are zero (suc j) d lt below a b = absurd (omega (arith, below))
ends_before (t ∷ u ∷ ts) are zero (suc zero) d lt below a b = first_after t.fences u.fences (all_fences ts) a.last b.first are.rise a.ends b.begins
ends_before (t ∷ u ∷ ts) are zero (suc (suc j)) d lt below a b =
    let more = behind t (u ∷ ts) are in
    let h = ends_at (u ∷ ts) more zero d (omega arith) in
    below_below a.last h.first b.first (first_after t.fences u.fences (all_fences ts) a.last h.first are.rise a.ends h.begins)
    (at_most_below h.first h.last b.first h.order (ends_before (u ∷ ts) more zero (suc j) d (omega arith) (omega (arith, below)) h b))

pub ends_parted : (ts : List Table) (key : Key) → AreTables ts → IsPartitionedBy (ends_below key) ts
ends_parted ts key are i j d le below lt = elim (cases_lt i j) [
  | inl before ↦
      let a = ends_at ts are i d (omega (arith, before, below)) in
      let b = ends_at ts are j d below in
      let last : IsBelow a.last b.last = below_at_most a.last b.first b.last (ends_before ts are i j d before below a b) b.order in
      ends_by (get_or ts i d) key a (below_below a.last b.last key last (end_below (get_or ts j d) key b lt))
  | inr ge ↦ subst (λ n. ends_below key (get_or ts n d) ≡ true) (omega (arith, le, ge)) lt
]

-- ---- the table that spans a key

-- it stands where the tables stop to end below the key
pub stands_there : (ts : List Table) (key : Key) (n : ℕ) → AreTables ts → IsEndsPoint ts key n → (i : ℕ) → SpansAt ts key i → i ≡ n
stands_there ts key n are point i at =
    let d = at.0 in
    let within : i < length ts = slice_get_within ts i d at.1.0 in
    let here = ends_at ts are i d within in
    let spans : Spans (get_or ts i d) key = subst (λ (t : Table). Spans t key) (sym (get_or_from_slice_get ts i d d at.1.0)) at.1.1 in
    elim (cases_lt i n) [
      | inl before ↦ absurd (not_both here.last key (end_below (get_or ts i d) key here (point.0 i d (omega arith) before)) (span_last (get_or ts i d) key here spans))
      | inr ge ↦ elim (cases_lt n i) [
        | inl after ↦
            let there = ends_at ts are n d (omega (arith, after, within)) in
            let ends = below_at_most there.last here.first key (ends_before ts are n i d after within there here) (span_first (get_or ts i d) key here spans) in
            let is : ends_below key (get_or ts n d) ≡ true = ends_by (get_or ts n d) key there ends in
            let is_not : ends_below key (get_or ts n d) ≡ false = point.1 n d (omega (arith, after)) (omega (arith, after, within)) in
            absurd (cc (is, is_not))
        | inr le ↦ omega (arith, ge, le)
      ]
    ]

pub none_there : (ts : List Table) (key : Key) (n : ℕ) → AreTables ts → IsEndsPoint ts key n → length ts ≤ n → NoneSpans ts key
none_there ts key n are point past i at = absurd (omega (arith, past, stands_there ts key n are point i at, slice_get_within ts i at.0 at.1.0))

pub ends_here : (ts : List Table) (n : ℕ) (t : Table) → AreTables ts → slice_get ts n ≡ Some t → HasEnds t.fences
ends_here ts n t are at = subst (λ (u : Table). HasEnds u.fences) (get_or_from_slice_get ts n t t at) (ends_at ts are n t (slice_get_within ts n t at))

pub has_first : (ts : List Table) (n : ℕ) (t : Table) → AreTables ts → slice_get ts n ≡ Some t → 0 < length t.fences
has_first ts n t are at = some t.fences (ends_here ts n t are at)
  where
    some : (fs : List Fence) → HasEnds fs → 0 < length fs
    some [] h = absurd (cc h.begins)
    some (f ∷ fs) h = omega arith

first_is : (fs : List Fence) (f : Fence) (h : HasEnds fs) → slice_get fs 0 ≡ Some f → f.first ≡ h.first
first_is [] f h at = absurd (cc at)
first_is (g ∷ fs) f h at = ap (λ (x : Fence). x.first) (sym (same_Some g f at)) ∙ same_Some g.first h.first h.begins

-- the table there spans the key, if it begins at it or below it
pub spans_there : (ts : List Table) (key : Key) (n : ℕ) (t : Table) (f : Fence) → AreTables ts → IsEndsPoint ts key n → slice_get ts n ≡ Some t → slice_get t.fences 0 ≡ Some f → IsAtMost f.first key → SpansAt ts key n
spans_there ts key n t f are point at front first =
    let h = ends_here ts n t are at in
    let is_not : ends_below key t ≡ false = subst (λ (u : Table). ends_below key u ≡ false) (get_or_from_slice_get ts n t t at) (point.1 n t (omega arith) (slice_get_within ts n t at)) in
    let last : IsAtMost key h.last = not_below h.last key (ap (λ o. is_above o key) (sym h.ends) ∙ is_not) in
    (t, (at, spans_by t key h (subst (λ k. IsAtMost k key) (first_is t.fences f h front) first) last))

pub begins_above : (ts : List Table) (key : Key) (n : ℕ) (t : Table) (f : Fence) → AreTables ts → IsEndsPoint ts key n → slice_get ts n ≡ Some t → slice_get t.fences 0 ≡ Some f → IsBelow key f.first → NoneSpans ts key
begins_above ts key n t f are point at front above i spans =
    let h = ends_here ts n t are at in
    let same = stands_there ts key n are point i spans in
    let t_is : spans.0 ≡ t = same_Some spans.0 t (sym (ap (slice_get ts) (sym same) ∙ spans.1.0) ∙ at) in
    let first = span_first t key h (subst (λ (u : Table). Spans u key) t_is spans.1.1) in
    not_both key h.first (subst (IsBelow key) (first_is t.fences f h front) above) first

-- ---- the value of a key

-- a table that does not span the key has no record with it
pub outside : (file : List ℕ) (t : Table) (key : Key) → IsTableOf file t → ¬ (Spans t key) → last_value key (table_records file t) ≡ None
outside file t key is out =
    let are = is.index.index.fences in
    let h = has_ends t.fences is.index.index.some are.each are.apart in
    found_nowhere file t.fences key is.each (λ i at. out (spans_by t key h (from_first key t.fences h are.each are.apart i at) (to_last key t.fences h are.each are.apart i at)))

pub run_nowhere : (file : List ℕ) (ts : List Table) (key : Key) → AllByRecursion (IsTableOf file) ts → NoneSpans ts key → last_value key (run_records file ts) ≡ None
run_nowhere file [] key each none = refl
run_nowhere file (t ∷ ts) key each none =
    last_value-append key (table_records file t) (run_records file ts)
    ∙ ap (λ o. or_else o (last_value key (table_records file t))) (run_nowhere file ts key each.1 (λ i at. none (suc i) at))
    ∙ outside file t key each.0 (λ spans. none 0 (t, (refl, spans)))

-- where one table alone may span the key, its records decide
pub run_there : (file : List ℕ) (ts : List Table) (key : Key) (i : ℕ) (t : Table) → AllByRecursion (IsTableOf file) ts → slice_get ts i ≡ Some t
    → ((j : ℕ) → SpansAt ts key j → j ≡ i) → last_value key (run_records file ts) ≡ last_value key (table_records file t)
run_there file [] key i t each at only = absurd cc
run_there file (x ∷ ts) key zero t each at only =
    last_value-append key (table_records file x) (run_records file ts)
    ∙ ap (λ o. or_else o (last_value key (table_records file x))) (run_nowhere file ts key each.1 (λ j spans. absurd (omega (arith, only (suc j) spans))))
    ∙ ap (λ (y : Table). last_value key (table_records file y)) (same_Some x t at)
run_there file (x ∷ ts) key (suc i) t each at only =
    last_value-append key (table_records file x) (run_records file ts)
    ∙ ap (or_else (last_value key (run_records file ts))) (outside file x key each.0 (λ spans. absurd (omega (arith, only 0 (x, (refl, spans))))))
    ∙ or_else-none (last_value key (run_records file ts))
    ∙ run_there file ts key i t each.1 at (λ j spans. omega (arith, only (suc j) spans))
