-- Lists whose keys rise, and what a binary search finds in them.
use Rattle.std.proofs.Common.{◌≡◌, ℕ, zero, suc, ◌+◌, ◌<◌, ◌≤◌, Bool, true, false, ◌&&◌, T, List, [], ◌∷◌, ◌++◌, length, take, drop, get_or, sym, ap, subst, ◌∙◌, arith, add-one}
use Rattle.std.specs.Prelude.{Result, Ok, Err, MatchResult, All, HoldsAt}
use Rattle.std.specs.Ordering.{is_lt, ordering_reverse}
use Rattle.std.specs.List.Sorted.{IsBinarySearchResult, IsSortedBy}
use Rattle.std.specs.FinMap.Entries.{below_all}
use Rattle.std.specs.declared.cmp.Ordering.TheVariants.{Greater}
use Rattle.std.proofs.lemmas.List.Elements.{All-nil, All-cons, All-head, All-tail, All-get_or}
use Rattle.std.proofs.lemmas.List.Sorted.{searchable_from_sorted}
use Rattle.std.proofs.lemmas.List.{get_or-take, get_or-drop, length-drop, length-take-le}
use Rattle.dfs_record.specs.declared.Key.{Key}
use Rattle.dfs_record.specs.declared.Record.{Record}
use Rattle.dfs_record.specs.Key.{key_cmp, keys_total, keys_exact}
use Rattle.dfs_record.specs.Records.{KeysRise, IsBelow}
use Rattle.dfs_cursor.specs.Ranges.{pairs, first, second, less}
use Rattle.dfs_buffer.specs.Chunks.{AreBelow, AreAbove}

-- each key behind one is above it, as a fact about each record
pub above_from : (k : Key) (rs : List Record) → T (below_all key_cmp k (pairs rs)) → AreAbove rs k
above_from k [] h = All-nil (λ r. IsBelow k r.key)
above_from k (r ∷ rs) h = All-cons (λ r. IsBelow k r.key) r rs (less _ (first _ _ h)) (above_from k rs (second _ _ h))

both : (a b : Bool) → T a → T b → T (a && b)
both true b p q = q
both false b p q = p

pub above_to : (k : Key) (rs : List Record) → AreAbove rs k → T (below_all key_cmp k (pairs rs))
above_to k [] h = tt
above_to k (r ∷ rs) h = both _ _ (subst (λ o. T (is_lt o)) (sym (All-head (λ r. IsBelow k r.key) r rs h)) tt) (above_to k rs (All-tail (λ r. IsBelow k r.key) r rs h))

pub back_rises : (a b : List Record) → KeysRise (a ++ b) → KeysRise b
back_rises [] b h = h
back_rises (r ∷ rs) b h = back_rises rs b (second _ _ h)

above_back : (k : Key) (a b : List Record) → T (below_all key_cmp k (pairs (a ++ b))) → T (below_all key_cmp k (pairs b))
above_back k [] b h = h
above_back k (r ∷ rs) b h = above_back k rs b (second _ _ h)

-- each record of the front is below each one of the back
pub apart : (a b : List Record) → KeysRise (a ++ b) → All (λ x. AreAbove b x.key) a
apart [] b h = All-nil (λ x. AreAbove b x.key)
apart (r ∷ rs) b h = All-cons (λ x. AreAbove b x.key) r rs (above_from r.key b (above_back r.key rs b (first _ _ h))) (apart rs b (second _ _ h))

rising_next : (rs : List Record) → KeysRise rs → (k : ℕ) (d : Record) → suc k < length rs → IsBelow (get_or rs k d).key (get_or rs (suc k) d).key
rising_next [] h k d lt = absurd (omega arith)
rising_next (r ∷ rs) h zero d lt = All-get_or (λ x. IsBelow r.key x.key) rs 0 d (omega arith) (above_from r.key rs (first _ _ h))
rising_next (r ∷ rs) h (suc k) d lt = rising_next rs (second _ _ h) k d (omega arith)

turned : (x y : Key) → IsBelow x y → is_lt (key_cmp y x) ≡ false
turned x y h = ap is_lt (keys_total.antisymm y x ∙ ap ordering_reverse h)

sorted : (rs : List Record) → KeysRise rs → IsSortedBy (λ (a b : Record). is_lt (key_cmp a.key b.key)) rs
sorted rs h k d low lt = rw add-one (turned (get_or rs k d).key (get_or rs (suc k) d).key (rising_next rs h k d (omega arith)))

greater_below : (x y : Key) → key_cmp x y ≡ Greater → IsBelow y x
greater_below x y h = keys_total.antisymm y x ∙ ap ordering_reverse h

-- what a binary search for a key answers in records whose keys rise
pub searched : (rs : List Record) (key : Key) (r : Result ℕ ℕ) → KeysRise rs → MatchResult r (λ i. i < length rs) (λ i. i ≤ length rs) → IsBinarySearchResult (λ (x : Record). key_cmp x.key key) rs r
    → MatchResult r (HoldsAt (λ (x : Record). x.key ≡ key) rs) (λ i. AreBelow (take i rs) key × AreAbove (drop i rs) key)
searched rs key (Ok i) h within s = λ d. keys_exact _ _ (s d)
searched rs key (Err i) h within s =
    let p = s (searchable_from_sorted keys_total (λ (x : Record). x.key) rs key (sorted rs h)) in (
      λ k d lt. let l : k < i = omega (arith, length-take-le i rs within) in rw (get_or-take i rs k d l) (p.0 k d (omega arith) l),
      λ k d lt. rw (get_or-drop i rs k d) (greater_below (get_or rs (i + k) d).key key (p.1 (i + k) d (omega arith) (omega (arith, length-drop i rs)))),
    )
