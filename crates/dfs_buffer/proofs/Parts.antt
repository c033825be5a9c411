-- The records from a key on.
use Rattle.std.proofs.Common.{◌≡◌, ℕ, Bool, true, false, ◌&&◌, cond, List, [], ◌∷◌, ◌++◌, ◌+◌, ◌-◌, length, take, drop, refl, sym, ap, subst, ◌∙◌, arith, add-one}
use Rattle.std.specs.Prelude.{Some, None, flat_map}
use Rattle.std.specs.Ordering.{is_le, is_eq, ordering_reverse}
use Rattle.std.specs.declared.cmp.Ordering.{Ordering}
use Rattle.std.specs.declared.cmp.Ordering.TheVariants.{Less, Equal, Greater}
use Rattle.std.proofs.lemmas.List.Elements.{All-head, All-tail, filter-append}
use Rattle.std.proofs.lemmas.List.{take_all, length-drop}
use Rattle.dfs_record.specs.declared.Key.{Key}
use Rattle.dfs_record.specs.declared.Record.{Record}
use Rattle.dfs_record.specs.Key.{key_cmp, keys_total}
use Rattle.dfs_record.specs.Records.{KeysRise, IsBelow}
use Rattle.dfs_record.proofs.Maps.{same_key}
use Rattle.dfs_cursor.specs.Ranges.{is_within, part, first}
use Rattle.dfs_buffer.specs.Chunks.{AreBelow, AreAbove, BeginsWith, AreChunks, IsPlace, before, from, chunk_at}
use Rattle.dfs_buffer.proofs.Rising.{above_from, back_rises}
use Rattle.dfs_buffer.proofs.Places.{joined_place}

-- none of what lies below the key, and all that lies above it
part_below : (key : Key) (rs : List Record) → AreBelow rs key → part (Some key) None rs ≡ []
part_below key [] h = refl
part_below key (r ∷ rs) h =
    ap (λ o. cond (is_le o && true) (r ∷ part (Some key) None rs) (part (Some key) None rs)) (keys_total.antisymm key r.key ∙ ap ordering_reverse (All-head (λ x. IsBelow x.key key) r rs h))
    ∙ part_below key rs (All-tail (λ x. IsBelow x.key key) r rs h)

part_above : (key : Key) (rs : List Record) → AreAbove rs key → part (Some key) None rs ≡ rs
part_above key [] h = refl
part_above key (r ∷ rs) h =
    ap (λ o. cond (is_le o && true) (r ∷ part (Some key) None rs) (part (Some key) None rs)) (All-head (λ x. IsBelow key x.key) r rs h)
    ∙ ap (λ l. r ∷ l) (part_above key rs (All-tail (λ x. IsBelow key x.key) r rs h))

no_greater : (o : Ordering) → is_eq o ≡ true → is_le o ≡ true
no_greater Less h = refl
no_greater Equal h = refl
no_greater Greater h = h

-- also a first record with the very key
part_begun : (found : Bool) (key : Key) (rs : List Record) → KeysRise rs → BeginsWith found rs key → part (Some key) None rs ≡ rs
part_begun false key rs rise h = part_above key rs h
part_begun true key rs rise h =
    let above = above_from h.0.key h.1 (first _ _ (subst KeysRise h.2 rise)) in
    let it : part (Some key) None (h.0 ∷ h.1) ≡ h.0 ∷ h.1 =
    ap (λ b. cond (b && true) (h.0 ∷ part (Some key) None h.1) (part (Some key) None h.1)) (ap (λ k. is_le (key_cmp key k)) h.3 ∙ no_greater (key_cmp key key) (same_key key))
    ∙ ap (λ l. h.0 ∷ l) (part_above key h.1 (subst (AreAbove h.1) h.3 above)) in
    ap (part (Some key) None) h.2 ∙ it ∙ sym h.2

pub from_is : {X : Type 0} (f : X → List Record) (cs : List X) (key : Key) (i j : ℕ) (found : Bool) → AreChunks f cs → IsPlace f cs key i j found → from f cs i j ≡ part (Some key) None (flat_map f cs)
from_is f cs key i j found all place =
    let a = before f cs i j in
    let b = from f cs i j in
    let whole = joined_place f cs i j in
    sym (ap (part (Some key) None) whole
    ∙ filter-append (λ r. is_within (Some key) None r.key) a b
    ∙ ap (λ l. l ++ part (Some key) None b) (part_below key a place.below)
    ∙ part_begun found key b (back_rises a b (subst KeysRise whole all.rises)) place.above)

-- the rest of two slices as the code cuts them
pub cut_from : {X : Type 0} (f : X → List Record) (cs : List X) (i j : ℕ) (rs : List Record) → chunk_at f cs i ≡ rs → take (length rs - j) (drop j rs) ++ flat_map f (take (length cs - (i + 1)) (drop (i + 1) cs)) ≡ from f cs i j
cut_from f cs i j rs same =
    let front : take (length rs - j) (drop j rs) ≡ drop j rs = take_all (length rs - j) (drop j rs) (omega (arith, length-drop j rs)) in
    let behind : take (length cs - (i + 1)) (drop (i + 1) cs) ≡ drop (i + 1) cs = take_all (length cs - (i + 1)) (drop (i + 1) cs) (omega (arith, length-drop (i + 1) cs)) in
    ap (λ l. l ++ flat_map f (take (length cs - (i + 1)) (drop (i + 1) cs))) (front ∙ ap (drop j) (sym same))
    ∙ ap (λ l. drop j (chunk_at f cs i) ++ flat_map f l) (behind ∙ ap (λ k. drop k cs) (add-one i))
