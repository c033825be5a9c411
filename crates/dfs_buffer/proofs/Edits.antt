-- What an edit of one chunk does to the records of all.
use Rattle.std.proofs.Common.{◌≡◌, ℕ, false, suc, ◌+◌, ◌-◌, ◌<◌, ◌≤◌, List, [], ◌∷◌, ◌++◌, length, take, drop, get_or, set, refl, sym, ap, subst, ◌∙◌, arith, append_assoc, add-one}
use Rattle.std.specs.Prelude.{flat_map, All}
use Rattle.std.specs.List.{insert}
use Rattle.std.proofs.Math.Seq.{drop-cons}
use Rattle.std.proofs.lemmas.List.Concat.{flat_map-append}
use Rattle.std.proofs.lemmas.List.{set_split, take-append-drop, append-nil, drop_all, take_more_set, drop-set-lt, length-take, length-take-le, length-drop, length-append, get_or_at, take_at, drop_at, take-take, drop-take, drop-drop, drop-append-le}
use Rattle.std.proofs.lemmas.List.Elements.{All-append, All-take, All-drop, All-cons}
use Rattle.dfs_record.specs.Record.{IsRecord}
use Rattle.dfs_record.specs.Records.{KeysRise}
use Rattle.dfs_record.specs.declared.Record.{Record}
use Rattle.dfs_record.specs.declared.Value.{Value}
use Rattle.dfs_record.specs.declared.Key.{Key}
use Rattle.dfs_buffer.specs.Chunks.{chunk_at, chunk_limit, before, from, AreBelow, AreAbove, AreChunks, IsReplaced, IsCut, IsPlace, HasRoom}
use Rattle.dfs_buffer.proofs.Places.{chunk_is, joined_at}

module _ {X : Type 0} (f : X → List Record) (cs : List X) (i : ℕ) where
  -- nothing lies behind the last record
  pub none_from : (j : ℕ) → length cs ≤ suc i → length (chunk_at f cs i) ≤ j → from f cs i j ≡ []
  none_from j last end = ap (λ l. l ++ flat_map f (drop (suc i) cs)) (drop_all j (chunk_at f cs i) end) ∙ ap (flat_map f) (drop_all (suc i) cs last)

  pub set_chunk : (x : X) → i < length cs → flat_map f (set cs i x) ≡ flat_map f (take i cs) ++ (f x ++ flat_map f (drop (suc i) cs))
  set_chunk x l = ap (flat_map f) (set_split cs i x l) ∙ flat_map-append f (take i cs) (x ∷ drop (suc i) cs)

  pub same_chunk : (x : X) → i < length cs → f x ≡ chunk_at f cs i → flat_map f (set cs i x) ≡ flat_map f cs
  same_chunk x l e = set_chunk x l ∙ ap (λ p. flat_map f (take i cs) ++ (p ++ flat_map f (drop (suc i) cs))) e ∙ sym (joined_at f cs i)

  pub inserted : (x : X) (j : ℕ) (r : Record) → i < length cs → f x ≡ insert (chunk_at f cs i) j r → flat_map f (set cs i x) ≡ before f cs i j ++ r ∷ from f cs i j
  inserted x j r l e =
      set_chunk x l
      ∙ ap (λ p. flat_map f (take i cs) ++ (p ++ flat_map f (drop (suc i) cs))) e
      ∙ ap (λ p. flat_map f (take i cs) ++ p) (append_assoc (take j (chunk_at f cs i)) (r ∷ drop j (chunk_at f cs i)) (flat_map f (drop (suc i) cs)))
      ∙ sym (append_assoc (flat_map f (take i cs)) (take j (chunk_at f cs i)) (r ∷ from f cs i j))

  pub replaced : (x : X) (j : ℕ) (r : Record) (v : Value) → i < length cs → j < length (chunk_at f cs i) → get_or (chunk_at f cs i) j r ≡ r → f x ≡ set (chunk_at f cs i) j (record r { value = v })
      → IsReplaced (before f cs i j) (from f cs i j) (flat_map f (set cs i x)) v
  replaced x j r v l m at e =
      let p = chunk_at f cs i in
      let rest = flat_map f (drop (suc i) cs) in
      record {
        first = r;
        others = drop (suc j) p ++ rest;
        was = ap (λ q. q ++ rest) (drop-cons p j r m ∙ ap (λ y. y ∷ drop (suc j) p) at);
        is = inserted_at x j (record r { value = v }) l (e ∙ set_split p j (record r { value = v }) m);
      }
    where
      inserted_at : (x : X) (j : ℕ) (s : Record) → i < length cs → f x ≡ take j (chunk_at f cs i) ++ s ∷ drop (suc j) (chunk_at f cs i) → flat_map f (set cs i x) ≡ before f cs i j ++ s ∷ (drop (suc j) (chunk_at f cs i) ++ flat_map f (drop (suc i) cs))
      inserted_at x j s l e =
          set_chunk x l
          ∙ ap (λ p. flat_map f (take i cs) ++ (p ++ flat_map f (drop (suc i) cs))) e
          ∙ ap (λ p. flat_map f (take i cs) ++ p) (append_assoc (take j (chunk_at f cs i)) (s ∷ drop (suc j) (chunk_at f cs i)) (flat_map f (drop (suc i) cs)))
          ∙ sym (append_assoc (flat_map f (take i cs)) (take j (chunk_at f cs i)) (s ∷ (drop (suc j) (chunk_at f cs i) ++ flat_map f (drop (suc i) cs))))

-- a chunk among others, and the same place as in other chunks
module _ {X : Type 0} (f : X → List Record) (ds front back : List X) (x : X) (i : ℕ) (is : ds ≡ front ++ x ∷ back) (at : length front ≡ i) where
  seam_within : i < length ds
  seam_within = omega (arith, at, ap length is, length-append front (x ∷ back))

  seam : chunk_at f ds i ≡ f x
  seam = chunk_is f ds i x seam_within ∙ ap f (ap (λ d. get_or d i x) is ∙ get_or_at front x back x i at)

  seam_behind : drop (suc i) ds ≡ back
  seam_behind = ap (drop (suc i)) (is ∙ sym (append_assoc front (x ∷ []) back)) ∙ drop_at (front ++ x ∷ []) back (suc i) (omega (arith, at, length-append front (x ∷ [])))

  seam_room : length (f x) < chunk_limit → HasRoom f ds i
  seam_room fewer = record { within = seam_within; fewer = omega (arith, ap length seam, fewer) }

  seam_place : (cs : List X) (key : Key) (c j k : ℕ) → IsPlace f cs key c j false → k ≤ length (f x) → flat_map f front ++ take k (f x) ≡ before f cs c j → drop k (f x) ++ flat_map f back ≡ from f cs c j → IsPlace f ds key i k false
  seam_place cs key c j k place l below above = record {
    within = omega (arith, l, ap length seam);
    inside = λ h. absurd cc;
    here = λ _. seam_within;
    below = subst (λ rs. AreBelow rs key) (sym ((λ n. flat_map f ((ap (take i) is ∙ take_at front (x ∷ back) i at) n) ++ take k (seam n)) ∙ below)) place.below;
    above = subst (λ rs. AreAbove rs key) (sym ((λ n. drop k (seam n) ++ flat_map f (seam_behind n)) ∙ above)) place.above;
  }

-- an index in the second or in the first part of a list that is cut
take_inside : {A : Type 0} (xs : List A) (h j : ℕ) → h ≤ j → take h xs ++ take (j - h) (drop h xs) ≡ take j xs
take_inside xs h j l =
    let sum : h + (j - h) ≡ j = omega arith in
    (λ k. sym (take-take h j xs l) k ++ (sym (drop-take h (j - h) xs) ∙ ap (λ n. drop h (take n xs)) sum) k) ∙ take-append-drop h (take j xs)

drop_behind : {A : Type 0} (xs : List A) (h j : ℕ) → h ≤ j → drop (j - h) (drop h xs) ≡ drop j xs
drop_behind xs h j l =
    let sum : h + (j - h) ≡ j = omega arith in
    drop-drop (j - h) h xs ∙ ap (λ n. drop n xs) sum

drop_inside : {A : Type 0} (xs : List A) (h j : ℕ) → j ≤ h → j ≤ length xs → drop j (take h xs) ++ drop h xs ≡ drop j xs
drop_inside xs h j l m = sym (drop-append-le j (take h xs) (drop h xs) (omega (arith, length-take h xs))) ∙ ap (drop j) (take-append-drop h xs)

-- a chunk that is cut in two
pub cut_is : {X : Type 0} (cs : List X) (i : ℕ) (x y : X) → i < length cs → insert (set cs i x) (i + 1) y ≡ take i cs ++ x ∷ y ∷ drop (suc i) cs
cut_is cs i x y l =
    (λ k. take_more_set cs i x l k ++ y ∷ drop-set-lt (i + 1) cs i x (omega arith) k)
    ∙ append_assoc (take i cs) (x ∷ []) (y ∷ drop (i + 1) cs)
    ∙ rw add-one refl

module _ {X : Type 0} (f : X → List Record) (cs ds : List X) (i h : ℕ) (cut : IsCut f cs ds i h) where
  pub cut_same : flat_map f ds ≡ flat_map f cs
  cut_same =
      let behind = flat_map f (drop (suc i) cs) in
      ap (flat_map f) cut.is
      ∙ flat_map-append f (take i cs) (cut.front ∷ cut.back ∷ drop (suc i) cs)
      ∙ ap (λ a. flat_map f (take i cs) ++ a) (sym (append_assoc (f cut.front) (f cut.back) behind) ∙ ap (λ a. a ++ behind) ((λ k. cut.first k ++ cut.others k) ∙ take-append-drop h (chunk_at f cs i)))
      ∙ sym (joined_at f cs i)

  pub cut_all : AreChunks f cs → chunk_limit ≤ length (chunk_at f cs i) → AreChunks f ds
  cut_all all full =
      let sum = sym (length-append (f cut.front) (f cut.back)) ∙ ap length ((λ k. cut.first k ++ cut.others k) ∙ take-append-drop h (chunk_at f cs i)) in
      record {
        rises = subst KeysRise (sym cut_same) all.rises;
        valid = subst (All IsRecord) (sym cut_same) all.valid;
        filled = both (λ c. 0 < length (f c)) all.filled (omega (arith, sum, full, cut.others_fewer)) (omega (arith, sum, full, cut.first_fewer));
        short = both (λ c. length (f c) ≤ chunk_limit) all.short (omega (arith, cut.first_fewer)) (omega (arith, cut.others_fewer));
      }
    where
      both : (P : X → Type 0) → All P cs → P cut.front → P cut.back → All P ds
      both P were one two =
          subst (All P) (sym cut.is) (All-append P (take i cs) (cut.front ∷ cut.back ∷ drop (suc i) cs) (All-take P i cs were)
          (All-cons P cut.front (cut.back ∷ drop (suc i) cs) one (All-cons P cut.back (drop (suc i) cs) two (All-drop P (suc i) cs were))))

  module _ (l : i < length cs) where
    at_first : length (take i cs) ≡ i
    at_first = length-take-le i cs (omega arith)

    is_others : ds ≡ (take i cs ++ cut.front ∷ []) ++ cut.back ∷ drop (suc i) cs
    is_others = cut.is ∙ sym (append_assoc (take i cs) (cut.front ∷ []) (cut.back ∷ drop (suc i) cs))

    at_others : length (take i cs ++ cut.front ∷ []) ≡ i + 1
    at_others = omega (arith, at_first, length-append (take i cs) (cut.front ∷ []))

    pub room_first : HasRoom f ds i
    room_first = seam_room f ds (take i cs) (cut.back ∷ drop (suc i) cs) cut.front i cut.is at_first cut.first_fewer

    pub room_others : HasRoom f ds (i + 1)
    room_others = seam_room f ds (take i cs ++ cut.front ∷ []) (drop (suc i) cs) cut.back (i + 1) is_others at_others cut.others_fewer

    module _ (key : Key) (j : ℕ) (place : IsPlace f cs key i j false) where
      pub place_first : j ≤ h → IsPlace f ds key i j false
      place_first m =
          let p = chunk_at f cs i in
          let behind = flat_map f (drop (suc i) cs) in
          seam_place f ds (take i cs) (cut.back ∷ drop (suc i) cs) cut.front i cut.is at_first cs key i j j place
          (omega (arith, m, place.within, ap length cut.first, length-take h p))
          (ap (λ a. flat_map f (take i cs) ++ a) (ap (take j) cut.first ∙ take-take j h p m))
          ((λ n. drop j (cut.first n) ++ (cut.others n ++ behind)) ∙ sym (append_assoc (drop j (take h p)) (drop h p) behind) ∙ ap (λ a. a ++ behind) (drop_inside p h j m place.within))

      pub place_others : h < j → IsPlace f ds key (i + 1) (j - h) false
      place_others m =
          let p = chunk_at f cs i in
          let ahead = flat_map f (take i cs) in
          seam_place f ds (take i cs ++ cut.front ∷ []) (drop (suc i) cs) cut.back (i + 1) is_others at_others cs key i j (j - h) place
          (omega (arith, m, place.within, ap length cut.others, length-drop h p))
          ((λ n. flat_map-append f (take i cs) (cut.front ∷ []) n ++ take (j - h) (cut.others n))
          ∙ append_assoc ahead (f cut.front ++ []) (take (j - h) (drop h p))
          ∙ ap (λ a. ahead ++ (a ++ take (j - h) (drop h p))) (append-nil (f cut.front) ∙ cut.first)
          ∙ ap (λ a. ahead ++ a) (take_inside p h j (omega arith)))
          (ap (λ a. a ++ flat_map f (drop (suc i) cs)) (ap (drop (j - h)) cut.others ∙ drop_behind p h j (omega arith)))
