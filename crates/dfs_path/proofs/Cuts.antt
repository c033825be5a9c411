-- Pieces, by the place of the first separator.
use Rattle.std.proofs.Common.{◌≡◌, ℕ, ◌+◌, ◌-◌, ◌<◌, ◌≤◌, Bool, true, false, cond, not, List, [], ◌∷◌, length, take, drop, refl, sym, ap, subst, ◌∙◌, arith, length-drop}
use Rattle.std.specs.Prelude.{◌==◌, Option, Some, None, is_some, nat_lt}
use Rattle.std.specs.List.{slice_split, onto_first as onto, position_or_len, position}
use Rattle.std.proofs.lemmas.List.Splits.{slice_split_first}
use Rattle.std.proofs.lemmas.Option.{cond_some}
use Rattle.std.proofs.lemmas.Bool.{ltb-true, lt-ltb}
use Rattle.std.proofs.Math.Seq.{take-length}
use mathlib.Core.Bool.{true≢false}
use Rattle.dfs_record.specs.Pieces.{pieces, onto_first, before_pieces}
use Rattle.std.specs.Borrow.{Bor}
use Rattle.dfs_path.specs.Cut.{IsCut}

same_onto : (b : ℕ) (ps : List (List ℕ)) → onto_first b ps ≡ onto b ps
same_onto b [] = refl
same_onto b (p ∷ ps) = refl

pub split_of : (c : ℕ) (bs : List ℕ) → pieces c bs ≡ slice_split (λ b. b == c) bs
split_of c [] = refl
split_of c (b ∷ bs) = ap (before_pieces c b) (split_of c bs) ∙ ap (λ ps. cond (b == c) ([] ∷ slice_split (λ b. b == c) bs) ps) (same_onto b (slice_split (λ b. b == c) bs))

pieces_first : (c : ℕ) (bs : List ℕ) → position_or_len (λ b. b == c) bs < length bs
    → pieces c bs ≡ take (position_or_len (λ b. b == c) bs) bs ∷ pieces c (drop (position_or_len (λ b. b == c) bs + 1) bs)
pieces_first c bs h =
    split_of c bs ∙ slice_split_first (λ b. b == c) bs 0 h
    ∙ ap (λ ps. take (position_or_len (λ b. b == c) bs) bs ∷ ps) (sym (split_of c (drop (position_or_len (λ b. b == c) bs + 1) bs)))

pieces_none : (c : ℕ) (bs : List ℕ) → length bs ≤ position_or_len (λ b. b == c) bs → pieces c bs ≡ bs ∷ []
pieces_none c [] h = refl
pieces_none c (b ∷ bs) h = by (b == c) (pieces_none c bs) h
  where
    by : (t : Bool) → (length bs ≤ position_or_len (λ b. b == c) bs → pieces c bs ≡ bs ∷ []) → length (b ∷ bs) ≤ cond (not t) (1 + position_or_len (λ b. b == c) bs) 0
        → cond t ([] ∷ pieces c bs) (onto_first b (pieces c bs)) ≡ (b ∷ bs) ∷ []
    by true step k = absurd (omega (arith, k))
    by false step k = ap (onto_first b) (step (omega (arith, k)))

whole : (bs : List ℕ) (at : ℕ) → take (length bs - (at + 1)) (drop (at + 1) bs) ≡ drop (at + 1) bs
whole bs at = ap (λ n. take n (drop (at + 1) bs)) (sym (length-drop (at + 1) bs)) ∙ take-length (drop (at + 1) bs)

pub cut_some : (c at : ℕ) (bs : List ℕ) → Some at ≡ position (λ b. b == c) bs
    → pieces c bs ≡ take at bs ∷ pieces c (take (length bs - (at + 1)) (drop (at + 1) bs))
cut_some c at bs e =
    let found = cond_some (nat_lt (position_or_len (λ b. b == c) bs) (length bs)) (position_or_len (λ b. b == c) bs) at (sym e) in
    pieces_first c bs (ltb-true _ _ found.0)
    ∙ ap (λ n. take n bs ∷ pieces c (drop (n + 1) bs)) found.1
    ∙ ap (λ (l : List ℕ). take at bs ∷ pieces c l) (sym (whole bs at))

no_value : {A : Type 0} {x : A} → None ≡ Some x → ⊥
no_value e = true≢false (sym (ap is_some e))

reached : (a b n : ℕ) → None ≡ cond (nat_lt a b) (Some n) None → b ≤ a
reached a b n e = by (nat_lt a b) refl e
  where
    by : (t : Bool) → nat_lt a b ≡ t → None ≡ cond t (Some n) None → b ≤ a
    by true is f = absurd (no_value f)
    by false is f = grind (arith, is, lt-ltb)

pub cut_none : (c : ℕ) (bs : List ℕ) → None ≡ position (λ b. b == c) bs → pieces c bs ≡ bs ∷ []
cut_none c bs e = pieces_none c bs (reached (position_or_len (λ b. b == c) bs) (length bs) (position_or_len (λ b. b == c) bs) e)

-- there is a piece
some_before : (c b : ℕ) (ps : List (List ℕ)) → (p : List ℕ) × (qs : List (List ℕ)) × (before_pieces c b ps ≡ p ∷ qs)
some_before c b ps = by (b == c) ps
  where
    by : (t : Bool) (ps : List (List ℕ)) → (p : List ℕ) × (qs : List (List ℕ)) × (cond t ([] ∷ ps) (onto_first b ps) ≡ p ∷ qs)
    by true ps = ([], ps, refl)
    by false [] = (b ∷ [], [], refl)
    by false (p ∷ ps) = (b ∷ p, ps, refl)

pub some_piece : (c : ℕ) (bs : List ℕ) → (p : List ℕ) × (qs : List (List ℕ)) × (pieces c bs ≡ p ∷ qs)
some_piece c [] = ([], [], refl)
some_piece c (b ∷ bs) = some_before c b (pieces c bs)

-- the pieces that are cut from what stands behind a separator
abbrev pub pieces_behind : ℕ → Option (Bor (List ℕ)) → List (List ℕ)
pieces_behind c None = []
pieces_behind c (Some rest) = pieces c rest.now

pub cut_pieces : (c : ℕ) (bytes first : List ℕ) (behind : Option (Bor (List ℕ))) → IsCut c bytes first behind → pieces c bytes ≡ first ∷ pieces_behind c behind
cut_pieces c bytes first None cut = cut
cut_pieces c bytes first (Some rest) cut = cut.0

found_within : (c at : ℕ) (bs : List ℕ) → Some at ≡ position (λ b. b == c) bs → at < length bs
found_within c at bs e =
    let found = cond_some (nat_lt (position_or_len (λ b. b == c) bs) (length bs)) (position_or_len (λ b. b == c) bs) at (sym e) in
    subst (λ n. n < length bs) found.1 (ltb-true _ _ found.0)

pub cut_shorter : (c at : ℕ) (bs : List ℕ) → Some at ≡ position (λ b. b == c) bs → length (take (length bs - (at + 1)) (drop (at + 1) bs)) < length bs
cut_shorter c at bs e =
    let within = found_within c at bs e in
    subst (λ (l : List ℕ). length l < length bs) (sym (whole bs at)) (omega (arith, within, length-drop (at + 1) bs))
