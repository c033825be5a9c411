-- Lines as they are written word by word, and what stays where memory runs out.
use Rattle.std.proofs.Common.{◌≡◌, ℕ, ◌+◌, ◌<◌, ◌≤◌, List, [], ◌∷◌, ◌++◌, take, length, get_or, map, flat_map, sym, ◌∙◌, ap, arith, append_assoc}
use Rattle.std.specs.Prelude.{Result, Ok, Err, OnErr, Some, slice_get}
use Rattle.std.specs.List.{join_with_byte}
use Rattle.std.proofs.Math.Seq.{take-append_seam}
use Rattle.std.proofs.lemmas.List.{append-nil, take_more, take-take, length-append}
use Rattle.std.proofs.lemmas.Option.{slice_get_within, get_or_from_slice_get, slice_get-get_or}
use Rattle.std.proofs.lemmas.Grind.{flat_map-append}
use Rattle.dfs_reply.specs.Piece.{piece_text, Keeps}
use Rattle.dfs_reply.specs.declared.printing.Piece.{Piece}

-- a word that isn't the first one, with the space before it
abbrev pub behind : Piece → List ℕ
behind piece = 32 ∷ piece_text piece

pub joined : (word : List ℕ) (others : List Piece) → join_with_byte 32 (word ∷ map piece_text others) ≡ word ++ flat_map behind others
joined word [] = sym (append-nil word)
joined word (other ∷ others) = ap (λ (rest : List ℕ). word ++ 32 ∷ rest) (joined (piece_text other) others)

-- what is written for the elements before an index, and for the one there
pub one_more : {X : Type 0} (f : X → List ℕ) (old first : List ℕ) (xs : List X) (i : ℕ) (x : X) → slice_get xs i ≡ Some x → (old ++ (first ++ flat_map f (take i xs))) ++ f x ≡ old ++ (first ++ flat_map f (take (i + 1) xs))
one_more f old first xs i x at =
    let within = slice_get_within xs i x at in
    rw (take_more xs i x within, get_or_from_slice_get xs i x x at) (simp (flat_map-append f, append-nil, append_assoc))

-- the words before an index, a space, and the word there
pub word_more : (old first out mid new : List ℕ) (others : List Piece) (i : ℕ) (d : Piece) → i < length others → out ≡ old ++ (first ++ flat_map behind (take i others)) → mid ≡ out ++ 32 ∷ [] → new ≡ mid ++ piece_text (get_or others i d) → new ≡ old ++ (first ++ flat_map behind (take (i + 1) others))
word_more old first out mid new others i d within before space word =
    word ∙ ap (λ (t : List ℕ). t ++ piece_text (get_or others i d)) (space ∙ ap (λ (t : List ℕ). t ++ 32 ∷ []) before)
    ∙ append_assoc _ (32 ∷ []) (piece_text (get_or others i d))
    ∙ one_more behind old first others i (get_or others i d) (slice_get-get_or others i d within)

-- bytes that keep longer ones keep the front of these
pub keeps_front : {T E : Type 0} (r : Result T E) (longer old more new : List ℕ) → longer ≡ old ++ more → Keeps longer new → OnErr r (Keeps old new)
keeps_front (Ok x) longer old more new e kept = tt
keeps_front (Err x) longer old more new e kept =
    let within : length old ≤ length longer = omega (arith, ap length e, length-append old more) in
    sym (take-take (length old) (length longer) new within) ∙ ap (take (length old)) (kept ∙ e) ∙ take-append_seam old more
