-- What a word means is a path.
use Rattle.std.proofs.Common.{◌≡◌, Bool, true, false, cond, ℕ, List, [], ◌∷◌, refl, sym, ap, subst}
use Rattle.std.specs.Prelude.{map, is_some, Option, Some, None, option_and_then, codes}
use Rattle.std.specs.Str.{bytes_eq}
use mathlib.Core.Bool.{true≢false}
use Rattle.dfs_record.specs.declared.Name.{Name}
use Rattle.dfs_record.specs.Pieces.{pieces, each, passing}
use Rattle.dfs_path.specs.Path.{is_path, IsPath, name_of, path_of_pieces, path_of}

no_value : {A : Type 0} {x : A} → None ≡ Some x → ⊥
no_value e = true≢false (sym (ap is_some e))

value_or : {A : Type 0} → A → Option A → A
value_or d None = d
value_or d (Some x) = x

same_value : {A : Type 0} {x y : A} → Some x ≡ Some y → x ≡ y
unfolding value_or
same_value {x = x} e = ap (value_or x) e

passed_is_path : (names path : List Name) → passing (is_path names) names ≡ Some path → IsPath path
passed_is_path names path = by (is_path names) refl
  where
    by : (t : Bool) → is_path names ≡ t → cond t (Some names) None ≡ Some path → IsPath path
    by true valid e = subst (λ l. IsPath l) (same_value e) valid
    by false valid e = absurd (no_value e)

joined_is_path : (names : Option (List Name)) (path : List Name) → option_and_then (λ names. passing (is_path names) names) names ≡ Some path → IsPath path
joined_is_path None path e = absurd (no_value e)
joined_is_path (Some names) path e = passed_is_path names path e

pieces_are_path : (ps : List (List ℕ)) (path : List Name) → path_of_pieces ps ≡ Some path → IsPath path
pieces_are_path [] path e = absurd (no_value e)
pieces_are_path ((b ∷ bs) ∷ ps) path e = absurd (no_value e)
pieces_are_path ([] ∷ []) path e = absurd (no_value e)
pieces_are_path ([] ∷ p ∷ ps) path e = joined_is_path (each (map name_of (p ∷ ps))) path e

pub path_is_valid : (word : List ℕ) (path : List Name) → path_of word ≡ Some path → IsPath path
path_is_valid word path = by (bytes_eq word (codes "/"))
  where
    by : (t : Bool) → cond t (Some []) (path_of_pieces (pieces 47 word)) ≡ Some path → IsPath path
    by true e = subst (λ l. IsPath l) (same_value e) refl
    by false e = pieces_are_path (pieces 47 word) path e
