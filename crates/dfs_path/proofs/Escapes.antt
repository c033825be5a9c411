-- Escaped words, byte by byte.
use Rattle.std.proofs.Common.{◌≡◌, ◌<◌, ◌≤◌, ◌+◌, ◌*◌, ◌-◌, ℕ, Bool, true, false, cond, List, [], ◌∷◌, length, take, drop, get_or, length-drop, refl, sym, ap, ◌∙◌, subst, arith}
use Rattle.std.specs.Prelude.{◌==◌, Option, Some, None, is_some, option_map}
use Rattle.std.proofs.lemmas.Bool.{eqb-true}
use Rattle.std.proofs.lemmas.List.{take_all}
use mathlib.Core.Bool.{true≢false}
use Rattle.dfs_path.specs.Escape.{hex_value, hex_pair, plain_byte, byte_before, unescaped}

byte_there : (o : Option ℕ) (r : Option (List ℕ)) → is_some o ≡ true → is_some (byte_before o r) ≡ is_some r
byte_there None r h = absurd (true≢false (sym h))
byte_there (Some v) None h = refl
byte_there (Some v) (Some bs) h = refl

pair_there : (c d : ℕ) → is_some (hex_value c) ≡ true → is_some (hex_value d) ≡ true → is_some (hex_pair c d) ≡ true
pair_there c d h k = by (hex_value c) (hex_value d) h k
  where
    by : (o p : Option ℕ) → is_some o ≡ true → is_some p ≡ true → is_some (elim o [ None ↦ None | Some high ↦ option_map (λ low. 16 * high + low) p ]) ≡ true
    by None p h k = absurd (true≢false (sym h))
    by (Some high) None h k = absurd (true≢false (sym k))
    by (Some high) (Some low) h k = refl

-- the percent sign is no plain byte
pub no_percent : (b : ℕ) → is_some (plain_byte b) ≡ true → (b == 37) ≡ false
no_percent b h = by (b == 37) refl
  where
    by : (t : Bool) → (b == 37) ≡ t → t ≡ false
    by false e = refl
    by true e = absurd (true≢false (sym h ∙ ap (λ n. is_some (plain_byte n)) (eqb-true b 37 e)))

behind_plain : (w : List ℕ) → 0 < length w → is_some (plain_byte (get_or w 0 0)) ≡ true → is_some (unescaped w) ≡ is_some (unescaped (drop 1 w))
behind_plain [] h p = absurd (omega (arith, h))
behind_plain (b ∷ []) h p = byte_there (plain_byte b) (Some []) p
behind_plain (b ∷ c ∷ []) h p = byte_there (plain_byte b) (unescaped (c ∷ [])) p
behind_plain (b ∷ c ∷ d ∷ bs) h p =
    ap (λ t. is_some (cond t (byte_before (hex_pair c d) (unescaped bs)) (byte_before (plain_byte b) (unescaped (c ∷ d ∷ bs))))) (no_percent b p)
    ∙ byte_there (plain_byte b) (unescaped (c ∷ d ∷ bs)) p

behind_escape : (w : List ℕ) → 3 ≤ length w → get_or w 0 0 ≡ 37 → is_some (hex_value (get_or w 1 0)) ≡ true → is_some (hex_value (get_or w 2 0)) ≡ true
    → is_some (unescaped w) ≡ is_some (unescaped (drop 3 w))
behind_escape [] h e p q = absurd (omega (arith, h))
behind_escape (b ∷ []) h e p q = absurd (omega (arith, h))
behind_escape (b ∷ c ∷ []) h e p q = absurd (omega (arith, h))
behind_escape (b ∷ c ∷ d ∷ bs) h e p q =
    ap (λ n. is_some (unescaped (n ∷ c ∷ d ∷ bs))) e ∙ byte_there (hex_pair c d) (unescaped bs) (pair_there c d p q)

-- what stands behind the first n bytes, as the code cuts it
cut_behind : (n : ℕ) (w : List ℕ) → 1 ≤ n → n ≤ length w → is_some (unescaped w) ≡ is_some (unescaped (drop n w))
    → (is_some (unescaped w) ≡ is_some (unescaped (take (length w - n) (drop n w)))) × (length (take (length w - n) (drop n w)) < length w)
cut_behind n w h k e =
    let whole : take (length w - n) (drop n w) ≡ drop n w = take_all (length w - n) (drop n w) (omega (arith, length-drop n w)) in
    (e ∙ ap (λ l. is_some (unescaped l)) (sym whole), subst (λ l. length l < length w) (sym whole) (omega (arith, length-drop n w)))

pub cut_behind_plain : (w : List ℕ) → 0 < length w → is_some (plain_byte (get_or w 0 0)) ≡ true
    → (is_some (unescaped w) ≡ is_some (unescaped (take (length w - 1) (drop 1 w)))) × (length (take (length w - 1) (drop 1 w)) < length w)
cut_behind_plain w h p = cut_behind 1 w (omega arith) (omega (arith, h)) (behind_plain w h p)

pub cut_behind_escape : (w : List ℕ) → 3 ≤ length w → get_or w 0 0 ≡ 37 → is_some (hex_value (get_or w 1 0)) ≡ true → is_some (hex_value (get_or w 2 0)) ≡ true
    → (is_some (unescaped w) ≡ is_some (unescaped (take (length w - 3) (drop 3 w)))) × (length (take (length w - 3) (drop 3 w)) < length w)
cut_behind_escape w h e p q = cut_behind 3 w (omega arith) h (behind_escape w h e p q)

pub none_of : {A : Type 0} (o : Option A) → is_some o ≡ false → o ≡ None
none_of None h = refl
none_of (Some x) h = absurd (true≢false h)
