-- The printed form of bytes, and the bytes that a word means, as percent_encoding has them.
use Rattle.std.proofs.Common.{◌≡◌, ◌<◌, ◌≤◌, ◌+◌, ◌*◌, ℕ, zero, suc, Bool, true, false, cond, List, [], ◌∷◌, ◌++◌, refl, sym, ap, ◌∙◌, subst, arith, inl, inr, All}
use Rattle.std.specs.Prelude.{◌==◌, ◌&&◌, ◌⊎◌, ◌||◌, nat_lt, Option, Some, None, is_some, option_map, option_and_then}
use Rattle.std.specs.Char.{digit_value}
use Rattle.std.specs.Str.{bytes_eq}
use Rattle.std.proofs.lemmas.Bool.{ltb-true, ltb-false, eqb-true}
use Rattle.std.proofs.lemmas.List.Elements.{All-head, All-tail}
use Rattle.std.proofs.lemmas.Slice.Eq.{bytes_eq-Decides}
use mathlib.Core.Bool.{true≢false}
use Rattle.percent_encoding.specs.AsciiSet.{should_percent_encode}
use Rattle.percent_encoding.specs.Percent.{encode_byte, percent_encode, percent_encode_byte, percent_decode}
use Rattle.percent_encoding.proofs.PercentLemmas.{IsByte, percent_decode-nil, percent_decode_escape, percent_decode_not_percent}
use Rattle.dfs_record.specs.Name.{is_between}
use Rattle.dfs_path.specs.declared.escape.TheConstants.{ESCAPED}
use Rattle.dfs_path.specs.Escape.{hex_value, hex_pair, plain_byte, byte_before, unescaped, printed_byte, escaped}

-- a test of each number below a bound
unfoldable pub passes_below : ℕ → (ℕ → Bool) → Bool
passes_below zero test = true
passes_below (suc n) test = test n && passes_below n test

both : (a b : Bool) → (a && b) ≡ true → (a ≡ true) × (b ≡ true)
both true b e = (refl, e)
both false b e = absurd (true≢false (sym e))

below_or_is : (i n : ℕ) → i < suc n → (i < n) ⊎ (i ≡ n)
below_or_is i n h = by (nat_lt i n) refl
  where
    by : (t : Bool) → nat_lt i n ≡ t → (i < n) ⊎ (i ≡ n)
    by true e = inl (ltb-true i n e)
    by false e = let least : n ≤ i = ltb-false i n e in inr (omega arith)

pub pass : (n : ℕ) (test : ℕ → Bool) → passes_below n test ≡ true → (i : ℕ) → i < n → test i ≡ true
unfolding passes_below
pass zero test e i h = absurd (omega (arith, h))
pass (suc n) test e i h =
    elim (below_or_is i n h) [
      | inl less ↦ pass n test (both (test n) (passes_below n test) e).1 i less
      | inr same ↦ ap test same ∙ (both (test n) (passes_below n test) e).0
    ]

one_byte_table : passes_below 256 (λ b. bytes_eq (encode_byte ESCAPED b) (printed_byte b)) ≡ true
unfolding passes_below should_percent_encode percent_encode_byte
one_byte_table = refl

one_byte : (b : ℕ) → b < 256 → encode_byte ESCAPED b ≡ printed_byte b
one_byte b h = (bytes_eq-Decides (encode_byte ESCAPED b) (printed_byte b)).0 (pass 256 (λ b. bytes_eq (encode_byte ESCAPED b) (printed_byte b)) one_byte_table b h)

-- what the crate prints is the printed form
pub encoded : (bytes : List ℕ) → All IsByte bytes → percent_encode ESCAPED bytes ≡ escaped bytes
unfolding percent_encode
encoded [] small = refl
encoded (b ∷ bytes) small =
    ap (λ front. front ++ percent_encode ESCAPED bytes) (one_byte b (All-head IsByte b bytes small))
    ∙ ap (λ rest. printed_byte b ++ rest) (encoded bytes (All-tail IsByte b bytes small))

-- ---- reading

agrees : Option ℕ → ℕ → Bool
agrees None digit = true
agrees (Some value) digit = (value == digit) && nat_lt value 16

hex_table : passes_below 256 (λ b. agrees (hex_value b) (digit_value b)) ≡ true
unfolding passes_below agrees
hex_table = refl

agreed : (o : Option ℕ) (digit : ℕ) → agrees o digit ≡ true → is_some o ≡ true → (o ≡ Some digit) × (digit < 16)
unfolding agrees
agreed None digit e h = absurd (true≢false (sym h))
agreed (Some value) digit e h =
    let parts = both (value == digit) (nat_lt value 16) e in
    let same = eqb-true value digit parts.0 in
    (ap Some same, subst (λ n. n < 16) same (ltb-true value 16 parts.1))

hex_is_digit : (b : ℕ) → b < 256 → is_some (hex_value b) ≡ true → (hex_value b ≡ Some (digit_value b)) × (digit_value b < 16)
hex_is_digit b h = agreed (hex_value b) (digit_value b) (pass 256 (λ b. agrees (hex_value b) (digit_value b)) hex_table b h)

first_there : (o : Option ℕ) (r : Option (List ℕ)) → is_some (byte_before o r) ≡ true → (is_some o ≡ true) × (is_some r ≡ true)
first_there None r h = absurd (true≢false (sym h))
first_there (Some v) None h = absurd (true≢false (sym h))
first_there (Some v) (Some bs) h = (refl, refl)

pair_there : (o p : Option ℕ) → is_some (option_and_then (λ high. option_map (λ low. 16 * high + low) p) o) ≡ true → (is_some o ≡ true) × (is_some p ≡ true)
pair_there None p h = absurd (true≢false (sym h))
pair_there (Some high) None h = absurd (true≢false (sym h))
pair_there (Some high) (Some low) h = (refl, refl)

-- a plain byte is itself, and no percent sign
plain_is : (b : ℕ) → is_some (plain_byte b) ≡ true → plain_byte b ≡ Some b
plain_is b = by (is_between 33 126 b && (nat_lt b 37 || nat_lt 37 b))
  where
    by : (t : Bool) → is_some (cond t (Some b) None) ≡ true → cond t (Some b) None ≡ Some b
    by true h = refl
    by false h = absurd (true≢false (sym h))

plain_differs : (b : ℕ) → is_some (plain_byte b) ≡ true → b ≡ 37 → ⊥
plain_differs b h e = true≢false (sym h ∙ ap (λ n. is_some (plain_byte n)) e)

Decodes : List ℕ → Type 0
Decodes w = is_some (unescaped w) ≡ true → unescaped w ≡ Some (percent_decode w)

plain_decoded : (b : ℕ) (w : List ℕ) → Decodes w → is_some (byte_before (plain_byte b) (unescaped w)) ≡ true → byte_before (plain_byte b) (unescaped w) ≡ Some (percent_decode (b ∷ w))
unfolding Decodes
plain_decoded b w rest h =
    let there = first_there (plain_byte b) (unescaped w) h in
    ap (λ o. byte_before o (unescaped w)) (plain_is b there.0)
    ∙ ap (option_map (λ bs. b ∷ bs)) (rest there.1)
    ∙ ap Some (sym (percent_decode_not_percent b w (plain_differs b there.0)))

escape_decoded : (b c d : ℕ) (w : List ℕ) → b ≡ 37 → c < 256 → d < 256 → Decodes w → is_some (byte_before (hex_pair c d) (unescaped w)) ≡ true
    → byte_before (hex_pair c d) (unescaped w) ≡ Some (percent_decode (b ∷ c ∷ d ∷ w))
unfolding Decodes
escape_decoded b c d w percent c_small d_small rest h =
    let there = first_there (hex_pair c d) (unescaped w) h in
    let digits = pair_there (hex_value c) (hex_value d) there.0 in
    let high = hex_is_digit c c_small digits.0 in
    let low = hex_is_digit d d_small digits.1 in
    ap (λ o. byte_before (option_and_then (λ high. option_map (λ low. 16 * high + low) (hex_value d)) o) (unescaped w)) high.0
    ∙ ap (λ o. byte_before (option_map (λ low. 16 * digit_value c + low) o) (unescaped w)) low.0
    ∙ ap (option_map (λ bs. (16 * digit_value c + digit_value d) ∷ bs)) (rest there.1)
    ∙ ap Some (sym (percent_decode_escape b c d w percent high.1 low.1))

three_decoded : (b c d : ℕ) (w : List ℕ) → c < 256 → d < 256 → Decodes w → Decodes (c ∷ d ∷ w) → Decodes (b ∷ c ∷ d ∷ w)
unfolding Decodes
three_decoded b c d w c_small d_small escape plain = by (b == 37) refl
  where
    by : (t : Bool) → (b == 37) ≡ t → is_some (cond t (byte_before (hex_pair c d) (unescaped w)) (byte_before (plain_byte b) (unescaped (c ∷ d ∷ w)))) ≡ true
        → cond t (byte_before (hex_pair c d) (unescaped w)) (byte_before (plain_byte b) (unescaped (c ∷ d ∷ w))) ≡ Some (percent_decode (b ∷ c ∷ d ∷ w))
    by true e h = escape_decoded b c d w (eqb-true b 37 e) c_small d_small escape h
    by false e h = plain_decoded b (c ∷ d ∷ w) plain h

decodes : (w : List ℕ) → All IsByte w → Decodes w
unfolding Decodes
decodes [] small h = ap Some (sym percent_decode-nil)
decodes (b ∷ []) small h = plain_decoded b [] (λ k. ap Some (sym percent_decode-nil)) h
decodes (b ∷ c ∷ []) small h = plain_decoded b (c ∷ []) (decodes (c ∷ []) (All-tail IsByte b (c ∷ []) small)) h
decodes (b ∷ c ∷ d ∷ w) small h =
    let behind = All-tail IsByte b (c ∷ d ∷ w) small in
    let rest = All-tail IsByte c (d ∷ w) behind in
    three_decoded b c d w (All-head IsByte c (d ∷ w) behind) (All-head IsByte d w rest)
    (decodes w (All-tail IsByte d w rest)) (decodes (c ∷ d ∷ w) behind) h

-- what the crate decodes is what the word means
pub decoded : (w : List ℕ) → All IsByte w → is_some (unescaped w) ≡ true → unescaped w ≡ Some (percent_decode w)
unfolding Decodes
decoded w small h = decodes w small h
