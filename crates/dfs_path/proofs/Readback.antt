-- What is printed reads back.
use Rattle.std.proofs.Common.{◌≡◌, ℕ, Bool, true, false, cond, List, [], ◌∷◌, ◌++◌, refl, sym, ap, ◌∙◌}
use Rattle.std.specs.Prelude.{◌==◌, ◌||◌, ◌/◌, ◌%◌, nat_le, Option, Some, None, is_some, option_map}
use Rattle.std.proofs.lemmas.Bool.{eqb-true}
use Rattle.std.proofs.lemmas.List.Elements.{All-head, All-tail}
use mathlib.Core.Bool.{true≢false}
use Rattle.dfs_path.specs.Escape.{hex_digit, hex_pair, plain_byte, byte_before, unescaped, printed_byte, escaped, IsByte, PrintedReadsBack}
use Rattle.dfs_path.proofs.Escapes.{no_percent}
use Rattle.dfs_path.proofs.Printed.{passes_below, pass}

is_value : Option ℕ → ℕ → Bool
is_value None b = false
is_value (Some value) b = value == b

value_is : (o : Option ℕ) (b : ℕ) → is_value o b ≡ true → o ≡ Some b
unfolding is_value
value_is None b e = absurd (true≢false (sym e))
value_is (Some value) b e = ap Some (eqb-true value b e)

is_escaped : ℕ → Bool
is_escaped b = nat_le b 32 || b == 37 || nat_le 127 b

reads_back : ℕ → Bool
reads_back b = cond (is_escaped b) (is_value (hex_pair (hex_digit (b / 16)) (hex_digit (b % 16))) b) (is_value (plain_byte b) b)

table : passes_below 256 reads_back ≡ true
unfolding passes_below reads_back is_escaped is_value
table = refl

plain_first : (b : ℕ) (rest : List ℕ) → plain_byte b ≡ Some b → unescaped (b ∷ rest) ≡ option_map (λ bs. b ∷ bs) (unescaped rest)
plain_first b [] e = ap (λ o. byte_before o (Some [])) e
plain_first b (c ∷ []) e = ap (λ o. byte_before o (unescaped (c ∷ []))) e
plain_first b (c ∷ d ∷ rest) e =
    ap (λ t. cond t (byte_before (hex_pair c d) (unescaped rest)) (byte_before (plain_byte b) (unescaped (c ∷ d ∷ rest)))) (no_percent b (ap is_some e))
    ∙ ap (λ o. byte_before o (unescaped (c ∷ d ∷ rest))) e

printed_first : (b : ℕ) (rest : List ℕ) → reads_back b ≡ true → unescaped (printed_byte b ++ rest) ≡ option_map (λ bs. b ∷ bs) (unescaped rest)
unfolding reads_back is_escaped
printed_first b rest = by (is_escaped b)
  where
    by : (t : Bool) → cond t (is_value (hex_pair (hex_digit (b / 16)) (hex_digit (b % 16))) b) (is_value (plain_byte b) b) ≡ true
        → unescaped (cond t (37 ∷ hex_digit (b / 16) ∷ hex_digit (b % 16) ∷ []) (b ∷ []) ++ rest) ≡ option_map (λ bs. b ∷ bs) (unescaped rest)
    by true e = ap (λ o. byte_before o (unescaped rest)) (value_is (hex_pair (hex_digit (b / 16)) (hex_digit (b % 16))) b e)
    by false e = plain_first b rest (value_is (plain_byte b) b e)

pub printed_reads_back : PrintedReadsBack
printed_reads_back [] small = refl
printed_reads_back (b ∷ bytes) small =
    printed_first b (escaped bytes) (pass 256 reads_back table b (All-head IsByte b bytes small))
    ∙ ap (option_map (λ bs. b ∷ bs)) (printed_reads_back bytes (All-tail IsByte b bytes small))
