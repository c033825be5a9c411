-- The names of files, and that they differ.
use Rattle.std.proofs.Common.{◌≡◌, ◌≢◌, ◌<◌, ◌+◌, ◌*◌, ◌/◌, ◌%◌, ◌^◌, ℕ, zero, suc, List, [], ◌∷◌, ◌++◌, codes, refl, sym, ap, ◌∙◌, arith}
use Rattle.std.proofs.Math.Nat.{pow-suc}
use Rattle.std.proofs.lemmas.List.{append_cancel_left}
use Rattle.std.proofs.lemmas.Str.{digit_value-digit_char}
use Rattle.std.specs.Char.{digit_char, digit_value}
use Rattle.dfs_folder.specs.Names.{hex_digits, file_name}

pub name-of-log : (number : ℕ) → number ≢ 0 → file_name number ≡ codes "LOG." ++ hex_digits 8 number
name-of-log zero other = absurd (other refl)
name-of-log (suc n) other = refl

-- the number that digits to base 16 write, behind those that write `before`
abbrev value : ℕ → List ℕ → ℕ
value before [] = before
value before (c ∷ cs) = value (before * 16 + digit_value c) cs

value-push : (before : ℕ) (cs : List ℕ) (c : ℕ) → value before (cs ++ c ∷ []) ≡ value before cs * 16 + digit_value c
value-push before [] c = refl
value-push before (b ∷ cs) c = value-push (before * 16 + digit_value b) cs c

value-of-digits : (count number : ℕ) → number < 16 ^ count → value 0 (hex_digits count number) ≡ number
value-of-digits zero number below = omega (arith, below)
value-of-digits (suc count) number below =
    rw (value-push 0 (hex_digits count (number / 16)) (digit_char (number % 16))) (rw (value-of-digits count (number / 16) smaller) (rw (digit_value-digit_char (number % 16) (omega arith)) (omega arith)))
  where
    smaller : number / 16 < 16 ^ count
    smaller = omega (arith, below, pow-suc 16 count)

abbrev first_of : List ℕ → ℕ
first_of [] = 0
first_of (c ∷ cs) = c

registry-is-no-log : (digits : List ℕ) → codes "REGISTRY" ≢ codes "LOG." ++ digits
registry-is-no-log digits same =
    let firsts : 82 ≡ 76 = ap first_of same in
    absurd (omega (arith, firsts))

pub names-apart : (a b : ℕ) → a < 2 ^ 32 → b < 2 ^ 32 → file_name a ≡ file_name b → a ≡ b
names-apart zero zero below_a below_b same = refl
names-apart zero (suc b) below_a below_b same = absurd (registry-is-no-log _ same)
names-apart (suc a) zero below_a below_b same = absurd (registry-is-no-log _ (sym same))
names-apart (suc a) (suc b) below_a below_b same =
    let digits : hex_digits 8 (suc a) ≡ hex_digits 8 (suc b) = append_cancel_left (codes "LOG.") _ _ same in
    sym (value-of-digits 8 (suc a) below_a) ∙ ap (value 0) digits ∙ value-of-digits 8 (suc b) below_b
