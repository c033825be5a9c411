-- Numbers that are read from the front of bytes.
use Rattle.std.proofs.Common.{◌≡◌, ℕ, ◌+◌, ◌-◌, ◌≤◌, List, length, take, drop, ap, ◌∙◌, arith, length-drop}
use Rattle.std.specs.Prelude.{Some}
use Rattle.std.specs.Int.{w16, w32, w64, from_be_bytes}
use Rattle.std.proofs.lemmas.List.{take_rest}
use Rattle.std.proofs.lemmas.Bool.{le-ltb, cond-false}
use Rattle.byteorder.specs.Endian.{big_number}
use Rattle.byteorder.specs.Numbers.{big_from-take}
use Rattle.dfs_record.specs.Reading.{number_in}

pub from_two : (b : List ℕ) → from_be_bytes w16 b ≡ big_number 2 b
from_two b = omega arith

pub from_four : (b : List ℕ) → from_be_bytes w32 b ≡ big_number 4 b
from_four b = omega arith

pub from_eight : (b : List ℕ) → from_be_bytes w64 b ≡ big_number 8 b
from_eight b = omega arith

pub in_two : (l : List ℕ) → 2 ≤ length l → number_in w16 l ≡ Some (big_number 2 l)
in_two l long = cond-false _ _ _ (le-ltb (length l) 2 long) ∙ ap Some (from_two (take 2 l) ∙ big_from-take 0 2 2 l (omega arith))

pub in_four : (l : List ℕ) → 4 ≤ length l → number_in w32 l ≡ Some (big_number 4 l)
in_four l long = cond-false _ _ _ (le-ltb (length l) 4 long) ∙ ap Some (from_four (take 4 l) ∙ big_from-take 0 4 4 l (omega arith))

pub in_eight : (l : List ℕ) → 8 ≤ length l → number_in w64 l ≡ Some (big_number 8 l)
in_eight l long = cond-false _ _ _ (le-ltb (length l) 8 long) ∙ ap Some (from_eight (take 8 l) ∙ big_from-take 0 8 8 l (omega arith))

-- the same at a place
pub four_at : (bytes : List ℕ) (p n : ℕ) → p + 4 ≤ length bytes → Some n ≡ number_in w32 (take (length bytes - p) (drop p bytes)) → n ≡ big_number 4 (drop p bytes)
four_at bytes p n inside is =
    let read : Some n ≡ Some (big_number 4 (drop p bytes)) = is ∙ ap (number_in w32) (take_rest bytes p) ∙ in_four (drop p bytes) (omega (arith, length-drop p bytes)) in
    cc read

pub eight_at : (bytes : List ℕ) (p n : ℕ) → p + 8 ≤ length bytes → Some n ≡ number_in w64 (take (length bytes - p) (drop p bytes)) → n ≡ big_number 8 (drop p bytes)
eight_at bytes p n inside is =
    let read : Some n ≡ Some (big_number 8 (drop p bytes)) = is ∙ ap (number_in w64) (take_rest bytes p) ∙ in_eight (drop p bytes) (omega (arith, length-drop p bytes)) in
    cc read
