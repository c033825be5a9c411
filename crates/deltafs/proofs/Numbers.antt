-- Which words are a number of creates.
use Rattle.std.proofs.Common.{◌≡◌, ℕ, ◌+◌, ◌-◌, ◌*◌, ◌^◌, ◌≤◌, ◌<◌, Bool, true, false, List, [], ◌∷◌, length, Some, None, Ok, Err, refl, sym, ap, subst, ◌∙◌, arith}
use Rattle.std.specs.Prelude.{fold, Option, Result, option_and_then, nat_le, nat_lt, ◌&&◌}
use Rattle.std.specs.List.{list_all}
use Rattle.std.specs.Str.Parse.{ParsesUnsigned}
use Rattle.std.proofs.lemmas.Bool.{le-leb, lt-ltb, leb-true, lt-leb}
use Rattle.std.proofs.lemmas.Str.Parse.{IsDigitsTest, FoldsDigits, numerals_by_fold, parse_digits}
use Rattle.std.specs.Result.{OkIff}
use mathlib.Core.Bool.{true≢false}
use Rattle.dfs_record.specs.Name.{is_between, is_digit}
use Rattle.dfs_record.specs.Pieces.{passing}
use Rattle.dfs_script.specs.Word.{worth, number_of}
use Rattle.deltafs.specs.Words.{creates_of}

both : (a b : Bool) → (a && b) ≡ true → (a ≡ true) × (b ≡ true)
both true b e = (refl, e)
both false b e = absurd (true≢false (sym e))

abbrev HasDigits : List ℕ → Type 0
HasDigits word = list_all is_digit word ≡ true

digits_test : IsDigitsTest HasDigits
digits_test = record {
  empty = refl;
  parts = λ c cs e. let k = both (is_digit c) (list_all is_digit cs) e in let m = both (nat_le 48 c) (nat_le c 57) k.0 in ((leb-true 48 c m.0, leb-true c 57 m.1), k.1);
  more = λ c cs k e i. (le-leb 48 c k.0 i && le-leb c 57 k.1 i) && e i;
}

-- what digits are worth behind a number
abbrev worth_after : ℕ → List ℕ → ℕ
worth_after n digits = fold (λ m d. 10 * m + (d - 48)) n digits

worth_folds : FoldsDigits worth_after
worth_folds = record {
  empty = λ n. refl;
  more = λ n c cs digit. let same : 10 * n + (c - 48) ≡ n * 10 + (c - 48) = omega arith in ap (λ m. worth_after m cs) same;
}

-- what `parse` answers at digits
abbrev IsRead : List ℕ → Type 0
IsRead word = (0 < length word) × (worth 10 word < 2 ^ 32)

module _ {E : Type 0} (word : List ℕ) (result : Result ℕ E) (parses : ParsesUnsigned 32 10 word result) (digits : HasDigits word) where
  answer : OkIff result (IsRead word) (worth 10 word)
  answer = parse_digits (numerals_by_fold HasDigits digits_test worth_after worth_folds) 32 word result parses digits

  pub parsed : (creates : ℕ) → result ≡ Ok creates → IsRead word × (creates ≡ worth 10 word)
  parsed creates is = subst (λ (r : Result ℕ E). OkIff r (IsRead word) (worth 10 word)) is answer

  pub unparsed : (fault : E) → result ≡ Err fault → IsRead word → ⊥
  unparsed fault is = subst (λ (r : Result ℕ E). OkIff r (IsRead word) (worth 10 word)) is answer

number_is : (word : List ℕ) → length word ≤ 20 → HasDigits word → 0 < length word → worth 10 word < 2 ^ 32 → number_of word ≡ Some (worth 10 word)
number_is word short digits some fits =
    let between : is_between 1 20 (length word) ≡ true = λ i. le-leb 1 (length word) some i && le-leb (length word) 20 short i in
    let below : nat_lt (worth 10 word) (2 ^ 64) ≡ true = lt-ltb (worth 10 word) (2 ^ 64) (omega (arith, fits)) in
    λ i. passing (between i && digits i && below i) (worth 10 word)

-- a number that is not above the most, and one that is
abbrev up_to_most : ℕ → Option ℕ
up_to_most n = passing (nat_le n 1000000) n

pub creates_some : (word : List ℕ) (creates : ℕ) → length word ≤ 20 → HasDigits word → IsRead word × (creates ≡ worth 10 word) → creates ≤ 1000000 → creates_of word ≡ Some creates
creates_some word creates short digits is most =
    ap (option_and_then up_to_most) (number_is word short digits is.0.0 is.0.1 ∙ ap Some (sym is.1)) ∙ ap (λ b. passing b creates) (le-leb creates 1000000 most)

pub creates_above : (word : List ℕ) (creates : ℕ) → length word ≤ 20 → HasDigits word → IsRead word × (creates ≡ worth 10 word) → 1000000 < creates → creates_of word ≡ None
creates_above word creates short digits is above =
    ap (option_and_then up_to_most) (number_is word short digits is.0.0 is.0.1 ∙ ap Some (sym is.1)) ∙ ap (λ b. passing b creates) (lt-leb creates 1000000 above)

-- no digit, or a number that is far too great
pub creates_none : (word : List ℕ) → (IsRead word → ⊥) → creates_of word ≡ None
creates_none [] none = refl
creates_none (c ∷ cs) none = read (is_between 1 20 (length (c ∷ cs)) && list_all is_digit (c ∷ cs) && nat_lt (worth 10 (c ∷ cs)) (2 ^ 64))
  where
    value : ℕ
    value = worth 10 (c ∷ cs)

    over : (b : Bool) → nat_le value 1000000 ≡ b → passing b value ≡ None
    over true is = absurd (none (omega arith, omega (arith, leb-true value 1000000 is)))
    over false is = refl

    read : (b : Bool) → option_and_then up_to_most (passing b value) ≡ None
    read true = over (nat_le value 1000000) refl
    read false = refl
