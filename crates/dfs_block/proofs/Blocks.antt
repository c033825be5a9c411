-- A count, and so many records.
use Rattle.std.proofs.Common.{◌≡◌, cond, ℕ, ◌<◌, ◌≤◌, ◌^◌, List, [], ◌∷◌, ◌++◌, length, take, drop, refl, sym, ap, subst, ◌∙◌, arith, length-append}
use Rattle.std.specs.Prelude.{Some, None}
use Rattle.std.specs.Int.{w16, to_be_bytes, from_be_bytes}
use Rattle.std.specs.List.{flat_map}
use Rattle.std.proofs.lemmas.Bool.{le-ltb}
use Rattle.std.proofs.lemmas.List.{append-nil, take-append-drop, take_at, drop_at}
use Rattle.std.proofs.lemmas.Nat.{from_be_bytes-to_be_bytes_2}
use Rattle.dfs_record.specs.declared.Key.{Key}
use Rattle.dfs_record.specs.declared.Record.{Record}
use Rattle.dfs_record.specs.Reading.{number_in}
use Rattle.dfs_record.specs.Record.{spelling, SpelledFirst, NothingSpelled}
use Rattle.dfs_record.proofs.Firsts.{spelled_first}
use Rattle.dfs_block.specs.Block.{first_key, IsBlock, HasOneList}
use Rattle.dfs_block.specs.Read.{AreRecords, EndAt, IsHeld}
use Rattle.dfs_block.specs.Front.{records_front}
use Rattle.dfs_block.proofs.Spelled.{at_least, first_is, same_record, front_spelled}

pub front_all : (count : ℕ) (bytes : List ℕ) (rs : List Record) → AreRecords count bytes rs → records_front count bytes ≡ rs
front_all count bytes rs are =
    ap (λ n. records_front n bytes) (sym are.number)
    ∙ ap (records_front (length rs)) (are.spelled ∙ sym (append-nil (flat_map spelling rs)))
    ∙ front_spelled rs [] are.valid

few : (bytes : List ℕ) (rs : List Record) → IsBlock bytes rs → length rs < 2 ^ 16
few bytes rs is = omega (arith, is.short, ap length is.spelled, length-append (to_be_bytes w16 (length rs)) (flat_map spelling rs), at_least rs)

pub long : (bytes : List ℕ) (rs : List Record) → IsBlock bytes rs → 2 ≤ length bytes
long bytes rs is = omega (arith, ap length is.spelled, length-append (to_be_bytes w16 (length rs)) (flat_map spelling rs))

-- the first two bytes are the count
count_is : (bytes : List ℕ) (rs : List Record) → IsBlock bytes rs → number_in w16 bytes ≡ Some (length rs)
count_is bytes rs is =
    ap (λ b. cond b None (Some (from_be_bytes w16 (take 2 bytes)))) (le-ltb (length bytes) 2 (long bytes rs is))
    ∙ ap (λ (l : List ℕ). Some (from_be_bytes w16 l)) (ap (take 2) is.spelled ∙ take_at (to_be_bytes w16 (length rs)) (flat_map spelling rs) 2 refl)
    ∙ ap Some (from_be_bytes-to_be_bytes_2 (length rs) (few bytes rs is))

some_is : (m n : ℕ) → Some m ≡ Some n → m ≡ n
some_is m n e = cc

pub inside : (count : ℕ) (bytes : List ℕ) (rs : List Record) → Some count ≡ number_in w16 bytes → IsBlock bytes rs → AreRecords count (drop 2 bytes) rs
inside count bytes rs read is = record {
  number = sym (some_is count (length rs) (read ∙ count_is bytes rs is));
  spelled = ap (drop 2) is.spelled ∙ drop_at (to_be_bytes w16 (length rs)) (flat_map spelling rs) 2 refl;
  rise = is.rise;
  valid = is.valid;
}

pub made : (count : ℕ) (bytes : List ℕ) (rs : List Record) → to_be_bytes w16 count ≡ take 2 bytes → 1 ≤ count → length bytes ≤ 4096 → AreRecords count (drop 2 bytes) rs → IsBlock bytes rs
made count bytes rs front some short are = record {
  some = omega (arith, some, are.number);
  spelled = sym (take-append-drop 2 bytes) ∙ ap (λ (l : List ℕ). l ++ drop 2 bytes) (sym front ∙ ap (to_be_bytes w16) (sym are.number)) ∙ ap (λ (l : List ℕ). to_be_bytes w16 (length rs) ++ l) are.spelled;
  short = short;
  rise = are.rise;
  valid = are.valid;
}

pub held : (count : ℕ) (bytes : List ℕ) (last : Key) → 1 ≤ count → EndAt count bytes last → IsHeld count bytes last (records_front count bytes)
held count bytes last some end =
    subst (IsHeld count bytes last) (sym (front_all count bytes end.records end.are)) (record { some = some; are = end.are; last_is = end.last_is })

pub first_of : (count : ℕ) (bytes : List ℕ) (rs : List Record) → 1 ≤ count → AreRecords count bytes rs → (r : Record) (len : ℕ) → SpelledFirst bytes r len → first_key rs ≡ Some r.key
first_of count bytes [] some are r len first = absurd (omega (arith, some, are.number))
first_of count bytes (x ∷ rs) some are r len first =
    let there = first_is bytes x (length (spelling x)) (subst (λ (l : List ℕ). SpelledFirst l x (length (spelling x))) (sym are.spelled) (spelled_first x (flat_map spelling rs) are.valid.0)) in
    ap (λ (y : Record). Some y.key) (same_record bytes x r (drop (length (spelling x)) bytes) (drop len bytes) there (first_is bytes r len first))

pub has_first : (count : ℕ) (bytes : List ℕ) (rs : List Record) → 1 ≤ count → AreRecords count bytes rs → NothingSpelled bytes → ⊥
has_first count bytes [] some are nothing = absurd (omega (arith, some, are.number))
has_first count bytes (x ∷ rs) some are nothing = nothing (length (spelling x)) x (subst (λ (l : List ℕ). SpelledFirst l x (length (spelling x))) (sym are.spelled) (spelled_first x (flat_map spelling rs) are.valid.0))

pub one_list : HasOneList
one_list bytes rs ss p q =
    let read = sym (count_is bytes rs p) in
    sym (front_all (length rs) (drop 2 bytes) rs (inside (length rs) bytes rs read p))
    ∙ front_all (length rs) (drop 2 bytes) ss (inside (length rs) bytes ss read q)
