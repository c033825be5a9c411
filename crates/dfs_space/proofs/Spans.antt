-- The keys of a directory are those between two bounds.
use Rattle.std.proofs.Common.{◌≡◌, ℕ, ◌+◌, ◌<◌, ◌≤◌, ◌^◌, nat_lt, Bool, true, false, not, cond, List, [], ◌∷◌, All, refl, ap, ◌∙◌, arith}
use Rattle.std.specs.Prelude.{Some, None, MatchOption, filter, ◌&&◌}
use Rattle.std.specs.declared.cmp.Ordering.{Ordering}
use Rattle.std.specs.declared.cmp.Ordering.TheVariants.{Less, Equal, Greater}
use Rattle.std.specs.declared.ops.Bound.TheVariants.{Included}
use Rattle.std.specs.Ordering.{nat_cmp, is_le, is_lt, is_eq, ordering_then}
use Rattle.std.specs.Cmp.Lexicographic.{slice_cmp}
use Rattle.std.specs.BTreeMap.Range.{range_contains, entries_between}
use Rattle.std.proofs.lemmas.Bool.Decides.{nat_tests}
use Rattle.std.proofs.lemmas.List.Elements.{All-head, All-tail}
use Rattle.dfs_record.specs.declared.DirId.{DirId}
use Rattle.dfs_record.specs.declared.Key.{Key}
use Rattle.dfs_record.specs.declared.Entry.{Entry}
use Rattle.dfs_record.specs.Key.{dir_cmp, key_cmp}
use Rattle.dfs_record.specs.Name.{IsName, is_name_byte}
use Rattle.dfs_record.specs.Record.{IsId}
use Rattle.dfs_space.specs.Children.{is_same_dir, is_in}
use Rattle.dfs_space.specs.PlainSpace.{IsStored}
use Rattle.dfs_space.specs.Span.{first_key, next_dir, end_of, FirstKeyIsLeast, NextDirIsLeast, NoneIsAbove, IsNextDir, SpanIsDir}

-- what lies from one identity up to the next one is the identity itself
one_counter : (j c x y : ℕ) → (is_le (ordering_then (nat_cmp j x) (nat_cmp c y)) && not (is_le (ordering_then (nat_cmp j x) (nat_cmp (c + 1) y)))) ≡ is_eq (ordering_then (nat_cmp x j) (nat_cmp y c))
one_counter j c x y = grind (arith, nat_tests)

one_job : (j c x y : ℕ) → y ≤ c → (is_le (ordering_then (nat_cmp j x) (nat_cmp c y)) && not (is_le (ordering_then (nat_cmp (j + 1) x) (nat_cmp 0 y)))) ≡ is_eq (ordering_then (nat_cmp x j) (nat_cmp y c))
one_job j c x y h = grind (arith, nat_tests)

the_last : (j c x y : ℕ) → x ≤ j → y ≤ c → (is_le (ordering_then (nat_cmp j x) (nat_cmp c y)) && true) ≡ is_eq (ordering_then (nat_cmp x j) (nat_cmp y c))
the_last j c x y g h = grind (arith, nat_tests)

-- where names come last, one that is not below another leaves it to the directories
led : (d n : Ordering) → is_le n ≡ true → is_le (ordering_then d n) ≡ is_le d
led Less n h = refl
led Equal n h = h
led Greater n h = refl

middle : (p q r : Bool) → (p && q && r) ≡ true → q ≡ true
middle p true r h = refl
middle true false r h = h
middle false false r h = h

first_byte : (b : ℕ) (rest : Bool) → (is_name_byte b && rest) ≡ true → 1 ≤ b
first_byte b rest h = grind (arith, nat_tests)

from_one : (b : ℕ) (o : Ordering) → 1 ≤ b → is_le o ≡ true → is_le (ordering_then (nat_cmp 1 b) o) ≡ true
from_one b o low h = grind (arith, nat_tests)

nothing_first : (bs : List ℕ) → is_le (slice_cmp nat_cmp [] bs) ≡ true
nothing_first [] = refl
nothing_first (b ∷ bs) = refl

-- no name is below the name of one byte 1
least_name : (name : List ℕ) → IsName name → is_le (slice_cmp nat_cmp (1 ∷ []) name) ≡ true
least_name [] valid = absurd (cc valid)
least_name (b ∷ bs) valid = from_one b _ (first_byte b _ (middle _ _ _ valid)) (nothing_first bs)

between : (p p' q q' r : Bool) → p ≡ p' → q ≡ q' → (p' && not q') ≡ r → (p && not q) ≡ r
between p p' q q' r e f g = ap (λ b. b && not q) e ∙ ap (λ b. p' && not b) f ∙ g

pub in_span : SpanIsDir
in_span dir key id valid =
    let least = least_name key.name valid.name in
    let x : ℕ = key.parent.job in
    let y : ℕ = key.parent.counter in
    let low : x < 4294967296 = valid.parent.0 in
    let high : y < 4294967296 = valid.parent.1 in
    elim (nat_lt dir.counter 4294967295) as (λ b. nat_lt dir.counter 4294967295 ≡ b
    → range_contains key_cmp (Included (first_key dir)) (end_of (cond b (Some (record { job = dir.job; counter = dir.counter + 1 })) (cond (nat_lt dir.job 4294967295) (Some (record { job = dir.job + 1; counter = 0 })) None))) key ≡ is_same_dir key.parent dir) [
      | true ↦ λ t. between _ _ _ _ _ (led _ _ least) (led _ _ least) (one_counter dir.job dir.counter x y)
      | false ↦ λ t.
          let last : y ≤ dir.counter = grind (arith, nat_tests) in
          elim (nat_lt dir.job 4294967295) as (λ b. nat_lt dir.job 4294967295 ≡ b
          → range_contains key_cmp (Included (first_key dir)) (end_of (cond b (Some (record { job = dir.job + 1; counter = 0 })) None)) key ≡ is_same_dir key.parent dir) [
            | true ↦ λ u. between _ _ _ _ _ (led _ _ least) (led _ _ least) (one_job dir.job dir.counter x y last)
            | false ↦ λ u. ap (λ b. b && true) (led _ _ least) ∙ the_last dir.job dir.counter x y (grind (arith, nat_tests)) last
          ] refl
    ] refl

pub span_is : (dir : DirId) (es : List (Key × Entry)) → IsId dir → All IsStored es
    → entries_between key_cmp (Included (first_key dir)) (end_of (next_dir dir)) es ≡ filter (is_in dir) es
span_is dir [] id all = refl
span_is dir (e ∷ es) id all =
    let first : IsStored e = All-head IsStored e es all in
    let rest = span_is dir es id (All-tail IsStored e es all) in
    ap (λ b. cond b (e ∷ entries_between key_cmp (Included (first_key dir)) (end_of (next_dir dir)) es) (entries_between key_cmp (Included (first_key dir)) (end_of (next_dir dir)) es)) (in_span dir e.0 id first.key)
    ∙ ap (λ r. cond (is_in dir e) (e ∷ r) r) rest

same_place : (j c : ℕ) → is_le (ordering_then (nat_cmp j j) (nat_cmp c c)) ≡ true
same_place j c = grind (arith, nat_tests)

pub first_is_least : FirstKeyIsLeast
first_is_least dir id = record {
  valid = record { parent = id; name = refl };
  inside = refl;
  least = λ other valid same. led (dir_cmp dir other.parent) _ (least_name other.name valid.name) ∙ ap (λ d. is_le (dir_cmp dir d)) same ∙ same_place dir.job dir.counter;
}

-- the identities above one, by its two numbers
counter_above : (j c : ℕ) → is_lt (ordering_then (nat_cmp j j) (nat_cmp c (c + 1))) ≡ true
counter_above j c = grind (arith, nat_tests)

counter_least : (j c x y : ℕ) → is_lt (ordering_then (nat_cmp j x) (nat_cmp c y)) ≡ true → is_le (ordering_then (nat_cmp j x) (nat_cmp (c + 1) y)) ≡ true
counter_least j c x y above = grind (arith, nat_tests)

job_above : (j c : ℕ) → is_lt (ordering_then (nat_cmp j (j + 1)) (nat_cmp c 0)) ≡ true
job_above j c = grind (arith, nat_tests)

job_least : (j c x y : ℕ) → y ≤ c → is_lt (ordering_then (nat_cmp j x) (nat_cmp c y)) ≡ true → is_le (ordering_then (nat_cmp (j + 1) x) (nat_cmp 0 y)) ≡ true
job_least j c x y last above = grind (arith, nat_tests)

none_above : (j c x y : ℕ) → x ≤ j → y ≤ c → is_lt (ordering_then (nat_cmp j x) (nat_cmp c y)) ≡ false
none_above j c x y g h = grind (arith, nat_tests)

-- no number of 32 bits is above the greatest one
none_greater : (n m : ℕ) → m < 2 ^ 32 → nat_lt n 4294967295 ≡ false → m ≤ n
none_greater n m fits greatest = grind (arith, nat_tests)

pub next_is_least : NextDirIsLeast
next_is_least dir id = by (nat_lt dir.counter 4294967295) refl (nat_lt dir.job 4294967295) refl
  where
    by : (b : Bool) → nat_lt dir.counter 4294967295 ≡ b → (d : Bool) → nat_lt dir.job 4294967295 ≡ d
        → MatchOption (cond b (Some (record { job = dir.job; counter = dir.counter + 1 })) (cond d (Some (record { job = dir.job + 1; counter = 0 })) None)) (NoneIsAbove dir) (IsNextDir dir)
    by true small d is = record {
      valid = (id.0, grind (arith, nat_tests));
      above = counter_above dir.job dir.counter;
      least = λ other valid above. counter_least dir.job dir.counter other.job other.counter above;
    }
    by false great true small = record {
      valid = (grind (arith, nat_tests), omega arith);
      above = job_above dir.job dir.counter;
      least = λ other valid above. job_least dir.job dir.counter other.job other.counter (none_greater dir.counter other.counter valid.1 great) above;
    }
    by false great false greatest = λ other valid. none_above dir.job dir.counter other.job other.counter (none_greater dir.job other.job valid.0 greatest) (none_greater dir.counter other.counter valid.1 great)
