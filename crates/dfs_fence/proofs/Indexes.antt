-- A count, and so many fences.
use Rattle.std.proofs.Common.{◌≡◌, cond, ℕ, ◌*◌, ◌≤◌, true, List, [], ◌∷◌, ◌++◌, length, take, drop, refl, sym, ap, subst, ◌∙◌, arith, length-append}
use Rattle.std.specs.Prelude.{Option, Some, None, Result, Ok, Err, IfOk, IfSome, IsSome, IsSomeAnd, IsTrue, ◌↔◌, nat_le}
use Rattle.std.specs.Int.{w16, w32, w64, to_be_bytes, from_be_bytes}
use Rattle.std.specs.List.{AllByRecursion, flat_map}
use Rattle.std.proofs.lemmas.Bool.{le-ltb, le-leb}
use Rattle.std.proofs.lemmas.List.{append-nil, take-append-drop, take_at, drop_at}
use Rattle.std.proofs.lemmas.Nat.{from_be_bytes-to_be_bytes_4}
use Rattle.dfs_record.specs.Name.{is_between}
use Rattle.dfs_record.specs.Reading.{number_in}
use Rattle.dfs_record.specs.Record.{key_bytes}
use Rattle.dfs_record.proofs.Lengths.{key_length}
use Rattle.dfs_record.proofs.Readings.{both_true}
use Rattle.dfs_fence.specs.declared.fence.Fence.{Fence}
use Rattle.dfs_fence.specs.Index.{HasFields, IsFence, IsIndex, IsNoIndex, HasOneList, IsShort, fence_bytes}
use Rattle.dfs_fence.specs.Reading.{BeginsAsIndex, fence_at}
use Rattle.dfs_fence.specs.Spelled.{AreSpelled, NoneSpelled}
use Rattle.dfs_fence.proofs.Fields.{fences}
use Rattle.dfs_fence.proofs.Spelled.{some_is, behind_front}

pub all_fields : (fs : List Fence) → AllByRecursion IsFence fs → AllByRecursion HasFields fs
all_fields [] all = tt
all_fields (f ∷ fs) all = (all.0.fields, all_fields fs all.1)

pub long : (bytes : List ℕ) (fs : List Fence) → IsIndex bytes fs → 4 ≤ length bytes
long bytes fs is = omega (arith, ap length is.spelled, length-append (to_be_bytes w32 (length fs)) (flat_map fence_bytes fs))

-- the first four bytes are the count
count_is : (bytes : List ℕ) (fs : List Fence) → IsIndex bytes fs → number_in w32 bytes ≡ Some (length fs)
count_is bytes fs is =
    ap (λ b. cond b None (Some (from_be_bytes w32 (take 4 bytes)))) (le-ltb (length bytes) 4 (long bytes fs is))
    ∙ ap (λ (l : List ℕ). Some (from_be_bytes w32 l)) (ap (take 4) is.spelled ∙ take_at (to_be_bytes w32 (length fs)) (flat_map fence_bytes fs) 4 refl)
    ∙ ap Some (from_be_bytes-to_be_bytes_4 (length fs) (omega (arith, is.fences.few)))

pub inside : (count : ℕ) (bytes : List ℕ) (fs : List Fence) → Some count ≡ number_in w32 bytes → IsIndex bytes fs → AreSpelled count (drop 4 bytes) fs
inside count bytes fs read is = record {
  number = sym (some_is count (length fs) (read ∙ count_is bytes fs is));
  spelled = ap (drop 4) is.spelled ∙ drop_at (to_be_bytes w32 (length fs)) (flat_map fence_bytes fs) 4 refl;
  fences = is.fences;
}

pub made : (count : ℕ) (bytes : List ℕ) (fs : List Fence) → to_be_bytes w32 count ≡ take 4 bytes → 1 ≤ count → AreSpelled count (drop 4 bytes) fs → IsIndex bytes fs
made count bytes fs front some are = record {
  some = omega (arith, some, are.number);
  spelled = sym (take-append-drop 4 bytes) ∙ ap (λ (l : List ℕ). l ++ drop 4 bytes) (sym front ∙ ap (to_be_bytes w32) (sym are.number)) ∙ ap (λ (l : List ℕ). to_be_bytes w32 (length fs) ++ l) are.spelled;
  fences = are.fences;
}

no_more : (fs more : List Fence) → length more ≡ 0 → fs ++ more ≡ fs
no_more fs [] e = append-nil fs
no_more fs (f ∷ more) e = absurd (omega (arith, e))

pub same_spelled : (count : ℕ) (bytes : List ℕ) (fs gs : List Fence) → AreSpelled count bytes fs → AreSpelled count bytes gs → fs ≡ gs
same_spelled count bytes fs gs p q =
    let t = behind_front HasFields fence_bytes fence_at fences fs gs [] (all_fields fs p.fences.each) (all_fields gs q.fences.each) (omega (arith, p.number, q.number)) (append-nil (flat_map fence_bytes fs) ∙ sym p.spelled ∙ q.spelled) in
    sym (t.1.0 ∙ no_more fs t.0 (omega (arith, ap length t.1.0, length-append fs t.0, p.number, q.number)))

pub one_list : HasOneList
one_list bytes fs gs p q =
    let read = sym (count_is bytes fs p) in
    same_spelled (length fs) (drop 4 bytes) fs gs (inside (length fs) bytes fs read p) (inside (length fs) bytes gs read q)

-- ---- lengths

fence_length : (f : Fence) → HasFields f → length (fence_bytes f) ≤ 542
fence_length f has =
    let numbers = to_be_bytes w64 f.at ++ to_be_bytes w32 f.len ++ to_be_bytes w16 f.count in
    omega (arith, length-append (numbers ++ key_bytes f.first) (key_bytes f.last), length-append numbers (key_bytes f.first), key_length f.first has.first, key_length f.last has.last)

pub fences_length : (fs : List Fence) → AllByRecursion IsFence fs → length (flat_map fence_bytes fs) ≤ 542 * length fs
fences_length [] all = omega arith
fences_length (f ∷ fs) all = omega (arith, fence_length f all.0.fields, fences_length fs all.1, length-append (fence_bytes f) (flat_map fence_bytes fs))

pub short : IsShort
short bytes fs is =
    omega (arith, ap length is.spelled, length-append (to_be_bytes w32 (length fs)) (flat_map fence_bytes fs), fences_length fs is.fences.each, is.fences.few)

-- ---- what was read behind the count

module _ {E : Type 0} (count : ℕ) (bytes rest : List ℕ) where
  pub found_of : (r : Result (Option (List Fence)) E) → IfOk r (λ o. IfSome o (λ fs. AreSpelled count rest fs)) → ((fs : List Fence) → AreSpelled count rest fs → IsIndex bytes fs) → IfOk r (λ o. IfSome o (λ fs. IsIndex bytes fs))
  found_of (Ok None) found to = tt
  found_of (Ok (Some fs)) found to = to fs found
  found_of (Err e) found to = tt

  pub only_of : (r : Result (Option (List Fence)) E) → IfOk r (λ o. IfSome o (λ fs. AreSpelled count rest fs)) → IfOk r (λ o. (o ≡ None) ↔ NoneSpelled count rest) → ((fs : List Fence) → IsIndex bytes fs → AreSpelled count rest fs)
      → IfOk r (λ o. (fs : List Fence) → IsIndex bytes fs → IsSomeAnd o (λ gs. gs ≡ fs))
  only_of (Ok None) found none from = λ fs is. absurd (none.0 refl fs (from fs is))
  only_of (Ok (Some gs)) found none from = λ fs is. same_spelled count rest gs fs found (from fs is)
  only_of (Err e) found none from = tt

  pub none_of : (r : Result (Option (List Fence)) E) → IfOk r (λ o. (o ≡ None) ↔ NoneSpelled count rest) → ((fs : List Fence) → IsIndex bytes fs → AreSpelled count rest fs) → ((fs : List Fence) → AreSpelled count rest fs → IsIndex bytes fs)
      → IfOk r (λ o. (o ≡ None) ↔ IsNoIndex bytes)
  none_of (Ok o) none from to = ((λ e fs is. none.0 e fs (from fs is)), (λ no. none.1 (λ fs are. no fs (to fs are))))
  none_of (Err e) none from to = tt

-- an index has a count of 1 to 4,096
pub count_fits : (count : ℕ) (bytes : List ℕ) (fs : List Fence) → Some count ≡ number_in w32 bytes → IsIndex bytes fs → is_between 1 4096 count ≡ true
count_fits count bytes fs read is =
    let same : length fs ≡ count = sym (some_is count (length fs) (read ∙ count_is bytes fs is)) in
    both_true (nat_le 1 count) (nat_le count 4096) (le-leb 1 count (omega (arith, same, is.some))) (le-leb count 4096 (omega (arith, same, is.fences.few)))

-- the first fence of an index
first_of : (fs : List Fence) → 1 ≤ length fs → AllByRecursion HasFields fs → (rest : List ℕ) → rest ≡ flat_map fence_bytes fs → IsSome (fence_at rest)
first_of [] some fields rest text = absurd (omega (arith, some))
first_of (f ∷ fs) some fields rest text =
    let there : fence_at rest ≡ Some (f, flat_map fence_bytes fs) = ap fence_at text ∙ fences.again f (flat_map fence_bytes fs) fields.0 in
    subst IsSome (sym there) refl

pub begins_as : (bytes : List ℕ) (fs : List Fence) → IsIndex bytes fs → BeginsAsIndex bytes
begins_as bytes fs is = record {
  count = subst (λ o. IsSomeAnd o (λ n. IsTrue (is_between 1 4096 n))) (sym (count_is bytes fs is)) (count_fits (length fs) bytes fs (sym (count_is bytes fs is)) is);
  fence = first_of fs is.some (all_fields fs is.fences.each) (drop 4 bytes) (inside (length fs) bytes fs (sym (count_is bytes fs is)) is).spelled;
}
