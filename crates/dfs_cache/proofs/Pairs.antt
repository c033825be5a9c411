-- Pairs with distinct keys, and what each call makes of them.
use Rattle.std.proofs.Common.{◌≡◌, ℕ, zero, suc, ◌-◌, ◌≤◌, Bool, true, false, List, [], ◌∷◌, length, take, Option, Some, None, refl, sym, ap, ◌∙◌, arith}
use Rattle.std.specs.List.{AllByRecursion, IsDistinct}
use Rattle.std.specs.Cmp.{IsEquivalence}
use Rattle.std.specs.Option.{option_map_or}
use Rattle.std.specs.Map.{keys_of, lookup_entry, remove_entry}
use Rattle.std.proofs.lemmas.Bool.{cond_both}
use Rattle.std.proofs.lemmas.List.{take_all}
use Rattle.std.proofs.lemmas.Map.Keys.{IsDistinct-head, IsDistinct-tail, IsDistinct-cons}
use Rattle.lru.proofs.CallerLemmas.{Contains-lookup_entry}

-- no key is like a where none is like b
all_like : {K : Type 0} {eq : K → K → Bool} → IsEquivalence eq → (a b : K) → eq a b ≡ true → (ks : List K) → AllByRecursion (λ y. eq b y ≡ false) ks → AllByRecursion (λ y. eq a y ≡ false) ks
all_like laws a b t [] h = tt
all_like laws a b t (y ∷ ks) h = (laws.congr a b y t ∙ h.0, all_like laws a b t ks h.1)

module _ {K X : Type 0} where
  all_off : (P : K → Type 0) (test : K → Bool) (es : List (K × X)) → AllByRecursion P (keys_of es) → AllByRecursion P (keys_of (remove_entry test es))
  all_off P test [] a = tt
  all_off P test (e ∷ es) a = cond_both (test e.0) es (e ∷ remove_entry test es) (λ l. AllByRecursion P (keys_of l)) (λ _. a.1) (λ _. (a.0, all_off P test es a.1))

  all_kept : (P : K → Type 0) (n : ℕ) (es : List (K × X)) → AllByRecursion P (keys_of es) → AllByRecursion P (keys_of (take n es))
  all_kept P zero es a = tt
  all_kept P (suc n) [] a = tt
  all_kept P (suc n) (e ∷ es) a = (a.0, all_kept P n es a.1)

  pub length_off : (test : K → Bool) (es : List (K × X)) → length (remove_entry test es) ≤ length es
  length_off test [] = omega arith
  length_off test (e ∷ es) =
      let rest = length_off test es in
      cond_both (test e.0) es (e ∷ remove_entry test es) (λ l. length l ≤ length (e ∷ es)) (λ _. omega arith) (λ _. omega arith)

  length_found : (test : K → Bool) (e : K × X) (es : List (K × X)) → lookup_entry test es ≡ Some e → suc (length (remove_entry test es)) ≤ length es
  length_found test e [] h = cc
  length_found test e (f ∷ es) h = (elim (test f.0) as (λ y. test f.0 ≡ y → suc (length (remove_entry test (f ∷ es))) ≤ length (f ∷ es)) [
    | true ↦ λ t. rw t (omega arith)
    | false ↦ λ t. let rest = length_found test e es (rw t at h) in rw t (omega arith)
  ]) refl

  -- where no key passes, nothing goes off
  off_none : (test : K → Bool) (es : List (K × X)) → lookup_entry test es ≡ None → remove_entry test es ≡ es
  off_none test [] h = refl
  off_none test (f ∷ es) h = (elim (test f.0) as (λ y. test f.0 ≡ y → remove_entry test (f ∷ es) ≡ f ∷ es) [
    | true ↦ λ t. let h' = rw t at h in cc
    | false ↦ λ t. rw t (ap (λ l. f ∷ l) (off_none test es (rw t at h)))
  ]) refl

  module _ (eq : K → K → Bool) where
    pub distinct_off : (test : K → Bool) (es : List (K × X)) → IsDistinct eq (keys_of es) → IsDistinct eq (keys_of (remove_entry test es))
    distinct_off test [] d = d
    distinct_off test (e ∷ es) d =
        let rest = IsDistinct-tail eq e.0 (keys_of es) d in
        cond_both (test e.0) es (e ∷ remove_entry test es) (λ l. IsDistinct eq (keys_of l)) (λ _. rest)
        (λ _. IsDistinct-cons eq e.0 _ (all_off (λ y. eq e.0 y ≡ false) test es (IsDistinct-head eq e.0 (keys_of es) d)) (distinct_off test es rest))

    distinct_kept : (n : ℕ) (es : List (K × X)) → IsDistinct eq (keys_of es) → IsDistinct eq (keys_of (take n es))
    unfolding IsDistinct
    distinct_kept zero es d = tt
    distinct_kept (suc n) [] d = tt
    distinct_kept (suc n) (e ∷ es) d = (all_kept (λ y. eq e.0 y ≡ false) n es d.0, distinct_kept n es d.1)

    module _ (laws : IsEquivalence eq) where
      -- once the key's pair is off, no pair has the key
      apart_off : (k : K) (es : List (K × X)) → IsDistinct eq (keys_of es) → AllByRecursion (λ y. eq k y ≡ false) (keys_of (remove_entry (eq k) es))
      apart_off k [] d = tt
      apart_off k (e ∷ es) d =
          cond_both (eq k e.0) es (e ∷ remove_entry (eq k) es) (λ l. AllByRecursion (λ y. eq k y ≡ false) (keys_of l))
          (λ t. all_like laws k e.0 t (keys_of es) (IsDistinct-head eq e.0 (keys_of es) d))
          (λ n. (n, apart_off k es (IsDistinct-tail eq e.0 (keys_of es) d)))

      distinct_put : (k : K) (x : X) (es : List (K × X)) → IsDistinct eq (keys_of es) → IsDistinct eq (keys_of ((k, x) ∷ remove_entry (eq k) es))
      distinct_put k x es d = IsDistinct-cons eq k _ (apart_off k es d) (distinct_off (eq k) es d)

      abbrev forward : K → List (K × X) → Option (K × X) → List (K × X)
      forward k es o = option_map_or (λ e. e ∷ remove_entry (eq k) es) o es

      forward_cases : (k : K) (es : List (K × X)) (o : Option (K × X)) → lookup_entry (eq k) es ≡ o → IsDistinct eq (keys_of es) → IsDistinct eq (keys_of (forward k es o)) × (length (forward k es o) ≤ length es)
      forward_cases k es None h d = (d, omega arith)
      forward_cases k es (Some e) h d =
          let like : eq e.0 k ≡ true = laws.symm e.0 k ∙ (Contains-lookup_entry (eq k) es e h).1 in
          (IsDistinct-cons eq e.0 _ (all_like laws e.0 k like _ (apart_off k es d)) (distinct_off (eq k) es d), omega (arith, length_found (eq k) e es h))

      -- bringing a pair to the front keeps the keys distinct, and the list no longer than it was
      pub brought : (k : K) (es : List (K × X)) → IsDistinct eq (keys_of es) → IsDistinct eq (keys_of (forward k es (lookup_entry (eq k) es))) × (length (forward k es (lookup_entry (eq k) es)) ≤ length es)
      brought k es = forward_cases k es (lookup_entry (eq k) es) refl

      -- the list after a put has distinct keys and is within the capacity
      pub put_distinct : (k : K) (x : X) (es : List (K × X)) (n : ℕ) → IsDistinct eq (keys_of es) → IsDistinct eq (keys_of (take n ((k, x) ∷ remove_entry (eq k) es)))
      put_distinct k x es n d = distinct_kept n ((k, x) ∷ remove_entry (eq k) es) (distinct_put k x es d)

    module _ (exact : (a b : K) → eq a b ≡ true → a ≡ b) where
      abbrev replaced : K → X → ℕ → List (K × X) → Option (K × X) → List (K × X)
      replaced k x n es o = option_map_or (λ e. (e.0, x) ∷ remove_entry (eq k) es) o ((k, x) ∷ take (n - 1) es)

      put_cases : (k : K) (x : X) (n : ℕ) (es : List (K × X)) (o : Option (K × X)) → lookup_entry (eq k) es ≡ o → length es ≤ n → 1 ≤ n → replaced k x n es o ≡ take n ((k, x) ∷ remove_entry (eq k) es)
      put_cases k x zero es o h fits room = absurd (omega arith)
      put_cases k x (suc n) es None h fits room =
          let less : suc n - 1 ≡ n = omega arith in
          ap (λ m. (k, x) ∷ take m es) less ∙ ap (λ l. (k, x) ∷ take n l) (sym (off_none (eq k) es h))
      put_cases k x (suc n) es (Some e) h fits room =
          let one : e.0 ≡ k = sym (exact k e.0 (Contains-lookup_entry (eq k) es e h).1) in
          let found = length_found (eq k) e es h in
          let all : take n (remove_entry (eq k) es) ≡ remove_entry (eq k) es = take_all n (remove_entry (eq k) es) (omega arith) in
          ap (λ j. (j, x) ∷ remove_entry (eq k) es) one ∙ ap (λ l. (k, x) ∷ l) (sym all)

      -- a put that keeps an equal key, or else drops the last pair of a full list, puts the pair first and keeps what fits
      pub put_is : (k : K) (x : X) (n : ℕ) (es : List (K × X)) → length es ≤ n → 1 ≤ n → replaced k x n es (lookup_entry (eq k) es) ≡ take n ((k, x) ∷ remove_entry (eq k) es)
      put_is k x n es = put_cases k x n es (lookup_entry (eq k) es) refl
