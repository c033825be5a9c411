-- Entries of which at most one has a key that passes a test, in lists that change.
use Rattle.std.proofs.Common.{◌≡◌, ◌∙◌, ◌⊎◌, inl, inr, Bool, true, false, cond, List, [], ◌∷◌, Option, Some, None, Ordering, Less, Equal, Greater, refl, sym, true≢false}
use Rattle.std.proofs.lemmas.Map.{NonePasses, lookup-none}
use Rattle.std.proofs.lemmas.Option.{none-some, same_Some}
use Rattle.std.specs.BTreeMap.{insert_entry}
use Rattle.std.specs.Map.{lookup, set_value, remove_entry}
use Rattle.std.specs.Ordering.{match_ordering}

first_or : {X : Type 0} (t : Bool) (v : X) (o : Option X) (x : X) → cond t (Some v) o ≡ Some x → (v ≡ x) ⊎ (o ≡ Some x)
first_or true v o x is = inl (same_Some v x is)
first_or false v o x is = inr is

module _ {K X : Type 0} (test : K → Bool) where
  abbrev pub IsSingle : List (K × X) → Type 0
  IsSingle [] = Unit {0}
  IsSingle (e ∷ es) = (test e.0 ≡ true → NonePasses test es) × IsSingle es

  pub single_none : (es : List (K × X)) → NonePasses test es → IsSingle es
  single_none [] none = tt
  single_none (e ∷ es) none = ((λ passes. none.1), single_none es none.1)

  -- ---- another value

  none_set : (other : K → Bool) (es : List (K × X)) (x : X) → NonePasses test es → NonePasses test (set_value other es x)
  none_set other [] x none = tt
  none_set other (e ∷ es) x none = by (other e.0) (none_set other es x none.1)
    where
      by : (b : Bool) → NonePasses test (set_value other es x) → NonePasses test (cond b ((e.0, x) ∷ es) (e ∷ set_value other es x))
      by true rest = none
      by false rest = (none.0, rest)

  pub single_set : (other : K → Bool) (es : List (K × X)) (x : X) → IsSingle es → IsSingle (set_value other es x)
  single_set other [] x single = tt
  single_set other (e ∷ es) x single = by (other e.0) (single_set other es x single.1)
    where
      by : (b : Bool) → IsSingle (set_value other es x) → IsSingle (cond b ((e.0, x) ∷ es) (e ∷ set_value other es x))
      by true rest = single
      by false rest = ((λ passes. none_set other es x (single.0 passes)), rest)

  -- ---- an entry less

  none_remove : (other : K → Bool) (es : List (K × X)) → NonePasses test es → NonePasses test (remove_entry other es)
  none_remove other [] none = tt
  none_remove other (e ∷ es) none = by (other e.0) (none_remove other es none.1)
    where
      by : (b : Bool) → NonePasses test (remove_entry other es) → NonePasses test (cond b es (e ∷ remove_entry other es))
      by true rest = none.1
      by false rest = (none.0, rest)

  pub single_remove : (other : K → Bool) (es : List (K × X)) → IsSingle es → IsSingle (remove_entry other es)
  single_remove other [] single = tt
  single_remove other (e ∷ es) single = by (other e.0) (single_remove other es single.1)
    where
      by : (b : Bool) → IsSingle (remove_entry other es) → IsSingle (cond b es (e ∷ remove_entry other es))
      by true rest = single.1
      by false rest = ((λ passes. none_remove other es (single.0 passes)), rest)

  -- what is found was there before
  pub found_remove : (other : K → Bool) (es : List (K × X)) (x : X) → IsSingle es → lookup test (remove_entry other es) ≡ Some x → lookup test es ≡ Some x
  found_remove other [] x single is = is
  found_remove other (e ∷ es) x single is = by (other e.0) (found_remove other es x single.1) is
    where
      gone : (t : Bool) → (t ≡ true → NonePasses test es) → lookup test es ≡ Some x → cond t (Some e.1) (lookup test es) ≡ Some x
      gone true none later = absurd (none-some x (sym (lookup-none test es (none refl)) ∙ later))
      gone false none later = later

      stays : (t : Bool) → (lookup test (remove_entry other es) ≡ Some x → lookup test es ≡ Some x) → cond t (Some e.1) (lookup test (remove_entry other es)) ≡ Some x → cond t (Some e.1) (lookup test es) ≡ Some x
      stays true rest first = first
      stays false rest later = rest later

      by : (b : Bool) → (lookup test (remove_entry other es) ≡ Some x → lookup test es ≡ Some x) → lookup test (cond b es (e ∷ remove_entry other es)) ≡ Some x → cond (test e.0) (Some e.1) (lookup test es) ≡ Some x
      by true rest found = gone (test e.0) single.0 found
      by false rest found = stays (test e.0) rest found

  -- ---- an entry more

  module _ (cmp : K → K → Ordering) (k : K) (v : X) where
    none_insert : test k ≡ false → (es : List (K × X)) → NonePasses test es → NonePasses test (insert_entry cmp es k v)
    none_insert fails [] none = (fails, tt)
    none_insert fails (e ∷ es) none = by (cmp k e.0) (none_insert fails es none.1)
      where
        by : (o : Ordering) → NonePasses test (insert_entry cmp es k v) → NonePasses test (match_ordering o ((k, v) ∷ e ∷ es) ((e.0, v) ∷ es) (e ∷ insert_entry cmp es k v))
        by Less rest = (fails, none)
        by Equal rest = none
        by Greater rest = (none.0, rest)

    pub single_insert : (es : List (K × X)) → (test k ≡ true → NonePasses test es) → IsSingle es → IsSingle (insert_entry cmp es k v)
    single_insert [] new single = ((λ passes. tt), tt)
    single_insert (e ∷ es) new single = by (cmp k e.0) (single_insert es (λ passes. (new passes).1) single.1)
      where
        behind : (b : Bool) → test k ≡ b → test e.0 ≡ true → NonePasses test (insert_entry cmp es k v)
        behind true is passes = absurd (true≢false (sym passes ∙ (new is).0))
        behind false is passes = none_insert is es (single.0 passes)

        by : (o : Ordering) → IsSingle (insert_entry cmp es k v) → IsSingle (match_ordering o ((k, v) ∷ e ∷ es) ((e.0, v) ∷ es) (e ∷ insert_entry cmp es k v))
        by Less rest = (new, single)
        by Equal rest = single
        by Greater rest = (behind (test k) refl, rest)

    -- what is found is new or was there before
    pub found_insert : (es : List (K × X)) (x : X) → lookup test (insert_entry cmp es k v) ≡ Some x → (v ≡ x) ⊎ (lookup test es ≡ Some x)
    found_insert [] x is = first_or (test k) v None x is
    found_insert (e ∷ es) x is = by (cmp k e.0) (found_insert es x) is
      where
        taken : (t : Bool) → cond t (Some v) (lookup test es) ≡ Some x → (v ≡ x) ⊎ (cond t (Some e.1) (lookup test es) ≡ Some x)
        taken true found = inl (same_Some v x found)
        taken false found = inr found

        stays : (t : Bool) → (lookup test (insert_entry cmp es k v) ≡ Some x → (v ≡ x) ⊎ (lookup test es ≡ Some x)) → cond t (Some e.1) (lookup test (insert_entry cmp es k v)) ≡ Some x
            → (v ≡ x) ⊎ (cond t (Some e.1) (lookup test es) ≡ Some x)
        stays true rest found = inr found
        stays false rest found = rest found

        by : (o : Ordering) → (lookup test (insert_entry cmp es k v) ≡ Some x → (v ≡ x) ⊎ (lookup test es ≡ Some x))
            → lookup test (match_ordering o ((k, v) ∷ e ∷ es) ((e.0, v) ∷ es) (e ∷ insert_entry cmp es k v)) ≡ Some x → (v ≡ x) ⊎ (cond (test e.0) (Some e.1) (lookup test es) ≡ Some x)
        by Less rest found = first_or (test k) v (lookup test (e ∷ es)) x found
        by Equal rest found = taken (test e.0) found
        by Greater rest found = stays (test e.0) rest found
