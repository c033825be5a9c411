-- Lists by recursion and by place.
use Rattle.std.proofs.Common.{◌≡◌, ◌∙◌, ℕ, suc, ◌+◌, Bool, true, false, cond, List, [], ◌∷◌, ◌++◌, Option, Some, None, take, drop, map, Bor, refl, sym, ap, subst, arith}
use Rattle.std.proofs.lemmas.List.{take_more, drop_more, take-append-drop, map-append}
use Rattle.std.proofs.lemmas.Option.{slice_get_within, get_or_from_slice_get}
use Rattle.std.specs.Option.{option_copied}
use Rattle.std.specs.Prelude.{◌&&◌, slice_get, find, is_some, is_err, Result, Ok, Err, OnOk}
use Rattle.std.specs.List.{All, AllByRecursion, list_all}

abbrev IsNo : Bool → Type 0
IsNo true = ⊥
IsNo false = Unit {0}

pub by_recursion : {X : Type 0} (P : X → Type 0) (xs : List X) → All P xs → AllByRecursion P xs
by_recursion P [] all = tt
by_recursion P (x ∷ xs) all = (all 0 x (omega arith), by_recursion P xs (λ k d below. all (suc k) d (omega (arith, below))))

pub mapped : {X : Type 0} (P Q : X → Type 0) (xs : List X) → ((x : X) → P x → Q x) → AllByRecursion P xs → AllByRecursion Q xs
mapped P Q [] f all = tt
mapped P Q (x ∷ xs) f all = (f x all.0, mapped P Q xs f all.1)

module _ {X : Type 0} (xs : List X) (k : ℕ) (x : X) (at : slice_get xs k ≡ Some x) where
  -- the elements before an index and the one there
  pub take_next : take (k + 1) xs ≡ take k xs ++ x ∷ []
  take_next = take_more xs k x (slice_get_within xs k x at) ∙ ap (λ (y : X). take k xs ++ y ∷ []) (get_or_from_slice_get xs k x x at)

  -- the list round the one there
  pub parted : xs ≡ take k xs ++ x ∷ drop (k + 1) xs
  parted = sym (take-append-drop k xs) ∙ ap (λ (l : List X). take k xs ++ l) (drop_more xs k x (slice_get_within xs k x at) ∙ ap (λ (y : X). y ∷ drop (k + 1) xs) (get_or_from_slice_get xs k x x at))

  pub map_next : {Y : Type 0} (f : X → Y) → map f (take (k + 1) xs) ≡ map f (take k xs) ++ f x ∷ []
  map_next f = ap (map f) take_next ∙ map-append f (take k xs) (x ∷ [])

pub all-append : {X : Type 0} (p : X → Bool) (xs ys : List X) → list_all p (xs ++ ys) ≡ list_all p xs && list_all p ys
all-append p [] ys = refl
all-append p (x ∷ xs) ys = by (p x) (all-append p xs ys)
  where
    by : (b : Bool) → list_all p (xs ++ ys) ≡ list_all p xs && list_all p ys → (b && list_all p (xs ++ ys)) ≡ (b && list_all p xs) && list_all p ys
    by true rest = rest
    by false rest = refl

and_false : (a : Bool) → (a && false) ≡ false
and_false true = refl
and_false false = refl

-- an element that fails
pub not_all : {X : Type 0} (p : X → Bool) (xs : List X) (k : ℕ) (x : X) → slice_get xs k ≡ Some x → p x ≡ false → list_all p xs ≡ false
not_all p xs k x at fails =
    ap (list_all p) (parted xs k x at) ∙ all-append p (take k xs) (x ∷ drop (k + 1) xs) ∙ ap (λ (b : Bool). list_all p (take k xs) && (b && list_all p (drop (k + 1) xs))) fails ∙ and_false (list_all p (take k xs))

-- one element more that passes
pub all_next : {X : Type 0} (p : X → Bool) (xs : List X) (k : ℕ) (x : X) → slice_get xs k ≡ Some x → list_all p (take k xs) ≡ true → p x ≡ true → list_all p (take (k + 1) xs) ≡ true
all_next p xs k x at before passes =
    ap (list_all p) (take_next xs k x at) ∙ all-append p (take k xs) (x ∷ []) ∙ ap (λ (b : Bool). b && (p x && true)) before ∙ ap (λ (b : Bool). b && true) passes

abbrev IsFound : {X : Type 0} → Option X → Type 0
IsFound None = ⊥
IsFound (Some x) = Unit {0}

-- an element behind some that are not found
pub find-append : {X : Type 0} (p : X → Bool) (xs ys : List X) → find p xs ≡ None → find p (xs ++ ys) ≡ find p ys
find-append p [] ys none = refl
find-append p (x ∷ xs) ys none = by (p x) none (find-append p xs ys)
  where
    by : (b : Bool) → cond b (Some x) (find p xs) ≡ None → (find p xs ≡ None → find p (xs ++ ys) ≡ find p ys) → cond b (Some x) (find p (xs ++ ys)) ≡ find p ys
    by true some rest = absurd (subst IsFound some tt)
    by false none rest = rest none

-- what is lent is there as often as what it is lent of
pub lent_some : {X : Type 0} (o : Option (Bor X)) → is_some (option_copied o) ≡ is_some o
lent_some None = refl
lent_some (Some x) = refl

pub when_ok : {T E : Type 0} (result : Result T E) (P : Type 0) → false ≡ is_err result → OnOk result P → P
when_ok (Ok x) P is p = p
when_ok (Err e) P is p = absurd (subst IsNo is tt)
