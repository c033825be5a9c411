-- Things that are spelled one after the other.
use Rattle.std.proofs.Common.{◌≡◌, ℕ, ◌+◌, ◌<◌, ◌≤◌, List, [], ◌∷◌, ◌++◌, length, take, get_or, refl, sym, ap, ◌∙◌, append_assoc, arith}
use Rattle.std.specs.Prelude.{Option}
use Rattle.std.specs.List.{flat_map, AllByRecursion}
use Rattle.std.proofs.lemmas.List.{append-nil, take_more}
use Rattle.dfs_record.proofs.Readings.{Reads, some_is}

pub all_more : {A : Type 0} (P : A → Type 0) (xs : List A) (x : A) → AllByRecursion P xs → P x → AllByRecursion P (xs ++ x ∷ [])
all_more P [] x all one = (one, tt)
all_more P (y ∷ xs) x all one = (all.0, all_more P xs x all.1 one)

pub flat_more : {A : Type 0} (f : A → List ℕ) (xs : List A) (x : A) → flat_map f (xs ++ x ∷ []) ≡ flat_map f xs ++ f x
flat_more f [] x = append-nil (f x)
flat_more f (y ∷ xs) x = ap (λ (l : List ℕ). f y ++ l) (flat_more f xs x) ∙ sym (append_assoc (f y) (flat_map f xs) (f x))

pub flat_take : {A : Type 0} (f : A → List ℕ) (xs : List A) (i : ℕ) (d : A) → i < length xs → flat_map f (take (i + 1) xs) ≡ flat_map f (take i xs) ++ f (get_or xs i d)
flat_take f xs i d lt = ap (flat_map f) (take_more xs i d lt) ∙ flat_more f (take i xs) (get_or xs i d)

module _ {A : Type 0} (V : A → Type 0) (f : A → List ℕ) (read : List ℕ → Option (A × List ℕ)) (reads : Reads V f read) where
  -- what stands before the rest is the same on both sides
  pub same_first : (x y : A) (more rest : List ℕ) → V x → V y → f x ++ more ≡ f y ++ rest → (x ≡ y) × (more ≡ rest)
  same_first x y more rest v w e =
      let both : (x, more) ≡ (y, rest) = some_is (x, more) (y, rest) (sym (reads.again x more v) ∙ ap read e ∙ reads.again y rest w) in
      (ap (λ (p : A × List ℕ). p.0) both, ap (λ (p : A × List ℕ). p.1) both)

  -- what stands behind the front is spelled in the rest
  pub behind_front : (front xs : List A) (rest : List ℕ) → AllByRecursion V front → AllByRecursion V xs → length front ≤ length xs → flat_map f front ++ rest ≡ flat_map f xs
      → (more : List A) × ((xs ≡ front ++ more) × (AllByRecursion V more × (rest ≡ flat_map f more)))
  behind_front [] xs rest v w le e = (xs, (refl, (w, e)))
  behind_front (x ∷ front) [] rest v w le e = absurd (omega (arith, le))
  behind_front (x ∷ front) (y ∷ xs) rest v w le e =
      let s = same_first x y (flat_map f front ++ rest) (flat_map f xs) v.0 w.0 (sym (append_assoc (f x) (flat_map f front) rest) ∙ e) in
      let t = behind_front front xs rest v.1 w.1 (omega (arith, le)) s.1 in
      (t.0, ((λ i. sym s.0 i ∷ t.1.0 i), t.1.1))
