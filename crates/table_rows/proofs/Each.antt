-- An element of a list of which each is so.
use Rattle.std.proofs.Common.{◌≡◌, ◌∷◌, [], ℕ, zero, suc, List, subst, slice_get}
use Rattle.std.specs.Prelude.{Some}
use Rattle.std.specs.List.{AllByRecursion}

pub each_at : {A : Type 0} (P : A → Type 0) (xs : List A) (i : ℕ) (x : A) → AllByRecursion P xs → slice_get xs i ≡ Some x → P x
each_at P [] i x all is = absurd cc
each_at P (y ∷ ys) zero x all is = let same : y ≡ x = cc in subst P same all.0
each_at P (y ∷ ys) (suc i) x all is = each_at P ys i x all.1 is
