-- The files that are given at the start.
use Rattle.std.proofs.Common.{◌≡◌, ℕ, ◌+◌, ◌<◌, suc, zero, Bool, true, false, not, cond, eqb, List, [], ◌∷◌, ◌++◌, length, take, get_or, Vec, Option, Some, refl, ◌∙◌, ap, arith}
use Rattle.std.proofs.lemmas.List.{take_more}
use Rattle.std.proofs.lemmas.Bool.{and_parts, and_from}
use Rattle.std.proofs.lemmas.Bool.Decides.{nat_tests}
use Rattle.std.specs.Option.{option_map_or}
use Rattle.std.specs.HashMap.{HashMap, get}
use Rattle.std.specs.declared.alloc.Global.{Global}
use Rattle.std.specs.declared.hash.FoldHasher.{FoldHasher}
use Rattle.std.specs.declared.hash.BuildHasherDefault.{BuildHasherDefault}
use Rattle.dfs_mem.specs.Files.{bytes_at, bytes_in, is_missing, numbers_differ}

-- an answer that stands behind another one is read where the other is not asked for
pick : (p q n : ℕ) (x y z : List ℕ) → not (eqb p q) ≡ true → cond (eqb p n) x (cond (eqb q n) y z) ≡ cond (eqb q n) y (cond (eqb p n) x z)
pick p q n x y z apart = grind (arith, nat_tests)

pub turned : (p q : ℕ) → not (eqb p q) ≡ true → not (eqb q p) ≡ true
turned p q apart = grind (arith, nat_tests)

-- one file more
pub bytes_in-push : (files : List (ℕ × Vec ℕ Global)) (file : ℕ × Vec ℕ Global) (n : ℕ) → is_missing file.0 files ≡ true
    → bytes_in (files ++ file ∷ []) n ≡ cond (eqb file.0 n) file.1.items (bytes_in files n)
bytes_in-push [] file n none = refl
bytes_in-push (first ∷ files) file n none =
    let parts = and_parts _ _ none in
    ap (λ (l : List ℕ). cond (eqb first.0 n) first.1.items l) (bytes_in-push files file n parts.1)
    ∙ pick first.0 file.0 n first.1.items file.1.items (bytes_in files n) parts.0

is_missing-at : (n : ℕ) (files : List (ℕ × Vec ℕ Global)) (i : ℕ) (d : ℕ × Vec ℕ Global) → is_missing n files ≡ true → i < length files → not (eqb (get_or files i d).0 n) ≡ true
is_missing-at n [] i d none below = absurd (omega arith)
is_missing-at n (file ∷ files) zero d none below = (and_parts _ _ none).0
is_missing-at n (file ∷ files) (suc i) d none below = is_missing-at n files i d (and_parts _ _ none).1 (omega arith)

-- no file before place i has the number that stands there
is_missing-before : (files : List (ℕ × Vec ℕ Global)) (i : ℕ) (d : ℕ × Vec ℕ Global) → numbers_differ files ≡ true → i < length files → is_missing (get_or files i d).0 (take i files) ≡ true
is_missing-before [] i d differ below = absurd (omega arith)
is_missing-before (file ∷ files) zero d differ below = refl
is_missing-before (file ∷ files) (suc i) d differ below =
    let parts = and_parts _ _ differ in
    and_from _ _ (turned _ _ (is_missing-at file.0 files i d parts.0 (omega arith))) (is_missing-before files i d parts.1 (omega arith))

pub bytes_in-take : (files : List (ℕ × Vec ℕ Global)) (i : ℕ) (d : ℕ × Vec ℕ Global) (n : ℕ) → numbers_differ files ≡ true → i < length files
    → bytes_in (take (i + 1) files) n ≡ cond (eqb (get_or files i d).0 n) (get_or files i d).1.items (bytes_in (take i files) n)
bytes_in-take files i d n differ below =
    ap (λ (l : List (ℕ × Vec ℕ Global)). bytes_in l n) (take_more files i d below)
    ∙ bytes_in-push (take i files) (get_or files i d) n (is_missing-before files i d differ below)

pub picked : {X Y : Type 0} (b : Bool) (f : X → Y) (x : X) (o : Option X) (d : Y) → option_map_or f (cond b (Some x) o) d ≡ cond b (f x) (option_map_or f o d)
picked true f x o d = refl
picked false f x o d = refl

-- in a map with one file more
pub bytes_at-put : (old new : HashMap ℕ (Vec ℕ Global) (BuildHasherDefault FoldHasher)) (k n : ℕ) (file : Vec ℕ Global) → get eqb new n ≡ cond (eqb k n) (Some file) (get eqb old n)
    → bytes_at new n ≡ cond (eqb k n) file.items (bytes_at old n)
bytes_at-put old new k n file is =
    ap (λ (o : Option (Vec ℕ Global)). option_map_or (λ (v : Vec ℕ Global). v.items) o []) is ∙ picked (eqb k n) (λ (v : Vec ℕ Global). v.items) file (get eqb old n) []
