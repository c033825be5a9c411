-- A walk in steps: the directories passed so far, and the walk from there.
use Rattle.std.proofs.Common.{◌≡◌, ◌<◌, ◌+◌, ◌-◌, ℕ, zero, suc, List, [], ◌∷◌, ◌++◌, length, drop, Ok, Err, refl, sym, ap, ◌∙◌, arith}
use Rattle.std.specs.Prelude.{Some, slice_get}
use Rattle.dfs_record.specs.declared.DirId.{DirId}
use Rattle.dfs_record.specs.declared.Name.{Name}
use Rattle.dfs_record.specs.declared.Record.{Record}
use Rattle.dfs_record.specs.KeyMap.{get}
use Rattle.dfs_record.specs.Namespace.{Namespace}
use Rattle.dfs_space.specs.Space.{SpaceState, HasRead}
use Rattle.dfs_walk.specs.declared.WalkFault.{WalkFault}
use Rattle.dfs_walk.specs.declared.WalkFault.TheVariants.{NoEnt, NotDir, Fault}
use Rattle.dfs_walk.specs.Walk.{Walk, no_entry, not_dir, at, passing_by, through, walk_from, walk}
use Rattle.dfs_walk.specs.Steps.{Steps, Leads, place_in}

-- a walk with these directories before it
abbrev pub passing : List DirId → Walk → Walk
passing [] w = w
passing (dir ∷ dirs) w = passing_by dir (passing dirs w)

passing-push : (dirs : List DirId) (dir : DirId) (w : Walk) → passing (dirs ++ dir ∷ []) w ≡ passing dirs (passing_by dir w)
passing-push [] dir w = refl
passing-push (d ∷ dirs) dir w = ap (passing_by d) (passing-push dirs dir w)

passing-no_entry : (dirs : List DirId) → passing dirs no_entry ≡ no_entry
passing-no_entry [] = refl
passing-no_entry (d ∷ dirs) = ap (passing_by d) (passing-no_entry dirs)

passing-not_dir : (dirs : List DirId) → passing dirs not_dir ≡ not_dir
passing-not_dir [] = refl
passing-not_dir (d ∷ dirs) = ap (passing_by d) (passing-not_dir dirs)

passing-place : (m : Namespace) (dir : DirId) (name : Name) (dirs rest : List DirId) → passing dirs (at (place_in m dir name rest)) ≡ at (place_in m dir name (dirs ++ rest))
passing-place m dir name [] rest = refl
passing-place m dir name (d ∷ dirs) rest = ap (passing_by d) (passing-place m dir name dirs rest)

-- one name of several
one_name : (m : Namespace) (path : List Name) (i : ℕ) (dir : DirId) (name : Name) → slice_get path i ≡ Some name → i < length path - 1
    → walk_from m (drop i path) dir ≡ through dir (get m (record { parent = dir; name = name })) (walk_from m (drop (i + 1) path))
one_name m [] i dir name is lt = absurd (omega arith)
one_name m (x ∷ []) i dir name is lt = absurd (omega arith)
one_name m (x ∷ y ∷ path) zero dir name is lt =
    let same : x ≡ name = cc in
    ap (λ (n : Name). through dir (get m (record { parent = dir; name = n })) (walk_from m (y ∷ path))) same
one_name m (x ∷ y ∷ path) (suc i) dir name is lt =
    let next : suc (i + 1) ≡ suc i + 1 = omega arith in
    one_name m (y ∷ path) i dir name is (omega arith)
    ∙ ap (λ (n : ℕ). through dir (get m (record { parent = dir; name = name })) (walk_from m (drop n (x ∷ y ∷ path)))) next

-- the last name
last_name : (m : Namespace) (path : List Name) (dir : DirId) (name : Name) → slice_get path (length path - 1) ≡ Some name
    → walk_from m (drop (length path - 1) path) dir ≡ at (place_in m dir name (dir ∷ []))
last_name m [] dir name is = absurd (cc is)
last_name m (x ∷ []) dir name is =
    let same : x ≡ name = cc in
    ap (λ (n : Name). at (place_in m dir n (dir ∷ []))) same
last_name m (x ∷ y ∷ path) dir name is =
    let one : length (x ∷ y ∷ path) - 1 ≡ suc (length (y ∷ path) - 1) = omega arith in
    ap (λ (n : ℕ). walk_from m (drop n (x ∷ y ∷ path)) dir) one
    ∙ last_name m (y ∷ path) dir name (sym (ap (λ (n : ℕ). slice_get (x ∷ y ∷ path) n) one) ∙ is)

module _ {S : Type 0} (StandsFor : S → Namespace → Type 0) (follows : S → S → List Record → Type 0) (state : S → SpaceState) where
  -- what a walk keeps: some calls that changed nothing, and the walk from where it is
  pub record OnTheWay (old now : S) (path : List Name) (passed : List DirId) (index : ℕ) (dir : DirId) : Type 0 where
    pub reads : HasRead StandsFor follows state old now (Ok (tt {0}))
    pub so_far : (m : Namespace) → StandsFor old m → walk m path ≡ passing passed (walk_from m (drop index path) dir)

-- a step on
pub stepped : (m : Namespace) (path : List Name) (passed now : List DirId) (i : ℕ) (dir id : DirId) (name : Name) → slice_get path i ≡ Some name → i < length path - 1 → now ≡ passed ++ dir ∷ []
    → Steps dir (get m (record { parent = dir; name = name })) (Ok id)
    → walk m path ≡ passing passed (walk_from m (drop i path) dir) → walk m path ≡ passing now (walk_from m (drop (i + 1) path) id)
stepped m path passed now i dir id name is lt pushed step so_far =
    so_far
    ∙ ap (passing passed) (one_name m path i dir name is lt ∙ step (walk_from m (drop (i + 1) path)))
    ∙ sym (ap (λ (dirs : List DirId). passing dirs (walk_from m (drop (i + 1) path) id)) pushed ∙ passing-push passed dir _)

-- a step that ends the walk
pub refused : (m : Namespace) (path : List Name) (passed now : List DirId) (i : ℕ) (dir : DirId) (name : Name) (fault : WalkFault) → slice_get path i ≡ Some name → i < length path - 1
    → Steps dir (get m (record { parent = dir; name = name })) (Err fault)
    → walk m path ≡ passing passed (walk_from m (drop i path) dir) → Leads m path now (Err fault)
refused m path passed now i dir name NoEnt is lt step so_far =
    so_far ∙ ap (passing passed) (one_name m path i dir name is lt ∙ step (walk_from m (drop (i + 1) path))) ∙ passing-no_entry passed
refused m path passed now i dir name NotDir is lt step so_far =
    so_far ∙ ap (passing passed) (one_name m path i dir name is lt ∙ step (walk_from m (drop (i + 1) path))) ∙ passing-not_dir passed
refused m path passed now i dir name (Fault fault) is lt step so_far = tt

-- at the last name
pub reached : (m : Namespace) (path : List Name) (passed now : List DirId) (i : ℕ) (dir : DirId) → i ≡ length path - 1 → now ≡ passed ++ dir ∷ []
    → walk m path ≡ passing passed (walk_from m (drop i path) dir) → Leads m path now (Ok dir)
reached m path passed now i dir last pushed so_far name is =
    so_far
    ∙ ap (λ (n : ℕ). passing passed (walk_from m (drop n path) dir)) last
    ∙ ap (passing passed) (last_name m path dir name is)
    ∙ passing-place m dir name passed (dir ∷ [])
    ∙ ap (λ (dirs : List DirId). at (place_in m dir name dirs)) (sym pushed)
