-- Commands with another number of words than theirs ask for nothing.
use Rattle.std.proofs.Common.{◌≡◌, ℕ, List, [], ◌∷◌, length, refl}
use Rattle.std.specs.Prelude.{None}
use Rattle.dfs_script.specs.Line.{mkdir_of, create_of, setattr_of, rename_of, one_path, set_of}

pub no_mkdir : (ws : List (List ℕ)) → ¬ (length ws ≡ 3) → mkdir_of ws ≡ None
no_mkdir [] h = refl
no_mkdir (p ∷ []) h = refl
no_mkdir (p ∷ m ∷ []) h = refl
no_mkdir (p ∷ m ∷ t ∷ []) h = absurd (h refl)
no_mkdir (p ∷ m ∷ t ∷ w ∷ ws) h = refl

pub no_setattr : (ws : List (List ℕ)) → ¬ (length ws ≡ 3) → setattr_of ws ≡ None
no_setattr [] h = refl
no_setattr (p ∷ []) h = refl
no_setattr (p ∷ m ∷ []) h = refl
no_setattr (p ∷ m ∷ t ∷ []) h = absurd (h refl)
no_setattr (p ∷ m ∷ t ∷ w ∷ ws) h = refl

pub no_rename : (ws : List (List ℕ)) → ¬ (length ws ≡ 2) → rename_of ws ≡ None
no_rename [] h = refl
no_rename (p ∷ []) h = refl
no_rename (p ∷ q ∷ []) h = absurd (h refl)
no_rename (p ∷ q ∷ w ∷ ws) h = refl

pub no_one_path : (ws : List (List ℕ)) → ¬ (length ws ≡ 1) → one_path ws ≡ None
no_one_path [] h = refl
no_one_path (p ∷ []) h = absurd (h refl)
no_one_path (p ∷ w ∷ ws) h = refl

pub no_create : (ws : List (List ℕ)) → ¬ (length ws ≡ 5) → create_of ws ≡ None
no_create [] h = refl
no_create (p ∷ []) h = refl
no_create (p ∷ m ∷ []) h = refl
no_create (p ∷ m ∷ t ∷ []) h = refl
no_create (p ∷ m ∷ t ∷ s ∷ []) h = refl
no_create (p ∷ m ∷ t ∷ s ∷ r ∷ []) h = absurd (h refl)
no_create (p ∷ m ∷ t ∷ s ∷ r ∷ w ∷ ws) h = refl

pub no_set : (ws : List (List ℕ)) → ¬ (length ws ≡ 2) → set_of ws ≡ None
no_set [] h = refl
no_set (s ∷ []) h = refl
no_set (s ∷ n ∷ []) h = absurd (h refl)
no_set (s ∷ n ∷ w ∷ ws) h = refl
