-- The bytes of files by their number. A file that was never made has none.
use Rattle.std.specs.Prelude.{ℕ, Bool, true, not, ◌&&◌, List, [], ◌∷◌, Vec, if◌then◌else◌, ◌==◌, nat_eq}
use Rattle.std.specs.Option.{option_map_or}
use Rattle.std.specs.HashMap.{HashMap, get}
use Rattle.std.specs.declared.alloc.Global.{Global}
use Rattle.std.specs.declared.hash.FoldHasher.{FoldHasher}
use Rattle.std.specs.declared.hash.BuildHasherDefault.{BuildHasherDefault}

-- in a map
abbrev pub bytes_at : HashMap ℕ (Vec ℕ Global) (BuildHasherDefault FoldHasher) → ℕ → List ℕ
bytes_at files n = option_map_or (λ file. file.items) (get nat_eq files n) []

-- in a list of files, of the first of this number
abbrev pub bytes_in : List (ℕ × Vec ℕ Global) → ℕ → List ℕ
bytes_in [] n = []
bytes_in (file ∷ files) n = if file.0 == n then file.1.items else bytes_in files n

-- no file of a list has this number
abbrev pub is_missing : ℕ → List (ℕ × Vec ℕ Global) → Bool
is_missing n [] = true
is_missing n (file ∷ files) = not (file.0 == n) && is_missing n files

-- no two files of a list have one number
abbrev pub numbers_differ : List (ℕ × Vec ℕ Global) → Bool
numbers_differ [] = true
numbers_differ (file ∷ files) = is_missing file.0 files && numbers_differ files
