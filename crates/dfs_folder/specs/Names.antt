-- The names of files.
use Rattle.std.specs.Prelude.{◌≡◌, ◌<◌, ◌^◌, ℕ, zero, suc, ◌/◌, ◌%◌, List, [], ◌∷◌, ◌++◌, codes}
use Rattle.std.specs.Char.{digit_char}

-- the last digits of a number to base 16, so many of them
abbrev pub hex_digits : ℕ → ℕ → List ℕ
hex_digits zero number = []
hex_digits (suc count) number = hex_digits count (number / 16) ++ digit_char (number % 16) ∷ []

-- file 0 is the registry, and every other one the log of the job of its number
abbrev pub file_name : ℕ → List ℕ
file_name zero = codes "REGISTRY"
file_name (suc n) = codes "LOG." ++ hex_digits 8 (suc n)

-- the path of a file in a folder
abbrev pub path_of : List ℕ → ℕ → List ℕ
path_of folder number = folder ++ codes "/" ++ file_name number

-- two numbers of files with one name are the same
abbrev pub HasOwnName : Type 0
HasOwnName = (a b : ℕ) → a < 2 ^ 32 → b < 2 ^ 32 → file_name a ≡ file_name b → a ≡ b
