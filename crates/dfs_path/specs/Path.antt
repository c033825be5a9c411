-- Paths as lists of names, and the words that mean them.
use Rattle.std.specs.Prelude.{ℕ, ◌+◌, Bool, ◌&&◌, nat_le, if◌then◌else◌, List, [], ◌∷◌, map, length, sum_by, Option, Some, None, option_and_then, IsTrue, codes}
use Rattle.std.specs.Str.{bytes_eq}
use Rattle.std.specs.List.{list_all}
use Rattle.dfs_record.specs.declared.Name.{Name}
use Rattle.dfs_record.specs.Name.{is_name}
use Rattle.dfs_path.specs.Escape.{unescaped}
use Rattle.dfs_record.specs.Pieces.{pieces, each, passing}

-- a slash, and the bytes of a name
abbrev pub component_len : Name → ℕ
component_len name = 1 + length name

-- at most 64 names, which with a slash for each have at most 4,096 bytes
abbrev pub is_path : List Name → Bool
is_path names = list_all is_name names && nat_le (length names) 64 && nat_le (sum_by component_len names) 4096

abbrev pub IsPath : List Name → Type 0
IsPath names = IsTrue (is_path names)

-- the name that a component means
abbrev pub name_of : List ℕ → Option Name
name_of component = option_and_then (λ name. passing (is_name name) name) (unescaped component)

-- the path that components mean
abbrev pub below_root : List (List ℕ) → Option (List Name)
below_root components = option_and_then (λ names. passing (is_path names) names) (each (map name_of components))

-- one or more components, with nothing before the first slash
abbrev pub path_of_pieces : List (List ℕ) → Option (List Name)
path_of_pieces ([] ∷ component ∷ components) = below_root (component ∷ components)
path_of_pieces _ = None

-- The path that a word means: a slash is the root. The word is split at the slashes before the escapes are read.
abbrev pub path_of : List ℕ → Option (List Name)
path_of word = if bytes_eq word (codes "/") then Some [] else path_of_pieces (pieces 47 word)
