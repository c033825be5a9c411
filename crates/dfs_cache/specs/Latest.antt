-- The latest look-ups: pairs of a key and what was found there, the latest first.
use Rattle.std.specs.Prelude.{ℕ, ◌≤◌, Bool, ◌&&◌, ◌==◌, List, ◌∷◌, length, take, Option, IfSome, refl}
use Rattle.std.specs.List.{AllByRecursion, IsDistinct}
use Rattle.std.specs.Option.{option_map_or}
use Rattle.std.specs.Map.{keys_of, lookup_entry, remove_entry}
use Rattle.std.specs.Str.{bytes_eq}
use Rattle.std.specs.Coded.{Coded, code_by, coded×, coded_list, coded_option, coded_ℕ}
use Rattle.dfs_record.specs.Key.{key_code}
use Rattle.dfs_record.specs.Namespace.{entry_code}
use Rattle.dfs_record.specs.Record.{IsEntry}
use Rattle.dfs_record.specs.declared.DirId.{DirId}
use Rattle.dfs_record.specs.declared.Key.{Key}
use Rattle.dfs_record.specs.declared.Entry.{Entry}

-- a key, and what was found there: an entry or nothing
abbrev pub Pair : Type 0
Pair = Key × Option Entry

-- the pairs, the latest first, and how many there may be
pub record Latest : Type 0 where
  pub pairs : List Pair
  pub capacity : ℕ

abbrev pub latest : List Pair → ℕ → Latest
latest pairs capacity = record { pairs = pairs; capacity = capacity }

abbrev pub latest_code : Coded Latest
latest_code = code_by (List Pair × ℕ) (coded× (coded_list (coded× key_code (coded_option entry_code))) coded_ℕ) (λ l. (l.pairs, l.capacity)) (λ p. latest p.0 p.1) (λ _. refl)

abbrev pub same_dir : DirId → DirId → Bool
same_dir a b = a.job == b.job && a.counter == b.counter

abbrev pub same_key : Key → Key → Bool
same_key a b = same_dir a.parent b.parent && bytes_eq a.name b.name

-- what was found, if anything, is valid
abbrev pub IsFound : Option Entry → Type 0
IsFound found = IfSome found IsEntry

abbrev pub AreValid : List Pair → Type 0
AreValid pairs = AllByRecursion (λ (pair : Pair). IsFound pair.1) pairs

-- no key stands twice, the list is within the capacity, there is room for a pair, and what was found is valid
abbrev pub IsLatest : Latest → Type 0
IsLatest l = IsDistinct same_key (keys_of l.pairs) × (length l.pairs ≤ l.capacity) × (1 ≤ l.capacity) × AreValid l.pairs

-- the key's pair goes off
abbrev pub taken_off : Key → Latest → Latest
taken_off key l = latest (remove_entry (same_key key) l.pairs) l.capacity

-- the key's pair, if there is one, comes to the front
abbrev pub brought_forward : Key → Latest → Latest
brought_forward key l = latest (option_map_or (λ pair. pair ∷ remove_entry (same_key key) l.pairs) (lookup_entry (same_key key) l.pairs) l.pairs) l.capacity

-- the pair comes to the front in place of the key's older one, and what passes the capacity goes
abbrev pub put_first : Key → Option Entry → Latest → Latest
put_first key found l = latest (take l.capacity ((key, found) ∷ remove_entry (same_key key) l.pairs)) l.capacity
