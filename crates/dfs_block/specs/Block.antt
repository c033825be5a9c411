-- Which bytes are a block, and of which records.
use Rattle.std.specs.Prelude.{◌≡◌, ◌≢◌, ◌≤◌, ◌↔◌, ℕ, List, [], ◌∷◌, ◌++◌, length, Option, Some, None, Contains}
use Rattle.std.specs.Int.{w16, to_be_bytes}
use Rattle.std.specs.List.{AllByRecursion, flat_map}
use Rattle.dfs_record.specs.declared.Key.{Key}
use Rattle.dfs_record.specs.declared.Record.{Record}
use Rattle.dfs_record.specs.declared.Value.{Value}
use Rattle.dfs_record.specs.Record.{IsRecord, spelling}
use Rattle.dfs_record.specs.Records.{KeysRise, IsBelow}

-- how many records there are, in two bytes, and their spellings one after the other
abbrev pub block_bytes : List Record → List ℕ
block_bytes rs = to_be_bytes w16 (length rs) ++ flat_map spelling rs

-- the most bytes of a block
abbrev pub most_bytes : ℕ
most_bytes = 4096

-- The bytes are the block of these records: at least one, each valid, in strictly rising order of their keys.
pub record IsBlock (bytes : List ℕ) (rs : List Record) : Type 0 where
  pub some : 1 ≤ length rs
  pub spelled : bytes ≡ block_bytes rs
  pub short : length bytes ≤ most_bytes
  pub rise : KeysRise rs
  pub valid : AllByRecursion IsRecord rs

abbrev pub IsNoBlock : List ℕ → Type 0
IsNoBlock bytes = (rs : List Record) → ¬ (IsBlock bytes rs)

-- bytes are the block of one list
abbrev pub HasOneList : Type 0
HasOneList = (bytes : List ℕ) (rs ss : List Record) → IsBlock bytes rs → IsBlock bytes ss → rs ≡ ss

abbrev pub first_key : List Record → Option Key
first_key [] = None
first_key (r ∷ rs) = Some r.key

abbrev pub last_key : List Record → Option Key
last_key [] = None
last_key (r ∷ []) = Some r.key
last_key (r ∷ s ∷ rs) = last_key (s ∷ rs)

-- the key is above the last one, where there is one
abbrev pub IsAboveLast : Option Key → Key → Type 0
IsAboveLast None key = Unit {0}
IsAboveLast (Some last) key = IsBelow last key

-- keys go on rising exactly where the next one is above the last
abbrev pub RisesByLast : Type 0
RisesByLast = (rs : List Record) (r : Record) → KeysRise (rs ++ r ∷ []) ↔ (KeysRise rs × IsAboveLast (last_key rs) r.key)

abbrev pub HasItsLast : Type 0
HasItsLast = (rs : List Record) (r : Record) → last_key (rs ++ r ∷ []) ≡ Some r.key

-- no record has the key
abbrev pub HasNot : Key → List Record → Type 0
HasNot key rs = AllByRecursion (λ r. r.key ≢ key) rs

-- one of the records has this key and this value
abbrev pub Has : Key → Value → List Record → Type 0
Has key value rs = Contains rs (record { key = key; value = value })
