-- What a reader of records makes of the bytes that it has read.
use Rattle.std.specs.Prelude.{◌≡◌, ◌≤◌, ℕ, Bool, true, List, length, Option, Some, None}
use Rattle.std.specs.List.{AllByRecursion, flat_map}
use Rattle.std.specs.Ordering.{is_lt}
use Rattle.dfs_record.specs.declared.Key.{Key}
use Rattle.dfs_record.specs.declared.Record.{Record}
use Rattle.dfs_record.specs.declared.Value.{Value}
use Rattle.dfs_record.specs.Delta.{last_value}
use Rattle.dfs_record.specs.Key.{key_cmp}
use Rattle.dfs_record.specs.Record.{IsRecord, spelling}
use Rattle.dfs_record.specs.Records.{KeysRise}
use Rattle.dfs_block.specs.Block.{last_key}

-- The bytes are the spellings of so many valid records, whose keys rise.
pub record AreRecords (count : ℕ) (bytes : List ℕ) (rs : List Record) : Type 0 where
  pub number : length rs ≡ count
  pub spelled : bytes ≡ flat_map spelling rs
  pub rise : KeysRise rs
  pub valid : AllByRecursion IsRecord rs

abbrev pub AreNoRecords : ℕ → List ℕ → Type 0
AreNoRecords count bytes = (rs : List Record) → ¬ (AreRecords count bytes rs)

-- There are such records, and the last of them has this key.
pub record EndAt (count : ℕ) (bytes : List ℕ) (last : Key) : Type 0 where
  pub records : List Record
  pub are : AreRecords count bytes records
  pub last_is : last_key records ≡ Some last

-- what a block that was read holds
pub record IsHeld (count : ℕ) (bytes : List ℕ) (last : Key) (rs : List Record) : Type 0 where
  pub some : 1 ≤ count
  pub are : AreRecords count bytes rs
  pub last_is : last_key rs ≡ Some last

-- whether the key is above the last one, where there is one
abbrev pub is_above : Option Key → Key → Bool
is_above None key = true
is_above (Some last) key = is_lt (key_cmp last key)

-- the value that the records have for a key, where one is sought
abbrev pub value_for : Option Key → List Record → Option Value
value_for None rs = None
value_for (Some key) rs = last_value key rs
