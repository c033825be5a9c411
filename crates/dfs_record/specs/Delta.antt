-- Change sets: what a list of records leaves at each key, deletions among it.
use Rattle.std.specs.Prelude.{◌≡◌, List, [], ◌∷◌, Option, Some, None, if◌then◌else◌, map, fold, flat_map}
use Rattle.std.specs.Ordering.{eq_by_cmp}
use Rattle.dfs_record.specs.declared.Key.{Key}
use Rattle.dfs_record.specs.declared.Record.{Record}
use Rattle.dfs_record.specs.declared.Value.{Value}
use Rattle.dfs_record.specs.Key.{key_cmp}
use Rattle.dfs_record.specs.KeyMap.{KeyMap, empty, get, insert}

abbrev pub Delta : Type 0
Delta = KeyMap Value

abbrev pub with_record : Delta → Record → Delta
with_record d r = insert d r.key r.value

-- each key of the records, with the value of the last record that has it
abbrev pub delta : List Record → Delta
delta rs = fold with_record empty rs

-- the records of a change set, in rising order of their keys
abbrev pub records_of : Delta → List Record
records_of d = map (λ e. record { key = e.0; value = e.1 }) d.entries

-- each key of any of the lists once, in rising order, with the value of the last list that has it
abbrev pub merged : List (List Record) → List Record
merged lists = records_of (delta (flat_map (λ rs. rs) lists))

-- a change set is what its own records leave
abbrev pub IsOwnRecords : Type 0
IsOwnRecords = (d : Delta) → delta (records_of d) ≡ d

abbrev pub or_else : Option Value → Option Value → Option Value
or_else None o = o
or_else (Some v) o = Some v

-- the value of the last record with the key
abbrev pub last_value : Key → List Record → Option Value
last_value q [] = None
last_value q (r ∷ rs) = or_else (last_value q rs) (if eq_by_cmp key_cmp q r.key then Some r.value else None)

-- a change set has at each key the value of the last record with that key
abbrev pub HasLastValues : Type 0
HasLastValues = (rs : List Record) (q : Key) → get (delta rs) q ≡ last_value q rs
