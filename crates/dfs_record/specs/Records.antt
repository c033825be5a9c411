-- Records to come, of which some are loaded.
use Rattle.std.specs.Prelude.{◌≡◌, ℕ, ◌<◌, List, [], ◌∷◌, ◌++◌, Option, Some, None, All, T, map}
use Rattle.std.specs.FinMap.Entries.{is_sorted}
use Rattle.std.specs.declared.cmp.Ordering.TheVariants.{Less}
use Rattle.dfs_record.specs.declared.Key.{Key}
use Rattle.dfs_record.specs.declared.Record.{Record}
use Rattle.dfs_record.specs.declared.records.Head.{Head}
use Rattle.dfs_record.specs.declared.records.Head.TheVariants.{Item, Hungry, End}
use Rattle.dfs_record.specs.Delta.{Delta, delta, records_of}
use Rattle.dfs_record.specs.Key.{key_cmp}
use Rattle.dfs_record.specs.Lend.{record_of}
use Rattle.dfs_record.specs.Record.{IsRecord}

-- the bytes of each file, by its number
abbrev pub Files : Type 0
Files = ℕ → List ℕ

abbrev pub IsBelow : Key → Key → Type 0
IsBelow a b = key_cmp a b ≡ Less

-- each key is below those behind it
abbrev pub KeysRise : List Record → Type 0
KeysRise rs = T (is_sorted key_cmp (map (λ r. (r.key, r.value)) rs))

-- the keys of the records of a change set rise
abbrev pub OwnRecordsRise : Type 0
OwnRecordsRise = (d : Delta) → KeysRise (records_of d)

-- records whose keys rise are those of their change set
abbrev pub RisingAreOwn : Type 0
RisingAreOwn = (rs : List Record) → KeysRise rs → records_of (delta rs) ≡ rs

abbrev pub IsPrefix : List Record → List Record → Type 0
IsPrefix front l = (more : List Record) × (l ≡ front ++ more)

-- the first of the loaded records; with none, whether there are blocks to load
abbrev pub IsHead : List Record → ℕ → Head → Type 0
IsHead rest unread (Item r) = IsRecord (record_of r) × ((others : List Record) × (rest ≡ record_of r ∷ others))
IsHead rest unread Hungry = (rest ≡ []) × (0 < unread)
IsHead rest unread End = (rest ≡ []) × (unread ≡ 0)

-- above the key of each loaded record
abbrev pub IsAbove : Option Key → List Record → Type 0
IsAbove None rest = Unit {0}
IsAbove (Some key) rest = All (λ r. IsBelow r.key key) rest
