-- The bytes that spell a record. Numbers are big-endian.
use Rattle.std.specs.Prelude.{◌≡◌, ◌↔◌, ℕ, ◌<◌, ◌≤◌, ◌^◌, List, [], ◌∷◌, ◌++◌, length, take}
use Rattle.std.specs.Int.{w16, w32, w64, to_be_bytes}
use Rattle.dfs_record.specs.Name.{IsName, IsReference}
use Rattle.dfs_record.specs.declared.DirId.{DirId}
use Rattle.dfs_record.specs.declared.Key.{Key}
use Rattle.dfs_record.specs.declared.Entry.{Entry}
use Rattle.dfs_record.specs.declared.Entry.TheVariants.{Dir, File}
use Rattle.dfs_record.specs.declared.Value.{Value}
use Rattle.dfs_record.specs.declared.Value.TheVariants.{Del, Put}
use Rattle.dfs_record.specs.declared.Record.{Record}

abbrev pub IsId : DirId → Type 0
IsId id = (id.job < 2 ^ 32) × (id.counter < 2 ^ 32)

-- a name in a directory, whose two numbers are any of 32 bits
pub record IsKey (key : Key) : Type 0 where
  pub parent : IsId key.parent
  pub name : IsName key.name

-- at most 7777 in octal digits
abbrev pub IsMode : ℕ → Type 0
IsMode mode = mode ≤ 4095

-- The root is no entry: a directory that stands in one was made by a job, as its first one or a later one.
abbrev pub IsEntry : Entry → Type 0
IsEntry (Dir id mode time) = IsId id × (1 ≤ id.job) × (1 ≤ id.counter) × IsMode mode × (time < 2 ^ 64)
IsEntry (File mode time size reference) = IsMode mode × (time < 2 ^ 64) × (size < 2 ^ 64) × IsReference reference

abbrev pub IsValue : Value → Type 0
IsValue Del = Unit {0}
IsValue (Put entry) = IsEntry entry

pub record IsRecord (record_ : Record) : Type 0 where
  pub key : IsKey record_.key
  pub value : IsValue record_.value

-- a length in one byte, and that many bytes
abbrev pub short_text : List ℕ → List ℕ
short_text bytes = length bytes ∷ bytes

abbrev pub id_bytes : DirId → List ℕ
id_bytes id = to_be_bytes w32 id.job ++ to_be_bytes w32 id.counter

abbrev pub key_bytes : Key → List ℕ
key_bytes key = id_bytes key.parent ++ short_text key.name

-- the kind in one byte, and what it has
abbrev pub value_bytes : Value → List ℕ
value_bytes Del = 0 ∷ []
value_bytes (Put (Dir id mode time)) = 1 ∷ (id_bytes id ++ to_be_bytes w16 mode ++ to_be_bytes w64 time)
value_bytes (Put (File mode time size reference)) = 2 ∷ (to_be_bytes w16 mode ++ to_be_bytes w64 time ++ to_be_bytes w64 size ++ short_text reference)

abbrev pub SpellsKey : List ℕ → Key → Type 0
SpellsKey bytes key = IsKey key × (bytes ≡ key_bytes key)

-- the bytes are the spelling of a valid record
abbrev pub Spells : List ℕ → Record → Type 0
Spells bytes r = IsRecord r × (bytes ≡ key_bytes r.key ++ value_bytes r.value)

-- No spelling begins another one, and bytes spell one record: what stands before the rest is the same on both sides.
abbrev pub HasOneSpelling : Type 0
HasOneSpelling = (a b more rest : List ℕ) (r s : Record) → Spells a r → Spells b s → a ++ more ≡ b ++ rest → (a ≡ b) × (r ≡ s)

abbrev pub KeyHasOneSpelling : Type 0
KeyHasOneSpelling = (a b more rest : List ℕ) (k l : Key) → SpellsKey a k → SpellsKey b l → a ++ more ≡ b ++ rest → (a ≡ b) × (k ≡ l)

-- the one spelling of a record
abbrev pub spelling : Record → List ℕ
spelling r = key_bytes r.key ++ value_bytes r.value

-- the first n bytes spell it
abbrev pub SpelledFirst : List ℕ → Record → ℕ → Type 0
SpelledFirst bytes r n = (n ≤ length bytes) × Spells (take n bytes) r

-- no first bytes spell a record
abbrev pub NothingSpelled : List ℕ → Type 0
NothingSpelled bytes = (n : ℕ) (r : Record) → ¬ (SpelledFirst bytes r n)

abbrev pub KeySpelledFirst : List ℕ → Key → ℕ → Type 0
KeySpelledFirst bytes key n = (n ≤ length bytes) × SpellsKey (take n bytes) key

abbrev pub NoKeySpelled : List ℕ → Type 0
NoKeySpelled bytes = (n : ℕ) (key : Key) → ¬ (KeySpelledFirst bytes key n)

-- Each valid record has a spelling, and no other one.
abbrev pub IsSpelledOnce : Type 0
IsSpelledOnce = (r : Record) → IsRecord r → (bytes : List ℕ) → Spells bytes r ↔ (bytes ≡ spelling r)

abbrev pub KeyIsSpelledOnce : Type 0
KeyIsSpelledOnce = (key : Key) → IsKey key → (bytes : List ℕ) → SpellsKey bytes key ↔ (bytes ≡ key_bytes key)

-- the most bytes that a record has
abbrev pub longest_record : ℕ
longest_record = 539

-- no spelling is longer
abbrev pub IsSpelledShort : Type 0
IsSpelledShort = (r : Record) → IsRecord r → length (spelling r) ≤ longest_record
