-- Records in chunks that are read one after another, and where a key stands in them.
use Rattle.std.specs.Prelude.{◌≡◌, ℕ, zero, suc, Bool, true, false, List, [], ◌∷◌, ◌++◌, take, drop, flat_map, length, ◌<◌, ◌≤◌, All, IsTrue}
use Rattle.std.specs.Ordering.{is_le}
use Rattle.dfs_record.specs.Key.{key_cmp}
use Rattle.dfs_record.specs.declared.Key.{Key}
use Rattle.dfs_record.specs.declared.Record.{Record}
use Rattle.dfs_record.specs.declared.Value.{Value}
use Rattle.dfs_record.specs.Delta.{delta}
use Rattle.dfs_record.specs.KeyMap.{len}
use Rattle.dfs_record.specs.Record.{IsRecord}
use Rattle.dfs_record.specs.Records.{KeysRise, IsBelow}

-- the most records of a chunk, so that a put moves no more than these
abbrev pub chunk_limit : ℕ
chunk_limit = 64

abbrev pub AreBelow : List Record → Key → Type 0
AreBelow rs key = All (λ r. IsBelow r.key key) rs

abbrev pub AreAbove : List Record → Key → Type 0
AreAbove rs key = All (λ r. IsBelow key r.key) rs

-- whether there is a first record and its key is not above the key
abbrev pub begins_up_to : Key → List Record → Bool
begins_up_to key [] = false
begins_up_to key (r ∷ rs) = is_le (key_cmp r.key key)

-- the first record has the key, or all are above it
abbrev pub BeginsWith : Bool → List Record → Key → Type 0
BeginsWith true rs key = (first : Record) × (others : List Record) × (rs ≡ first ∷ others) × (first.key ≡ key)
BeginsWith false rs key = AreAbove rs key

-- the first record of the back has another value, and all others are as they were
pub record IsReplaced (front back new : List Record) (value : Value) : Type 0 where
  pub first : Record
  pub others : List Record
  pub was : back ≡ first ∷ others
  pub is : new ≡ front ++ record first { value = value } ∷ others

module _ {X : Type 0} (records : X → List Record) where
  -- the records of the chunk at an index, and none where there is no chunk
  abbrev pub chunk_at : List X → ℕ → List Record
  chunk_at [] i = []
  chunk_at (c ∷ cs) zero = records c
  chunk_at (c ∷ cs) (suc i) = chunk_at cs i

  -- the records before an index of a chunk, and those from it on
  abbrev pub before : List X → ℕ → ℕ → List Record
  before chunks i j = flat_map records (take i chunks) ++ take j (chunk_at chunks i)

  abbrev pub from : List X → ℕ → ℕ → List Record
  from chunks i j = drop j (chunk_at chunks i) ++ flat_map records (drop (suc i) chunks)

  -- the records rise over all chunks, each is valid, no chunk is empty, and none has more than 64
  pub record AreChunks (chunks : List X) : Type 0 where
    pub rises : KeysRise (flat_map records chunks)
    pub valid : All IsRecord (flat_map records chunks)
    pub filled : All (λ c. 0 < length (records c)) chunks
    pub short : All (λ c. length (records c) ≤ chunk_limit) chunks

  -- a chunk stands at the index, and a record more fits in it
  pub record HasRoom (chunks : List X) (chunk : ℕ) : Type 0 where
    pub within : chunk < length chunks
    pub fewer : length (chunk_at chunks chunk) < chunk_limit

  -- the chunk at an index is cut into its first records and its others, and a record more fits in either
  pub record IsCut (old new : List X) (chunk half : ℕ) : Type 0 where
    pub front : X
    pub back : X
    pub is : new ≡ take chunk old ++ front ∷ back ∷ drop (suc chunk) old
    pub first : records front ≡ take half (chunk_at old chunk)
    pub others : records back ≡ drop half (chunk_at old chunk)
    pub first_fewer : length (records front) < chunk_limit
    pub others_fewer : length (records back) < chunk_limit

  -- where a key stands, or where it would stand
  pub record IsPlace (chunks : List X) (key : Key) (chunk index : ℕ) (found : Bool) : Type 0 where
    pub within : index ≤ length (chunk_at chunks chunk)
    pub inside : IsTrue found → index < length (chunk_at chunks chunk)
    pub here : 0 < length chunks → chunk < length chunks
    pub below : AreBelow (before chunks chunk index) key
    pub above : BeginsWith found (from chunks chunk index) key

  -- a buffer of so many records: no key without a record that was put
  pub record IsBuffer (chunks : List X) (made : ℕ) : Type 0 where
    pub all : AreChunks chunks
    pub few : made < 4294967295 → len (delta (flat_map records chunks)) ≤ made
