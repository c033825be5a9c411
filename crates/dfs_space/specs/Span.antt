-- Where the keys of a directory lie in the order of keys.
use Rattle.std.specs.Prelude.{◌≡◌, ◌+◌, Bool, nat_lt, if◌then◌else◌, [], ◌∷◌, Option, Some, None, MatchOption, IsTrue, IsFalse}
use Rattle.std.specs.declared.ops.Bound.{Bound}
use Rattle.std.specs.declared.ops.Bound.TheVariants.{Included, Excluded, Unbounded}
use Rattle.std.specs.Ordering.{is_le, is_lt}
use Rattle.std.specs.BTreeMap.Range.{range_contains}
use Rattle.dfs_record.specs.declared.DirId.{DirId}
use Rattle.dfs_record.specs.declared.Key.{Key}
use Rattle.dfs_record.specs.Key.{dir_cmp, key_cmp}
use Rattle.dfs_record.specs.Record.{IsId, IsKey}
use Rattle.dfs_space.specs.Children.{is_same_dir}

-- the least key that a directory may have: no name has a byte 0
abbrev pub first_key : DirId → Key
first_key dir = record { parent = dir; name = 1 ∷ [] }

-- the identity that comes next in the order, where there is one
abbrev pub next_dir : DirId → Option DirId
next_dir dir =
    if nat_lt dir.counter 4294967295 then Some (record { job = dir.job; counter = dir.counter + 1 })
    else (if nat_lt dir.job 4294967295 then Some (record { job = dir.job + 1; counter = 0 }) else None)

-- up to the keys of this directory
abbrev pub end_of : Option DirId → Bound Key
end_of None = Unbounded
end_of (Some next) = Excluded (first_key next)

-- a key of the directory, and none of its keys is below
pub record IsLeastKey (dir : DirId) (key : Key) : Type 0 where
  pub valid : IsKey key
  pub inside : key.parent ≡ dir
  pub least : (other : Key) → IsKey other → other.parent ≡ dir → IsTrue (is_le (key_cmp key other))

abbrev pub FirstKeyIsLeast : Type 0
FirstKeyIsLeast = (dir : DirId) → IsId dir → IsLeastKey dir (first_key dir)

-- an identity above this one, and none above it is below
pub record IsNextDir (dir next : DirId) : Type 0 where
  pub valid : IsId next
  pub above : IsTrue (is_lt (dir_cmp dir next))
  pub least : (other : DirId) → IsId other → IsTrue (is_lt (dir_cmp dir other)) → IsTrue (is_le (dir_cmp next other))

abbrev pub NoneIsAbove : DirId → Type 0
NoneIsAbove dir = (other : DirId) → IsId other → IsFalse (is_lt (dir_cmp dir other))

abbrev pub NextDirIsLeast : Type 0
NextDirIsLeast = (dir : DirId) → IsId dir → MatchOption (next_dir dir) (NoneIsAbove dir) (IsNextDir dir)

-- whether the key lies from the first key of the directory up to the keys of the next one
abbrev pub is_spanned : DirId → Key → Bool
is_spanned dir key = range_contains key_cmp (Included (first_key dir)) (end_of (next_dir dir)) key

-- just the keys of the directory do
abbrev pub SpanIsDir : Type 0
SpanIsDir = (dir : DirId) (key : Key) → IsId dir → IsKey key → is_spanned dir key ≡ is_same_dir key.parent dir
