-- Which bytes are an index, and of which fences.
use Rattle.std.specs.Prelude.{◌≡◌, ◌≤◌, ◌<◌, ◌^◌, ℕ, List, [], ◌∷◌, ◌++◌, length, Option, Some, None, IsTrue}
use Rattle.std.specs.Int.{w16, w32, w64, to_be_bytes}
use Rattle.std.specs.List.{AllByRecursion, flat_map}
use Rattle.std.specs.Ordering.{is_le}
use Rattle.dfs_record.specs.declared.Key.{Key}
use Rattle.dfs_record.specs.Key.{key_cmp}
use Rattle.dfs_record.specs.Record.{IsKey, key_bytes}
use Rattle.dfs_record.specs.Records.{IsBelow}
use Rattle.dfs_fence.specs.declared.fence.Fence.{Fence}

abbrev pub IsAtMost : Key → Key → Type 0
IsAtMost a b = IsTrue (is_le (key_cmp a b))

-- The numbers fit their bytes, and the keys are valid.
pub record HasFields (f : Fence) : Type 0 where
  pub at : f.at < 2 ^ 64
  pub len : f.len < 2 ^ 32
  pub count : f.count < 2 ^ 16
  pub first : IsKey f.first
  pub last : IsKey f.last

-- The first key is at most the last one.
pub record IsFence (f : Fence) : Type 0 where
  pub fields : HasFields f
  pub order : IsAtMost f.first f.last

abbrev pub last_end : List Fence → Option Key
last_end [] = None
last_end (f ∷ []) = Some f.last
last_end (f ∷ g ∷ fs) = last_end (g ∷ fs)

-- the key is above the last one, where there is one
abbrev pub IsAboveLast : Option Key → Key → Type 0
IsAboveLast None key = Unit {0}
IsAboveLast (Some last) key = IsBelow last key

-- the last key of each fence is below the first key of the next one
abbrev pub AreApart : List Fence → Type 0
AreApart [] = Unit {0}
AreApart (f ∷ []) = Unit {0}
AreApart (f ∷ g ∷ fs) = IsBelow f.last g.first × AreApart (g ∷ fs)

-- the most fences of an index
abbrev pub most_fences : ℕ
most_fences = 4096

-- fences that may stand in one index
pub record AreFences (fs : List Fence) : Type 0 where
  pub few : length fs ≤ most_fences
  pub each : AllByRecursion IsFence fs
  pub apart : AreApart fs

-- place, length, count, first key, last key
abbrev pub fence_bytes : Fence → List ℕ
fence_bytes f = to_be_bytes w64 f.at ++ to_be_bytes w32 f.len ++ to_be_bytes w16 f.count ++ key_bytes f.first ++ key_bytes f.last

-- how many fences there are, in four bytes, and the fences one after the other
abbrev pub index_bytes : List Fence → List ℕ
index_bytes fs = to_be_bytes w32 (length fs) ++ flat_map fence_bytes fs

-- The bytes are the index of these fences, of which there is at least one.
pub record IsIndex (bytes : List ℕ) (fs : List Fence) : Type 0 where
  pub some : 1 ≤ length fs
  pub spelled : bytes ≡ index_bytes fs
  pub fences : AreFences fs

abbrev pub IsNoIndex : List ℕ → Type 0
IsNoIndex bytes = (fs : List Fence) → ¬ (IsIndex bytes fs)

-- bytes are the index of one list
abbrev pub HasOneList : Type 0
HasOneList = (bytes : List ℕ) (fs gs : List Fence) → IsIndex bytes fs → IsIndex bytes gs → fs ≡ gs

-- the most bytes of an index
abbrev pub most_bytes : ℕ
most_bytes = 2220036

abbrev pub IsShort : Type 0
IsShort = (bytes : List ℕ) (fs : List Fence) → IsIndex bytes fs → length bytes ≤ most_bytes
