-- What some sources have together: the merged list of their records, as far as it is settled by what is loaded.
use Rattle.std.specs.Prelude.{◌≡◌, ℕ, ◌+◌, ◌<◌, ◌⊎◌, not, length, slice_index_or, drop, Bool, ◌||◌, ◌==◌, if◌then◌else◌, List, [], ◌∷◌, map, flat_map, Option, Some, None}
use Rattle.std.specs.List.{list_any, list_all, filter}
use Rattle.std.specs.Ordering.{is_lt, is_le, eq_by_cmp}
use Rattle.std.specs.FinMap.Entries.{where_key, is_sorted-where_key}
use Rattle.dfs_record.specs.declared.Key.{Key}
use Rattle.dfs_record.specs.declared.Record.{Record}
use Rattle.dfs_record.specs.Key.{key_cmp}
use Rattle.dfs_record.specs.Delta.{Delta, delta, records_of, merged}
use Rattle.dfs_record.specs.Records.{Files}

-- what a source has: its loaded records, how many blocks it has to load, and a key above what is loaded
pub record Source : Type 0 where
  pub rest : List Record
  pub unread : ℕ
  pub bound : Option Key

abbrev pub ended : Source
ended = record { rest = []; unread = 0; bound = None }

-- whether nothing that a source has still to load can come at the key or before it:
-- it has no block to load, or its last loaded record is not below the key
abbrev pub is_loaded_to : Key → Source → Bool
is_loaded_to key s = s.unread == 0 || list_any (λ r. is_le (key_cmp key r.key)) s.rest

abbrev pub is_settled : List Source → Key → Bool
is_settled ss key = list_all (is_loaded_to key) ss

-- the records of a change set whose keys pass a test
abbrev pub kept : (Key → Bool) → Delta → Delta
kept p d = record { entries = where_key key_cmp p d.entries; sorted = is_sorted-where_key key_cmp p d.entries d.sorted }

-- the merged list of what the sources have loaded, up to and with the least of the last loaded keys of those that
-- have blocks to load. It is empty where such a source has no loaded record.
abbrev pub merged_rest : List Source → List Record
merged_rest ss = records_of (kept (is_settled ss) (delta (flat_map (λ s. s.rest) ss)))

abbrev pub all_unread : List Source → ℕ
all_unread [] = 0
all_unread (s ∷ ss) = s.unread + all_unread ss

abbrev pub lesser : Option Key → Option Key → Option Key
lesser None b = b
lesser (Some k) None = Some k
lesser (Some k) (Some l) = if is_lt (key_cmp l k) then Some l else Some k

-- the least of their bounds
abbrev pub least_bound : List Source → Option Key
least_bound [] = None
least_bound (s ∷ ss) = lesser s.bound (least_bound ss)

module _ {S : Type 0} (rest : S → List Record) (unread : S → ℕ) (bound : S → Option Key) where
  abbrev pub source : S → Source
  source s = record { rest = rest s; unread = unread s; bound = bound s }

  abbrev pub sources : List S → List Source
  sources ss = map source ss

-- over these files the records still to come of each source are these, one list for each
abbrev pub AllCome : {S : Type 0} → (S → Files → List Record → Type 0) → Files → List S → List (List Record) → Type 0
AllCome Comes files [] [] = Unit {0}
AllCome Comes files [] (l ∷ ls) = ⊥
AllCome Comes files (s ∷ ss) [] = ⊥
AllCome Comes files (s ∷ ss) (l ∷ ls) = Comes s files l × AllCome Comes files ss ls

-- the records still to come of all are the merged list of those of each
abbrev pub MergedComes : {S : Type 0} → (S → Files → List Record → Type 0) → List S → Files → List Record → Type 0
MergedComes Comes ss files l = (lists : List (List Record)) × AllCome Comes files ss lists × (l ≡ merged lists)

-- ---- taking a key off

-- the records but for those with the key
abbrev pub without : Key → List Record → List Record
without k rs = filter (λ r. not (eq_by_cmp key_cmp k r.key)) rs

abbrev pub taken : Key → Source → Source
taken k s = record { rest = without k s.rest; unread = s.unread; bound = s.bound }

-- a source after the key was taken off it, loaded and still to come
pub record IsTaken {S : Type 0} (rest : S → List Record) (unread : S → ℕ) (bound : S → Option Key) (Comes : S → Files → List Record → Type 0) (k : Key) (old new : S) : Type 0 where
  pub same_rest : rest new ≡ without k (rest old)
  pub same_unread : unread new ≡ unread old
  pub same_bound : bound new ≡ bound old
  pub comes : (files : Files) (l : List Record) → Comes old files l → Comes new files (without k l)

-- the key is taken off some of the sources, and the others are as they were
pub record ArePassed {S : Type 0} (rest : S → List Record) (unread : S → ℕ) (bound : S → Option Key) (Comes : S → Files → List Record → Type 0) (k : Key) (old new : List S) : Type 0 where
  pub len : length new ≡ length old
  pub each : (i : ℕ) (d : S) → i < length old → IsTaken rest unread bound Comes k (slice_index_or old i d) (slice_index_or new i d) ⊎ (slice_index_or new i d ≡ slice_index_or old i d)

-- one of the sources has passed its first record, and the others are as they were
pub record IsAdvanced {S : Type 0} (rest : S → List Record) (unread : S → ℕ) (bound : S → Option Key) (Comes : S → Files → List Record → Type 0) (i : ℕ) (old new : List S) : Type 0 where
  pub len : length new ≡ length old
  pub within : i < length old
  pub others : (j : ℕ) (d : S) → ¬ (j ≡ i) → slice_index_or new j d ≡ slice_index_or old j d
  pub rest_is : (d : S) → rest (slice_index_or new i d) ≡ drop 1 (rest (slice_index_or old i d))
  pub unread_is : (d : S) → unread (slice_index_or new i d) ≡ unread (slice_index_or old i d)
  pub bound_is : (d : S) → bound (slice_index_or new i d) ≡ bound (slice_index_or old i d)
  pub comes : (d : S) (files : Files) (l : List Record) → Comes (slice_index_or old i d) files l → Comes (slice_index_or new i d) files (drop 1 l)

-- the merge of some sources has passed its first record
pub record IsMergePassed {S : Type 0} (rest : S → List Record) (unread : S → ℕ) (bound : S → Option Key) (Comes : S → Files → List Record → Type 0) (old new : List S) : Type 0 where
  pub rest_is : merged_rest (sources rest unread bound new) ≡ drop 1 (merged_rest (sources rest unread bound old))
  pub unread_is : all_unread (sources rest unread bound new) ≡ all_unread (sources rest unread bound old)
  pub bound_is : least_bound (sources rest unread bound new) ≡ least_bound (sources rest unread bound old)
  pub comes : (files : Files) (l : List Record) → MergedComes Comes old files l → MergedComes Comes new files (drop 1 l)
