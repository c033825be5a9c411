-- Which of the sources is to be taken first.
use Rattle.std.specs.Prelude.{◌≡◌, ℕ, ◌<◌, ◌≤◌, ◌==◌, ◌⊎◌, Option, Bool, true, false, if◌then◌else◌, List, [], ◌∷◌, length, slice_index_or}
use Rattle.std.specs.declared.cmp.Ordering.{Ordering}
use Rattle.std.specs.Ordering.{nat_cmp, ordering_then, is_lt, is_eq}
use Rattle.dfs_record.specs.declared.records.Head.{Head}
use Rattle.dfs_record.specs.declared.records.Head.TheVariants.{Item, Hungry, End}
use Rattle.dfs_record.specs.Lend.{key_of}
use Rattle.dfs_record.specs.declared.Key.{Key}
use Rattle.dfs_record.specs.Key.{key_cmp, root}
use Rattle.dfs_record.specs.declared.Record.{Record}
use Rattle.dfs_record.specs.Records.{Files}
use Rattle.dfs_merge.specs.Sources.{Source, ended, sources, IsAdvanced, ArePassed}

-- a source that has to load stands before all others (0), one that has ended behind them (2)
pub record Rank : Type 0 where
  pub class : ℕ
  pub key : Key
  pub index : ℕ

abbrev pub no_key : Key
no_key = record { parent = root; name = [] }

abbrev pub rank_by : List Record → ℕ → ℕ → Rank
rank_by (r ∷ rs) unread index = record { class = 1; key = r.key; index = index }
rank_by [] unread index = record { class = if unread == 0 then 2 else 0; key = no_key; index = index }

abbrev pub rank : Source → ℕ → Rank
rank s index = rank_by s.rest s.unread index

-- by the first key, and of sources with one first key the last one first
abbrev pub rank_cmp : Rank → Rank → Ordering
rank_cmp a b = ordering_then (nat_cmp a.class b.class) (ordering_then (key_cmp a.key b.key) (nat_cmp b.index a.index))

abbrev pub rank_at : List Source → ℕ → Rank
rank_at ss i = rank (slice_index_or ss i ended) i

-- of two sources the one that stands first
abbrev pub better_of : List Source → ℕ → ℕ → ℕ
better_of ss a b = if is_lt (rank_cmp (rank_at ss b) (rank_at ss a)) then b else a

-- no source stands before this one
pub record IsFirst (ss : List Source) (first : ℕ) : Type 0 where
  pub within : first < length ss
  pub least : (i : ℕ) → i < length ss → is_lt (rank_cmp (rank_at ss i) (rank_at ss first)) ≡ false

-- what a head says of the rank of its source
abbrev pub class_of_head : Head → ℕ
class_of_head Hungry = 0
class_of_head (Item r) = 1
class_of_head End = 2

abbrev pub head_cmp : Head → Head → Ordering
head_cmp (Item a) (Item b) = key_cmp (key_of a.key) (key_of b.key)
head_cmp a b = nat_cmp (class_of_head a) (class_of_head b)

-- whether both sources have a first record, with one key
abbrev pub have_one_key : List Record → List Record → Bool
have_one_key (r ∷ rs) (s ∷ ss) = is_eq (key_cmp r.key s.key)
have_one_key rs ss = false

-- a source is left as it is where it is the first one or has another key, and else it has passed its record
abbrev pub IsStep : {S : Type 0} → (S → List Record) → (S → ℕ) → (S → Option Key) → (S → Files → List Record → Type 0) → ℕ → ℕ → List S → List S → Type 0
IsStep rest unread bound Comes i first old new =
    ((new ≡ old) × ((i ≡ first) ⊎ (have_one_key (slice_index_or (sources rest unread bound old) i ended).rest (slice_index_or (sources rest unread bound old) first ended).rest ≡ false)))
    ⊎ (IsAdvanced rest unread bound Comes i old new × (¬ (i ≡ first)) × (have_one_key (slice_index_or (sources rest unread bound old) i ended).rest (slice_index_or (sources rest unread bound old) first ended).rest ≡ true))

-- the first key is taken off the sources from `low` up to, not with, `high`, but for the first one
pub record OthersPassed {S : Type 0} (rest : S → List Record) (unread : S → ℕ) (bound : S → Option Key) (Comes : S → Files → List Record → Type 0) (first low high : ℕ) (old new : List S) : Type 0 where
  pub passed : (r : Record) (rs : List Record) → (slice_index_or (sources rest unread bound old) first ended).rest ≡ r ∷ rs → ArePassed rest unread bound Comes r.key old new
  pub len : length new ≡ length old
  pub same : (d : S) → slice_index_or new first d ≡ slice_index_or old first d
  pub outside : (j : ℕ) (d : S) → (j < low) ⊎ (high ≤ j) → slice_index_or new j d ≡ slice_index_or old j d
  pub apart : (j : ℕ) → low ≤ j → j < high → ¬ (j ≡ first) → have_one_key (slice_index_or (sources rest unread bound new) j ended).rest (slice_index_or (sources rest unread bound old) first ended).rest ≡ false
