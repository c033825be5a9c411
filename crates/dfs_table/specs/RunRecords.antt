-- The records of the blocks of a run, one block after the other, up to a key.
use Rattle.std.specs.Prelude.{◌≡◌, ◌<◌, ℕ, slice_get, List, [], ◌∷◌, ◌++◌, take, drop, flat_map, map, filter, Option, Some, None, Bool, true, false, refl, if◌then◌else◌}
use Rattle.std.specs.Ordering.{is_lt}
use Rattle.dfs_record.specs.declared.Key.{Key}
use Rattle.dfs_record.specs.declared.Record.{Record}
use Rattle.dfs_record.specs.declared.RecordRef.{RecordRef}
use Rattle.dfs_record.specs.Key.{key_cmp}
use Rattle.dfs_record.specs.Lend.{key_of, record_of}
use Rattle.dfs_record.specs.Records.{KeysRise}
use Rattle.dfs_block.proofs.Rising.{rise_before}
use Rattle.dfs_fence.proofs.Orders.{less}
use Rattle.dfs_block.specs.Front.{records_front}
use Rattle.dfs_fence.specs.declared.fence.Fence.{Fence}
use Rattle.dfs_fence.specs.Index.{last_end}
use Rattle.dfs_fence.specs.Ranges.{is_below, is_from, meets}
use Rattle.dfs_table.specs.declared.table.Table.{Table}
use Rattle.dfs_table.specs.Spans.{IsEndsPoint}
use Rattle.dfs_table.specs.Stored.{blocks_by, records_by}
use Rattle.dfs_table.specs.Tables.{all_fences}

-- the records of the blocks whose fences meet the range, in order
abbrev pub records_meeting : Option Key → Option Key → List ℕ → List Table → List Record
records_meeting low high file ts = records_by file (filter (meets low high) (all_fences ts))

-- so many tables end below the low end
abbrev pub IsFirstTable : Option Key → List Table → ℕ → Type 0
IsFirstTable None ts n = n ≡ 0
IsFirstTable (Some low) ts n = IsEndsPoint ts low n

-- its last block does not end below the low end
pub record Reaches (low : Option Key) (t : Table) : Type 0 where
  pub last : Key
  pub ends : last_end t.fences ≡ Some last
  pub from : is_from low last ≡ true

-- the first block of the table that is to be read, and the bytes from it on
pub record BeginsIn (low : Option Key) (file : List ℕ) (t : Table) (next : ℕ) (bytes : List ℕ) : Type 0 where
  pub before : (i : ℕ) (f : Fence) → slice_get t.fences i ≡ Some f → i < next → is_from low f.last ≡ false
  pub first : Fence
  pub there : slice_get t.fences next ≡ Some first
  pub from : is_from low first.last ≡ true
  pub bytes_are : bytes ≡ blocks_by file (drop next t.fences)

-- ---- what a cursor has before it

-- each fence with the bytes of its block, which are cut off the front one after the other
abbrev pub blocks_of : List ℕ → List Fence → List (Fence × List ℕ)
blocks_of bytes [] = []
blocks_of bytes (f ∷ fs) = (f, take f.len bytes) ∷ blocks_of (drop f.len bytes) fs

abbrev pub run_blocks : List Table → List (Fence × List ℕ)
run_blocks ts = flat_map (λ t. blocks_of t.blocks t.fences) ts

-- the blocks from this one of the first table on, whose bytes these are
abbrev pub blocks_from : List Table → ℕ → List ℕ → List (Fence × List ℕ)
blocks_from [] next bytes = []
blocks_from (t ∷ ts) next bytes = blocks_of bytes (drop next t.fences) ++ run_blocks ts

-- up to the first block that does not begin below the high end
abbrev pub up_to : Option Key → List (Fence × List ℕ) → List (Fence × List ℕ)
up_to high [] = []
up_to high (b ∷ bs) = if is_below b.0.first high then b ∷ up_to high bs else []

-- how many records the fence counts, and the bytes behind the two of the block's own count
abbrev pub counted : Fence × List ℕ → ℕ × List ℕ
counted b = (b.0.count, drop 2 b.1)

abbrev pub blocks_left : Option Key → List Table → ℕ → List ℕ → List (ℕ × List ℕ)
blocks_left high ts next bytes = map counted (up_to high (blocks_from ts next bytes))

abbrev pub records_in : List (ℕ × List ℕ) → List Record
records_in blocks = flat_map (λ (b : ℕ × List ℕ). records_front b.0 b.1) blocks

-- the records still to come of the block under way, and those of the blocks behind it
abbrev pub coming : ℕ → List ℕ → List (ℕ × List ℕ) → List Record
coming left bytes blocks = records_front left bytes ++ records_in blocks

-- the records as long as each key is above the one before it
abbrev pub rising_from : Key → List Record → List Record
rising_from key [] = []
rising_from key (r ∷ rs) = if is_lt (key_cmp key r.key) then r ∷ rising_from r.key rs else []

abbrev pub rest_of : Option RecordRef → List Record → List Record
rest_of None coming = []
rest_of (Some r) coming = record_of r ∷ rising_from (key_of r.key) coming

-- the record was taken off those before, or there was none
abbrev pub IsTakenOff : Option RecordRef → List Record → List Record → Type 0
IsTakenOff None old new = old ≡ []
IsTakenOff (Some r) old new = old ≡ record_of r ∷ new

pub rising_rises : (r : Record) (rs : List Record) → KeysRise (r ∷ rising_from r.key rs)
rising_rises r [] = tt
rising_rises r (s ∷ rs) = by (is_lt (key_cmp r.key s.key)) refl (rising_rises s rs)
  where
    by : (b : Bool) → is_lt (key_cmp r.key s.key) ≡ b → KeysRise (s ∷ rising_from s.key rs) → KeysRise (r ∷ (if b then s ∷ rising_from s.key rs else []))
    by true e behind = rise_before r s (rising_from s.key rs) (less (key_cmp r.key s.key) e) behind
    by false e behind = tt

pub rest_rises : (first : Option RecordRef) (coming : List Record) → KeysRise (rest_of first coming)
rest_rises None coming = tt
rest_rises (Some r) coming = rising_rises (record_of r) coming
