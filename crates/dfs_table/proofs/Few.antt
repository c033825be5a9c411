-- How many records a cursor has before it, on every host: no more than the fences count.
use Rattle.std.proofs.Common.{◌≡◌, ◌≤◌, ◌+◌, ◌∷◌, ◌++◌, [], ℕ, zero, suc, Bool, true, false, if◌then◌else◌, List, length, take, drop, map, arith, refl, ap, length-append}
use Rattle.std.specs.Prelude.{Option, Some, None}
use Rattle.std.specs.List.{sum_by}
use Rattle.std.proofs.lemmas.List.Sums.{sum_by-append, sum_by-cons, sum_by-take-drop}
use Rattle.std.specs.Ordering.{is_lt}
use Rattle.dfs_record.specs.declared.Key.{Key}
use Rattle.dfs_record.specs.declared.Record.{Record}
use Rattle.dfs_record.specs.declared.RecordRef.{RecordRef}
use Rattle.dfs_record.specs.Key.{key_cmp}
use Rattle.dfs_record.specs.Lend.{key_of}
use Rattle.dfs_record.specs.Reading.{record_at}
use Rattle.dfs_block.specs.Front.{first_and, records_front}
use Rattle.dfs_fence.specs.declared.fence.Fence.{Fence}
use Rattle.dfs_fence.specs.Ranges.{is_below}
use Rattle.dfs_table.specs.declared.table.Table.{Table}
use Rattle.dfs_table.specs.Counts.{count_of}
use Rattle.dfs_table.specs.RunRecords.{IsTakenOff, blocks_from, blocks_left, blocks_of, counted, records_in, rest_of, rising_from, run_blocks, up_to}
use Rattle.dfs_table.specs.Tables.{all_fences}

-- no more records than are asked for
front_few : (n : ℕ) (bytes : List ℕ) → length (records_front n bytes) ≤ n
unfolding records_front
front_few zero bytes = omega arith
front_few (suc n) bytes = by (front_few n) (record_at bytes)
  where
    by : ((rest : List ℕ) → length (records_front n rest) ≤ n) → (o : Option (Record × List ℕ)) → length (first_and o (λ rest. records_front n rest)) ≤ suc n
    by behind None = omega arith
    by behind (Some x) = omega (arith, behind x.1)

abbrev counts : List (Fence × List ℕ) → ℕ
counts bs = sum_by (λ (b : Fence × List ℕ). b.0.count) bs

rising_few : (key : Key) (rs : List Record) → length (rising_from key rs) ≤ length rs
rising_few key [] = omega arith
rising_few key (r ∷ rs) = by (rising_few r.key rs) (is_lt (key_cmp key r.key))
  where
    by : length (rising_from r.key rs) ≤ length rs → (b : Bool) → length (if b then r ∷ rising_from r.key rs else []) ≤ length (r ∷ rs)
    by behind true = omega (arith, behind)
    by behind false = omega arith

pub rest_few : (o : Option RecordRef) (old new : List Record) → IsTakenOff o old new → length (rest_of o new) ≤ length old
rest_few None old new taken = omega arith
rest_few (Some r) old new taken = omega (arith, ap length taken, rising_few (key_of r.key) new)

records_few : (high : Option Key) (bs : List (Fence × List ℕ)) → length (records_in (map counted (up_to high bs))) ≤ counts bs
records_few high [] = omega arith
records_few high (b ∷ bs) = by (records_few high bs) (is_below b.0.first high)
  where
    all : counts (b ∷ bs) ≡ b.0.count + counts bs
    all = sum_by-cons (λ (b : Fence × List ℕ). b.0.count) b bs

    by : length (records_in (map counted (up_to high bs))) ≤ counts bs → (c : Bool) → length (records_in (map counted (if c then b ∷ up_to high bs else []))) ≤ counts (b ∷ bs)
    by behind true = omega (arith, all, front_few b.0.count (drop 2 b.1), behind, length-append (records_front b.0.count (drop 2 b.1)) (records_in (map counted (up_to high bs))))
    by behind false = omega arith

blocks_count : (bytes : List ℕ) (fs : List Fence) → counts (blocks_of bytes fs) ≡ count_of fs
blocks_count bytes [] = refl
blocks_count bytes (f ∷ fs) =
    omega (
      arith,
      sum_by-cons (λ (b : Fence × List ℕ). b.0.count) (f, take f.len bytes) (blocks_of (drop f.len bytes) fs),
      sum_by-cons (λ (g : Fence). g.count) f fs,
      blocks_count (drop f.len bytes) fs,
    )

count-append : (fs gs : List Fence) → count_of (fs ++ gs) ≡ count_of fs + count_of gs
count-append fs gs = sum_by-append (λ (f : Fence). f.count) fs gs

run_count : (ts : List Table) → counts (run_blocks ts) ≡ count_of (all_fences ts)
run_count [] = refl
run_count (t ∷ ts) = omega (arith, sum_by-append (λ (b : Fence × List ℕ). b.0.count) (blocks_of t.blocks t.fences) (run_blocks ts), blocks_count t.blocks t.fences, run_count ts, count-append t.fences (all_fences ts))

from_count : (ts : List Table) (next : ℕ) (bytes : List ℕ) → counts (blocks_from ts next bytes) ≤ count_of (all_fences ts)
from_count [] next bytes = omega arith
from_count (t ∷ ts) next bytes =
    omega (
      arith,
      sum_by-append (λ (b : Fence × List ℕ). b.0.count) (blocks_of bytes (drop next t.fences)) (run_blocks ts),
      blocks_count bytes (drop next t.fences),
      sum_by-take-drop (λ (f : Fence). f.count) t.fences next,
      run_count ts,
      count-append t.fences (all_fences ts),
    )

drop_count : (n : ℕ) (ts : List Table) → count_of (all_fences (drop n ts)) ≤ count_of (all_fences ts)
drop_count zero ts = omega arith
drop_count (suc n) [] = omega arith
drop_count (suc n) (t ∷ ts) = omega (arith, drop_count n ts, count-append t.fences (all_fences ts))

-- the blocks from one of the last tables on have no more records than the fences of all count
pub left_few : (high : Option Key) (ts : List Table) (n next : ℕ) (bytes : List ℕ) → length (records_in (blocks_left high (drop n ts) next bytes)) ≤ count_of (all_fences ts)
left_few high ts n next bytes = omega (arith, records_few high (blocks_from (drop n ts) next bytes), from_count (drop n ts) next bytes, drop_count n ts)
