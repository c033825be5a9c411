-- The steps of a writer keep what it stands for.
use Rattle.std.proofs.Common.{◌≡◌, ◌≤◌, ◌++◌, ◌∷◌, [], ℕ, true, List, length, take, drop, refl, ◌∙◌, sym, ap, subst, arith}
use Rattle.std.specs.Prelude.{Some, flat_map}
use Rattle.std.specs.List.{AllByRecursion}
use Rattle.std.specs.Ordering.{is_eq, is_le}
use Rattle.std.specs.declared.cmp.Ordering.{Ordering}
use Rattle.std.specs.declared.cmp.Ordering.TheVariants.{Less, Equal, Greater}
use Rattle.std.proofs.lemmas.List.{append-nil, append_assoc, length-append, drop_at, take_at}
use Rattle.std.proofs.lemmas.Grind.{flat_map-append}
use Rattle.dfs_record.specs.declared.Key.{Key}
use Rattle.dfs_record.specs.declared.Record.{Record}
use Rattle.dfs_record.specs.Key.{key_cmp}
use Rattle.dfs_record.specs.Record.{spelling}
use Rattle.dfs_record.specs.Records.{KeysRise}
use Rattle.dfs_record.proofs.Maps.{same_key}
use Rattle.dfs_block.specs.Block.{IsBlock, block_bytes, first_key, last_key}
use Rattle.dfs_block.specs.Front.{records_front}
use Rattle.dfs_block.proofs.Building.{behind_count}
use Rattle.dfs_block.proofs.Rising.{below_second, rise_behind}
use Rattle.dfs_block.proofs.Spelled.{front_spelled}
use Rattle.dfs_fence.specs.declared.fence.Fence.{Fence}
use Rattle.dfs_fence.specs.Index.{AreApart, IsAboveLast, IsAtMost, IsIndex, index_bytes, last_end}
use Rattle.dfs_fence.proofs.Apart.{apart_more, last_more}
use Rattle.dfs_fence.proofs.Orders.{below_at_most}
use Rattle.dfs_fence.proofs.Spelled.{some_is as same_some}
use Rattle.dfs_table.specs.declared.table.Table.{Table}
use Rattle.dfs_table.specs.Stored.{IsBlockOf, IsTableOf, block_at, blocks_by, part, records_at, records_by, run_records, table_records}
use Rattle.dfs_table.specs.Steps.{ClosesBlock, ClosesTable, IsAboveAll, States}
use Rattle.dfs_table.specs.Tables.{all_fences}
use Rattle.dfs_table.specs.Writer.{WriterState, WriterStands, fences_of, pushed}
use Rattle.dfs_table.proofs.Stays.{all_append, all_records_stay, blocks_stay, bytes_stay, run_stays, tables_stay}

-- ---- the first key and the last one

at_most_self : (a : Key) → IsAtMost a a
at_most_self a = by_case (key_cmp a a) (same_key a)
  where
    by_case : (o : Ordering) → is_eq o ≡ true → is_le o ≡ true
    by_case Less e = absurd cc
    by_case Equal e = refl
    by_case Greater e = absurd cc

pub first_at_most_last : (rs : List Record) (a b : Key) → KeysRise rs → first_key rs ≡ Some a → last_key rs ≡ Some b → IsAtMost a b
first_at_most_last [] a b rise first last = absurd cc
first_at_most_last (r ∷ []) a b rise first last = subst (λ k. IsAtMost k b) (same_some _ _ first) (subst (λ k. IsAtMost r.key k) (same_some _ _ last) (at_most_self r.key))
first_at_most_last (r ∷ s ∷ rs) a b rise first last =
    subst (λ k. IsAtMost k b) (same_some _ _ first) (ap is_le (below_at_most r.key s.key b (below_second r s rs rise) (first_at_most_last (s ∷ rs) s.key b (rise_behind r (s ∷ rs) rise) refl last)))

-- ---- fences behind others

pub last_behind : (xs ys : List Fence) (key : Key) → IsAboveLast (last_end (xs ++ ys)) key → IsAboveLast (last_end ys) key
last_behind xs [] key above = tt
last_behind [] (y ∷ ys) key above = above
last_behind (x ∷ []) (y ∷ ys) key above = above
last_behind (x ∷ z ∷ xs) (y ∷ ys) key above = last_behind (z ∷ xs) (y ∷ ys) key above

-- ---- a piece at the end of a file

pub part_at_end : (file piece : List ℕ) (at len : ℕ) → at ≡ length file → len ≡ length piece → part (file ++ piece) at len ≡ piece
part_at_end file piece at len is_at is_len =
    ap (λ l. take len l) (drop_at file piece at (sym is_at)) ∙ ap (λ l. take len l) (sym (append-nil piece)) ∙ take_at piece [] len (sym is_len)

module _ (file : List ℕ) (f : Fence) (rs : List Record) (states : States (length file) rs f) where
  pub block_written : block_at (file ++ block_bytes rs) f ≡ block_bytes rs
  block_written = part_at_end file (block_bytes rs) f.at f.len states.at states.len

  pub records_written : records_at (file ++ block_bytes rs) f ≡ rs
  records_written =
      ap (λ b. records_front f.count (drop 2 b)) block_written
      ∙ ap (λ l. records_front f.count l) (behind_count (length rs) (flat_map spelling rs))
      ∙ ap (λ n. records_front n (flat_map spelling rs)) states.count
      ∙ ap (λ l. records_front (length rs) l) (sym (append-nil (flat_map spelling rs)))
      ∙ front_spelled rs [] states.block.valid

  pub is_written : 12 ≤ length file → IsBlockOf (file ++ block_bytes rs) f
  is_written long = record {
    behind = omega (arith, long, states.at);
    inside = omega (arith, states.at, states.len, length-append file (block_bytes rs));
    block = subst (λ b. IsBlock b (records_at (file ++ block_bytes rs) f)) (sym block_written) (subst (λ l. IsBlock (block_bytes rs) l) (sym records_written) states.block);
    count = ap length records_written ∙ sym states.count;
    first = ap first_key records_written ∙ states.first;
    last = ap last_key records_written ∙ states.last;
  }

-- ---- the steps

module _ (file : List ℕ) (old new : WriterState) (stands : WriterStands file old) (long : 12 ≤ length file) where
  module _ (step : ClosesBlock (length file) old new) where
    abbrev after : List ℕ
    after = file ++ block_bytes old.records

    still : AllByRecursion (IsBlockOf after) old.fences
    still = blocks_stay file (block_bytes old.records) old.fences stands.each

    pub block_stands : WriterStands after new
    block_stands = record {
      closed = subst (AllByRecursion (IsTableOf after)) (sym step.closed) (tables_stay file (block_bytes old.records) old.closed stands.closed);
      each = subst (AllByRecursion (IsBlockOf after)) (sym step.fences) (all_append (IsBlockOf after) old.fences (step.fence ∷ []) still (is_written file step.fence old.records step.states long, tt));
      blocks = step.blocks ∙ ap (λ l. l ++ block_bytes old.records) (stands.blocks ∙ sym (bytes_stay file (block_bytes old.records) old.fences stands.each))
          ∙ ap (λ l. blocks_by after old.fences ++ l) (sym (append-nil _ ∙ block_written file step.fence old.records step.states))
          ∙ sym (flat_map-append (block_at after) old.fences (step.fence ∷ [])) ∙ ap (blocks_by after) (sym step.fences);
    }

    pub block_pushed : pushed after new ≡ pushed file old
    block_pushed =
        ap (λ ts. run_records after ts ++ records_by after new.fences ++ new.records) step.closed
        ∙ ap (λ rs. run_records after old.closed ++ records_by after new.fences ++ rs) step.records ∙ append-nil _
        ∙ ap (λ l. l ++ records_by after new.fences) (run_stays file (block_bytes old.records) old.closed stands.closed)
        ∙ ap (λ l. run_records file old.closed ++ l)
        (ap (records_by after) step.fences ∙ flat_map-append (records_at after) old.fences (step.fence ∷ [])
        ∙ ap (λ l. l ++ records_by after (step.fence ∷ [])) (all_records_stay file (block_bytes old.records) old.fences stands.each)
        ∙ ap (λ l. records_by file old.fences ++ l) (append-nil _ ∙ records_written file step.fence old.records step.states))
        ∙ sym (append_assoc (run_records file old.closed) (records_by file old.fences) old.records)

  module _ {job : ℕ} (step : ClosesTable job (length file) old new) where
    abbrev index : List ℕ
    index = index_bytes old.fences

    same_fences : AllByRecursion (IsBlockOf (file ++ index)) step.table.fences
    same_fences = subst (AllByRecursion (IsBlockOf (file ++ index))) (sym step.table_fences) (blocks_stay file index old.fences stands.each)

    index_written : part (file ++ index) step.table.index_at step.table.index_len ≡ index
    index_written = part_at_end file index step.table.index_at step.table.index_len step.index_at step.index_len

    table_written : IsTableOf (file ++ index) step.table
    table_written = record {
      index = record {
        behind = omega (arith, step.index_at, long);
        inside = omega (arith, step.index_at, step.index_len, length-append file index);
        index = subst (λ b. IsIndex b step.table.fences) (sym index_written) (subst (λ fs. IsIndex index fs) (sym step.table_fences) step.index);
      };
      each = same_fences;
      blocks = step.table_blocks ∙ stands.blocks ∙ sym (bytes_stay file index old.fences stands.each) ∙ ap (blocks_by (file ++ index)) (sym step.table_fences);
    }

    pub table_stands : WriterStands (file ++ index) new
    table_stands = record {
      closed = subst (AllByRecursion (IsTableOf (file ++ index))) (sym step.closed)
          (all_append (IsTableOf (file ++ index)) old.closed (step.table ∷ []) (tables_stay file index old.closed stands.closed) (table_written, tt));
      each = subst (AllByRecursion (IsBlockOf (file ++ index))) (sym step.fences) tt;
      blocks = step.blocks ∙ ap (blocks_by (file ++ index)) (sym step.fences);
    }

    pub table_pushed : pushed (file ++ index) new ≡ pushed file old
    table_pushed =
        ap (λ ts. run_records (file ++ index) ts ++ records_by (file ++ index) new.fences ++ new.records) step.closed
        ∙ ap (λ fs. run_records (file ++ index) (old.closed ++ step.table ∷ []) ++ records_by (file ++ index) fs ++ new.records) step.fences
        ∙ ap (λ rs. run_records (file ++ index) (old.closed ++ step.table ∷ []) ++ [] ++ rs) step.records
        ∙ ap (λ l. l ++ old.records)
        (append-nil _ ∙ flat_map-append (table_records (file ++ index)) old.closed (step.table ∷ [])
        ∙ ap (λ l. l ++ run_records (file ++ index) (step.table ∷ [])) (run_stays file index old.closed stands.closed)
        ∙ ap (λ l. run_records file old.closed ++ l) (append-nil _ ∙ ap (records_by (file ++ index)) step.table_fences ∙ all_records_stay file index old.fences stands.each))

-- ---- the order of the keys

module _ (place : ℕ) (old new : WriterState) (step : ClosesBlock place old new) where
  pub block_fences : fences_of new ≡ fences_of old ++ step.fence ∷ []
  block_fences = ap (λ ts. all_fences ts ++ new.fences) step.closed ∙ ap (λ fs. all_fences old.closed ++ fs) step.fences ∙ sym (append_assoc (all_fences old.closed) old.fences (step.fence ∷ []))

  pub block_rises : AreApart (fences_of old) → IsAboveAll old → AreApart (fences_of new)
  block_rises rise above = subst AreApart (sym block_fences) (apart_more (fences_of old) step.fence rise (above step.fence.first step.states.first))

  pub block_ends : last_end (fences_of new) ≡ last_key old.records
  block_ends = ap last_end block_fences ∙ last_more (fences_of old) step.fence ∙ sym step.states.last

-- the fences of a table stay the fences of all
pub table_fences : (job place : ℕ) (old new : WriterState) → ClosesTable job place old new → fences_of new ≡ fences_of old
table_fences job place old new step =
    ap (λ ts. all_fences ts ++ new.fences) step.closed ∙ ap (λ fs. all_fences (old.closed ++ step.table ∷ []) ++ fs) step.fences ∙ append-nil _
    ∙ flat_map-append (λ (t : Table). t.fences) old.closed (step.table ∷ []) ∙ ap (λ l. all_fences old.closed ++ l) (append-nil _ ∙ step.table_fences)
