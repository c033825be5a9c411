-- The records of blocks whose fences are apart rise.
use Rattle.std.proofs.Common.{◌≡◌, ◌++◌, ◌∷◌, [], ℕ, List, ◌∙◌, sym, ap, subst, refl}
use Rattle.std.specs.Prelude.{Some}
use Rattle.std.specs.List.{AllByRecursion}
use Rattle.std.proofs.lemmas.List.{append_assoc, append-nil}
use Rattle.std.proofs.lemmas.Grind.{flat_map-append}
use Rattle.dfs_record.specs.declared.Key.{Key}
use Rattle.dfs_record.specs.declared.Record.{Record}
use Rattle.dfs_record.specs.Delta.{delta, records_of}
use Rattle.dfs_record.specs.Records.{KeysRise, IsBelow}
use Rattle.dfs_record.proofs.Replays.{records_of-delta}
use Rattle.dfs_block.specs.Block.{IsAboveLast, first_key, last_key}
use Rattle.dfs_block.proofs.Rising.{below_second, last_more, rise_above, rise_behind}
use Rattle.dfs_fence.specs.declared.fence.Fence.{Fence}
use Rattle.dfs_fence.specs.Index.{AreApart}
use Rattle.dfs_fence.proofs.Spelled.{some_is}
use Rattle.dfs_table.specs.declared.table.Table.{Table}
use Rattle.dfs_table.specs.Stored.{IsBlockOf, IsStored, IsTableOf, records_at, records_by, run_records, table_records}
use Rattle.dfs_table.specs.Tables.{all_fences}
use Rattle.dfs_table.specs.Writer.{WriterStands, WriterState, pushed}
use Rattle.dfs_table.proofs.Stays.{all_append}

-- the first key of the one list is above the last one of the other
abbrev Follows : List Record → List Record → Type 0
Follows rs ss = (key : Key) → first_key ss ≡ Some key → IsAboveLast (last_key rs) key

pub rise_join : (rs ss : List Record) → KeysRise rs → KeysRise ss → Follows rs ss → KeysRise (rs ++ ss)
rise_join rs [] a b follows = subst KeysRise (sym (append-nil rs)) a
rise_join rs (s ∷ ss) a b follows =
    subst KeysRise (append_assoc rs (s ∷ []) ss)
    (rise_join (rs ++ s ∷ []) ss (rise_above rs s a (follows s.key refl)) (rise_behind s ss b)
    (next ss b))
  where
    next : (l : List Record) → KeysRise (s ∷ l) → Follows (rs ++ s ∷ []) l
    next [] rise key first = absurd cc
    next (t ∷ l) rise key first = subst (λ o. IsAboveLast o key) (sym (last_more rs s)) (subst (IsBelow s.key) (some_key first) (below_second s t l rise))
      where
        some_key : Some t.key ≡ Some key → t.key ≡ key
        some_key e = some_is t.key key e

first_of_blocks : (file : List ℕ) (f : Fence) (fs : List Fence) → IsBlockOf file f → first_key (records_by file (f ∷ fs)) ≡ Some f.first
first_of_blocks file f fs is = by_case (records_at file f) is.first
  where
    by_case : (rs : List Record) → first_key rs ≡ Some f.first → first_key (rs ++ records_by file fs) ≡ Some f.first
    by_case [] e = absurd cc
    by_case (r ∷ rs) e = e

pub blocks_rise : (file : List ℕ) (fs : List Fence) → AllByRecursion (IsBlockOf file) fs → AreApart fs → KeysRise (records_by file fs)
blocks_rise file [] each apart = tt
blocks_rise file (f ∷ []) each apart = subst KeysRise (sym (append-nil (records_at file f))) each.0.block.rise
blocks_rise file (f ∷ g ∷ fs) each apart =
    rise_join (records_at file f) (records_by file (g ∷ fs)) each.0.block.rise (blocks_rise file (g ∷ fs) each.1 apart.1)
    (λ key first. subst (λ o. IsAboveLast o key) (sym each.0.last) (subst (IsBelow f.last) (same key first) apart.0))
  where
    same : (key : Key) → first_key (records_by file (g ∷ fs)) ≡ Some key → g.first ≡ key
    same key first = some_is g.first key (sym (first_of_blocks file g fs each.1.0) ∙ first)

-- ---- runs

pub all_blocks : (file : List ℕ) (ts : List Table) → AllByRecursion (IsTableOf file) ts → AllByRecursion (IsBlockOf file) (all_fences ts)
all_blocks file [] each = tt
all_blocks file (t ∷ ts) each = all_append (IsBlockOf file) t.fences (all_fences ts) each.0.each (all_blocks file ts each.1)

pub all_records : (file : List ℕ) (ts : List Table) → run_records file ts ≡ records_by file (all_fences ts)
all_records file [] = refl
all_records file (t ∷ ts) = ap (λ l. table_records file t ++ l) (all_records file ts) ∙ sym (flat_map-append (records_at file) t.fences (all_fences ts))

pub run_rises : (file : List ℕ) (ts : List Table) → AllByRecursion (IsTableOf file) ts → AreApart (all_fences ts) → KeysRise (run_records file ts)
run_rises file ts each apart = subst KeysRise (sym (all_records file ts)) (blocks_rise file (all_fences ts) (all_blocks file ts each) apart)

-- the records of a run are those of their change set
pub own_records : (file : List ℕ) (ts : List Table) → AllByRecursion (IsTableOf file) ts → AreApart (all_fences ts) → records_of (delta (run_records file ts)) ≡ run_records file ts
own_records file ts each apart = records_of-delta (run_records file ts) (run_rises file ts each apart)

-- a writer that has written all
module _ (file : List ℕ) (w : WriterState) (no_records : w.records ≡ []) (no_fences : w.fences ≡ []) where
  all_closed : pushed file w ≡ run_records file w.closed
  all_closed =
      ap (λ rs. run_records file w.closed ++ records_by file w.fences ++ rs) no_records
      ∙ ap (λ fs. run_records file w.closed ++ records_by file fs ++ []) no_fences ∙ append-nil _ ∙ append-nil (run_records file w.closed)

  pub is_stored : WriterStands file w → AreApart (all_fences w.closed) → (rs : List Record) → pushed file w ≡ rs → IsStored file (record { tables = w.closed }) (delta rs)
  is_stored stands apart rs same = record {
    each = stands.closed;
    records = sym (own_records file w.closed stands.closed apart) ∙ ap (λ l. records_of (delta l)) (sym all_closed ∙ same);
  }
