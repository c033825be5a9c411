-- Tables that are read back from the bytes of a log.
use Rattle.std.proofs.Common.{◌≡◌, ℕ, ◌+◌, ◌≤◌, Bool, true, false, List, [], ◌∷◌, ◌++◌, ◌&&◌, ◌-◌, length, take, drop, refl, sym, ap, subst, ◌∙◌, arith, length-append, length-take, length-drop}
use Rattle.std.specs.Prelude.{IsErrOf, IsTrue, Result, Some, flat_map, min, slice_get}
use Rattle.std.specs.Int.{w16, to_be_bytes}
use Rattle.std.specs.List.{AllByRecursion, list_all}
use Rattle.std.proofs.lemmas.List.{drop_at}
use Rattle.dfs_host.specs.Fault.{NoFault}
use Rattle.dfs_host.specs.Host.{HostState}
use Rattle.dfs_host.specs.declared.fault.Fault.TheVariants.{Disk as DiskFault}
use Rattle.dfs_record.specs.declared.Record.{Record}
use Rattle.dfs_record.specs.Record.{spelling}
use Rattle.dfs_block.specs.Block.{IsBlock, first_key, last_key}
use Rattle.dfs_block.specs.Front.{records_front}
use Rattle.dfs_block.proofs.Blocks.{front_all, one_list as one_block}
use Rattle.dfs_fence.specs.declared.fence.Fence.{Fence}
use Rattle.dfs_fence.specs.Index.{most_bytes}
use Rattle.dfs_fence.specs.Places.{BlockLies, Lies}
use Rattle.dfs_fence.proofs.Indexes.{begins_as, one_list, short}
use Rattle.dfs_fence.proofs.Spelled.{all_more, flat_more}
use Rattle.dfs_table.specs.declared.open.OpenFault.{OpenFault}
use Rattle.dfs_table.specs.declared.table.Table.{Table}
use Rattle.dfs_table.specs.declared.open.OpenFault.TheVariants.{Fault}
use Rattle.dfs_table.specs.Identities.{IsWithin, is_within}
use Rattle.dfs_table.specs.Opened.{Agrees, BlocksMayLie, EndsBy, HasOpenCause, IsBlockIn, IsNoTable, IsTableAt}
use Rattle.dfs_table.specs.Stored.{IsBlockOf, IsIndexAt, IsTableOf, block_at, blocks_by, part, records_at, records_by}
use Rattle.dfs_table.proofs.Counting.{take_next}
use Rattle.dfs_table.proofs.Stays.{all_append, all_behind, all_front}

first : (a b : Bool) → (a && b) ≡ true → a ≡ true
first true b p = refl
first false b p = p

second : (a b : Bool) → (a && b) ≡ true → b ≡ true
second true b p = p
second false b p = absurd cc

both : (a b : Bool) → a ≡ true → b ≡ true → (a && b) ≡ true
both true b p q = q
both false b p q = p

pub all_true : {X : Type 0} (test : X → Bool) (xs : List X) → list_all test xs ≡ true → AllByRecursion (λ x. IsTrue (test x)) xs
all_true test [] e = tt
all_true test (x ∷ xs) e = (first (test x) (list_all test xs) e, all_true test xs (second (test x) (list_all test xs) e))

pub true_of_all : {X : Type 0} (test : X → Bool) (xs : List X) → AllByRecursion (λ x. IsTrue (test x)) xs → list_all test xs ≡ true
true_of_all test [] all = refl
true_of_all test (x ∷ xs) all = both (test x) (list_all test xs) all.0 (true_of_all test xs all.1)

pub part_length : (file : List ℕ) (at len : ℕ) → length (part file at len) ≡ min len (length file - at)
part_length file at len = length-take len (drop at file) ∙ ap (min len) (length-drop at file)

-- a block of which all bytes were read lies inside the file
pub block_inside : (file : List ℕ) (at len : ℕ) (rs : List Record) → length (part file at len) ≡ len → IsBlock (part file at len) rs → at + len ≤ length file
block_inside file at len rs whole is =
    omega (arith, whole, part_length file at len, ap length is.spelled, length-append (to_be_bytes w16 (length rs)) (flat_map spelling rs))

-- the records of a block are those that its fence counts behind the first two bytes
pub front_is : (bytes : List ℕ) (rs : List Record) (count : ℕ) → IsBlock bytes rs → length rs ≡ count → records_front count (drop 2 bytes) ≡ rs
front_is bytes rs count is number =
    front_all count (drop 2 bytes) rs (record {
      number = number;
      spelled = ap (drop 2) is.spelled ∙ drop_at (to_be_bytes w16 (length rs)) (flat_map spelling rs) 2 refl;
      rise = is.rise;
      valid = is.valid;
    })

-- what is so of the one list of the block
pub agrees_by : (job : ℕ) (f : Fence) (bytes : List ℕ) (rs : List Record) → IsBlock bytes rs → Agrees job f bytes → list_all (is_within job) rs ≡ true
agrees_by job f bytes rs is agrees = true_of_all (is_within job) rs (subst (AllByRecursion (IsWithin job)) (one_block bytes agrees.records rs agrees.block is) agrees.within)

module _ (file : List ℕ) (job end : ℕ) (f : Fence) where
  pub block_of : Agrees job f (block_at file f) → 12 ≤ f.at → f.at + f.len ≤ end → length (block_at file f) ≡ f.len → IsBlockIn file job end f
  block_of agrees behind ends whole =
      let same : agrees.records ≡ records_at file f = sym (front_is (block_at file f) agrees.records f.count agrees.block agrees.count) in
      record {
        block = record {
          behind = behind;
          inside = block_inside file f.at f.len agrees.records whole agrees.block;
          block = subst (IsBlock (block_at file f)) same agrees.block;
          count = sym (ap length same) ∙ agrees.count;
          first = sym (ap first_key same) ∙ agrees.first;
          last = sym (ap last_key same) ∙ agrees.last;
        };
        ends = ends;
        within = subst (AllByRecursion (IsWithin job)) same agrees.within;
      }

-- ---- runs of reads

pub no_fault_by : {T : Type 0} {old mid new : HostState} {result : Result T OpenFault} → NoFault old mid → HasOpenCause mid new result → (IsErrOf result (Fault DiskFault) → ⊥) → NoFault old new
no_fault_by before cause other = record {
  tells = cause.tells ∙ before.tells;
  later = omega (arith, before.later, cause.later);
  disk_faults = cause.other other ∙ before.disk_faults;
  say_faults = cause.say_faults ∙ before.say_faults;
  reads_later = omega (arith, before.reads_later, cause.reads_later);
}

-- one fence more

pub each_next : (P : Fence → Type 0) (fs : List Fence) (i : ℕ) (f : Fence) → slice_get fs i ≡ Some f → AllByRecursion P (take i fs) → P f → AllByRecursion P (take (i + 1) fs)
each_next P fs i f at each here = subst (AllByRecursion P) (sym (take_next fs i f at)) (all_more P (take i fs) f each here)

-- a block of the file, which is the same at a later moment
pub blocks_next : (file later : List ℕ) (fs : List Fence) (i : ℕ) (f : Fence) {old new : List ℕ} → later ≡ file → slice_get fs i ≡ Some f
    → old ≡ blocks_by file (take i fs) → new ≡ old ++ block_at later f → new ≡ blocks_by file (take (i + 1) fs)
blocks_next file later fs i f same at so_far more =
    more
    ∙ ap (λ (l : List ℕ). l ++ block_at later f) so_far
    ∙ ap (λ (l : List ℕ). blocks_by file (take i fs) ++ block_at l f) same
    ∙ sym (ap (blocks_by file) (take_next fs i f at) ∙ flat_more (block_at file) (take i fs) f)

-- ---- the whole table

module _ (file : List ℕ) (job end : ℕ) where
  pub blocks_in : (fs : List Fence) → AllByRecursion (IsBlockOf file) fs → AllByRecursion (EndsBy end) fs → AllByRecursion (IsWithin job) (records_by file fs) → AllByRecursion (IsBlockIn file job end) fs
  blocks_in [] each ends within = tt
  blocks_in (f ∷ fs) each ends within =
      let here = all_front (IsWithin job) (records_at file f) (records_by file fs) within in
      (record { block = each.0; ends = ends.0; within = here }, blocks_in fs each.1 ends.1 (all_behind (IsWithin job) (records_at file f) (records_by file fs) within))

  each_block : (fs : List Fence) → AllByRecursion (IsBlockIn file job end) fs → AllByRecursion (IsBlockOf file) fs
  each_block [] all = tt
  each_block (f ∷ fs) all = (all.0.block, each_block fs all.1)

  each_end : (fs : List Fence) → AllByRecursion (IsBlockIn file job end) fs → AllByRecursion (EndsBy end) fs
  each_end [] all = tt
  each_end (f ∷ fs) all = (all.0.ends, each_end fs all.1)

  all_within : (fs : List Fence) → AllByRecursion (IsBlockIn file job end) fs → AllByRecursion (IsWithin job) (records_by file fs)
  all_within [] all = tt
  all_within (f ∷ fs) all = all_append (IsWithin job) (records_at file f) (records_by file fs) all.0.within (all_within fs all.1)

  -- each block of a table may lie where its fence says
  pub each_lies : (fs : List Fence) → AllByRecursion (IsBlockOf file) fs → AllByRecursion (EndsBy end) fs → AllByRecursion (BlockLies end) fs
  each_lies [] each ends = tt
  each_lies (f ∷ fs) each ends =
      let short : f.len ≤ 4096 = omega (arith, each.0.block.short, part_length file f.at f.len, each.0.inside) in
      (record { behind = each.0.behind; short = short; ends = ends.0 }, each_lies fs each.1 ends.1)

  module _ (at len : ℕ) where
    -- the blocks of the index's one list
    pub may_lie : (fs : List Fence) → IsIndexAt file at len fs → AllByRecursion (BlockLies end) fs → BlocksMayLie file at len end
    may_lie fs index all = record {
      begins = begins_as (part file at len) fs index.index;
      blocks = λ gs is. subst (AllByRecursion (BlockLies end)) (one_list (part file at len) fs gs index.index is.index) all;
    }

    -- where no index may lie, there is no table
    pub lies_of : (fs : List Fence) → IsTableAt file job at len end fs → Lies at len most_bytes end
    lies_of fs is = record {
      behind = is.index.behind;
      short = omega (arith, short (part file at len) fs is.index.index, part_length file at len, is.index.inside);
      ends = is.index_ends;
    }

    pub table_by : (fs : List Fence) → at + len ≤ end → IsIndexAt file at len fs → AllByRecursion (IsBlockIn file job end) fs → IsTableAt file job at len end fs
    table_by fs ends index all = record {
      index = index;
      index_ends = ends;
      each = each_block fs all;
      each_ends = each_end fs all;
      within = all_within fs all;
    }

    -- where a block of the index's one list is missing, there is no table
    pub no_table : (fs : List Fence) → IsIndexAt file at len fs → ¬ (AllByRecursion (IsBlockIn file job end) fs) → IsNoTable file job at len end
    no_table fs index out gs is =
        let same = one_list (part file at len) gs fs is.index.index index.index in
        out (subst (AllByRecursion (IsBlockIn file job end)) same (blocks_in gs is.each is.each_ends is.within))

    pub stored_by : (t : Table) → IsTableAt file job at len end t.fences → t.index_at ≡ at → t.index_len ≡ len → t.blocks ≡ blocks_by file t.fences → IsTableOf file t
    stored_by t is same_at same_len same_blocks = record {
      index = subst (λ n. IsIndexAt file n t.index_len t.fences) (sym same_at) (subst (λ n. IsIndexAt file at n t.fences) (sym same_len) is.index);
      each = is.each;
      blocks = same_blocks;
    }
