-- The parts together are the whole.
use Rattle.std.proofs.Common.{◌≡◌, ◌≤◌, ◌<◌, ◌+◌, ◌*◌, ◌/◌, ℕ, zero, suc, Bool, true, false, cond, ◌&&◌, nat_lt, List, [], ◌∷◌, ◌++◌, length, map, refl, sym, ap, subst, ◌∙◌, arith, append-nil, lt-ltb, le-ltb, length-append}
use Rattle.std.specs.Prelude.{Option, Some, None, IsSome, flat_map, replicate, slice_get}
use Rattle.std.specs.List.{AllByRecursion}
use Rattle.std.proofs.lemmas.Grind.{flat_map-append}
use Rattle.std.proofs.lemmas.List.Sorted.{length_permutation}
use Rattle.std.proofs.lemmas.List.Sums.{sum_by-append}
use Rattle.std.proofs.lemmas.Nat.{div_below, le-div}
use Rattle.std.proofs.lemmas.Option.{same_Some}
use Rattle.std.proofs.Math.Nat.{div-mul-le_self, mul-le-mul_right}
use Rattle.dfs_record.specs.declared.Key.{Key}
use Rattle.dfs_record.specs.declared.Record.{Record}
use Rattle.dfs_record.specs.Delta.{Delta, delta, merged, records_of}
use Rattle.dfs_record.specs.Key.{key_cmp}
use Rattle.dfs_record.specs.Records.{Files, KeysRise}
use Rattle.dfs_record.proofs.Replays.{delta-records_of}
use Rattle.dfs_cursor.specs.Ranges.{is_from, is_up_to, is_within, part}
use Rattle.dfs_fence.specs.declared.fence.Fence.{Fence}
use Rattle.dfs_fence.specs.Index.{AreApart, AreFences}
use Rattle.dfs_fence.proofs.Orders.{below_at_most, less}
use Rattle.dfs_plan.specs.Parts.{AreSorted, boundary}
use Rattle.dfs_table.specs.declared.run.Run.{Run}
use Rattle.dfs_table.specs.declared.table.Table.{Table}
use Rattle.dfs_table.specs.Counts.{count_of}
use Rattle.dfs_table.specs.Stored.{IsStored, IsTableOf, records_by, run_records, table_records}
use Rattle.dfs_table.specs.Tables.{AreTables, all_fences}
use Rattle.dfs_table.specs.Writer.{EndsPass}
use Rattle.dfs_table.proofs.Rising.{all_records}
use Rattle.dfs_table.proofs.Stays.{all_append, all_weaker}
use Rattle.dfs_compact.specs.Compaction.{AreMerged, CompactionState, IsCompaction, Stands}
use Rattle.dfs_compact.specs.Parts.{AreSources, count_all, fences_in, first_keys, tables_in, tables_of}
use Rattle.dfs_compact.proofs.Cutting.{from_later, merged_part_is, merged_rises, two_parts}

-- ---- boundaries

-- From part to part the boundary rises, and the last part is open above.
pub record AreCut (b : ℕ → Option Key) (n : ℕ) : Type 0 where
  pub ends : b n ≡ None
  pub rises : (j : ℕ) → suc j < n → (k : Key) × (b (suc j) ≡ Some k) × (is_from (b j) k ≡ true)

pub cut_behind : (b : ℕ → Option Key) (n : ℕ) → AreCut b (suc n) → AreCut (λ j. b (suc j)) n
cut_behind b n cut = record { ends = cut.ends; rises = λ j lt. cut.rises (suc j) (omega (arith, lt)) }

module _ (keys : List Key) (parts : ℕ) (sorted : AreSorted keys) (some : 0 < length keys) where
  place : ℕ → ℕ
  place i = i * length keys / parts

  inside : (i : ℕ) → 0 < i → i < parts → boundary keys parts i ≡ slice_get keys (i * length keys / parts)
  inside i l m =
      ap (λ c. cond (c && nat_lt i parts) (slice_get keys (i * length keys / parts)) None) (lt-ltb 0 i l)
      ∙ ap (λ c. cond c (slice_get keys (i * length keys / parts)) None) (lt-ltb i parts m)

  place_rises : (i j : ℕ) → 1 ≤ parts → i ≤ j → i * length keys / parts ≤ j * length keys / parts
  place_rises i j some l = le-div (i * length keys / parts) (j * length keys) parts (omega (arith, some))
      (omega (arith, div-mul-le_self (i * length keys) parts, mul-le-mul_right (length keys) l))

  place_below : (i : ℕ) → i < parts → i * length keys / parts < length keys
  place_below i l = div_below (i * length keys) parts (length keys) (omega (arith, l)) (grind (arith, mul-lt i l))
    where
      mul-lt : (i : ℕ) → i < parts → i * length keys < length keys * parts
      mul-lt i l = grind (arith, some)

  is_there : {A : Type 0} (xs : List A) (n : ℕ) → n < length xs → (x : A) × (slice_get xs n ≡ Some x)
  is_there [] n lt = absurd (omega (arith, lt))
  is_there (x ∷ xs) zero lt = (x, refl)
  is_there (x ∷ xs) (suc n) lt = is_there xs n (omega (arith, lt))

  ends : boundary keys parts parts ≡ None
  ends = by (nat_lt 0 parts)
    where
      by : (c : Bool) → cond (c && nat_lt parts parts) (slice_get keys (parts * length keys / parts)) None ≡ None
      by true = ap (λ d. cond d (slice_get keys (parts * length keys / parts)) None) (le-ltb parts parts (omega arith))
      by false = refl

  low_end : (j : ℕ) → 0 < j → suc j < parts → (k : Key) → slice_get keys (suc j * length keys / parts) ≡ Some k → (o : Option Key) → slice_get keys (j * length keys / parts) ≡ o → is_from o k ≡ true
  low_end j l lt k at None e = refl
  low_end j l lt k at (Some low) e = sorted (j * length keys / parts) (suc j * length keys / parts) low k (place_rises j (suc j) (omega (arith, lt)) (omega arith)) e at

  low_of : (j : ℕ) → suc j < parts → (k : Key) → slice_get keys (suc j * length keys / parts) ≡ Some k → is_from (boundary keys parts j) k ≡ true
  low_of zero lt k at = refl
  low_of (suc j) lt k at = subst (λ (o : Option Key). is_from o k ≡ true) (sym (inside (suc j) (omega arith) (omega (arith, lt)))) (low_end (suc j) (omega arith) lt k at (slice_get keys (suc j * length keys / parts)) refl)

  rises : (j : ℕ) → suc j < parts → (k : Key) × (boundary keys parts (suc j) ≡ Some k) × (is_from (boundary keys parts j) k ≡ true)
  rises j lt =
      let there = is_there keys (suc j * length keys / parts) (place_below (suc j) lt) in
      (there.0, inside (suc j) (omega arith) lt ∙ there.1, low_of j lt there.0 there.1)

  pub boundaries : AreCut (boundary keys parts) parts
  boundaries = record { ends = ends; rises = rises }

-- ---- the records of all parts

module _ (file : List ℕ) where
  run_append : (xs ys : List Table) → run_records file (xs ++ ys) ≡ run_records file xs ++ run_records file ys
  run_append xs ys = flat_map-append (table_records file) xs ys

  pub join_records : (whole : List Record) → KeysRise whole → (m : Option Run) (ms : List (Option Run)) (b : ℕ → Option Key) → AreCut b (suc (length ms)) → AllByRecursion IsSome (m ∷ ms)
      → ((j : ℕ) (run : Run) → slice_get (m ∷ ms) j ≡ Some (Some run) → run_records file run.tables ≡ part (b j) (b (suc j)) whole) → run_records file (tables_of (m ∷ ms)) ≡ part (b 0) None whole
  join_records whole rise None ms b cut all each = absurd (cc all.0)
  join_records whole rise (Some run) [] b cut all each =
      run_append run.tables [] ∙ append-nil (run_records file run.tables) ∙ each 0 run refl ∙ ap (λ o. part (b 0) o whole) cut.ends
  join_records whole rise (Some run) (m ∷ ms) b cut all each =
      let next = cut.rises 0 (omega arith) in
      run_append run.tables (tables_of (m ∷ ms))
      ∙ ap (λ l. l ++ run_records file (tables_of (m ∷ ms))) (each 0 run refl ∙ ap (λ o. part (b 0) o whole) next.1)
      ∙ ap (λ l. part (b 0) (Some next.0) whole ++ l)
      (join_records whole rise m ms (λ j. b (suc j)) (cut_behind b (suc (length ms)) cut) all.1 (λ j r at. each (suc j) r at) ∙ ap (λ o. part o None whole) next.1)
      ∙ two_parts (b 0) next.0 whole next.2 rise

  pub join_none : (ms : List (Option Run)) → ((j : ℕ) (run : Run) → slice_get ms j ≡ Some (Some run) → run_records file run.tables ≡ []) → run_records file (tables_of ms) ≡ []
  join_none [] each = refl
  join_none (None ∷ ms) each = join_none ms (λ j run at. each (suc j) run at)
  join_none (Some run ∷ ms) each =
      run_append run.tables (tables_of ms) ∙ ap (λ l. l ++ run_records file (tables_of ms)) (each 0 run refl) ∙ join_none ms (λ j r at. each (suc j) r at)

  pub join_stored : (ms : List (Option Run)) → ((j : ℕ) (run : Run) → slice_get ms j ≡ Some (Some run) → AllByRecursion (IsTableOf file) run.tables) → AllByRecursion (IsTableOf file) (tables_of ms)
  join_stored [] each = tt
  join_stored (None ∷ ms) each = join_stored ms (λ j run at. each (suc j) run at)
  join_stored (Some run ∷ ms) each = all_append (IsTableOf file) run.tables (tables_of ms) (each 0 run refl) (join_stored ms (λ j r at. each (suc j) r at))

-- a fact of each merged part's tables, and so of all of them
pub join_all : (P : Table → Type 0) (ms : List (Option Run)) → ((j : ℕ) (run : Run) → slice_get ms j ≡ Some (Some run) → AllByRecursion P run.tables) → AllByRecursion P (tables_of ms)
join_all P [] each = tt
join_all P (None ∷ ms) each = join_all P ms (λ j run at. each (suc j) run at)
join_all P (Some run ∷ ms) each = all_append P run.tables (tables_of ms) (each 0 run refl) (join_all P ms (λ j r at. each (suc j) r at))

-- ---- sources without blocks

no_fences : (xs ys : List Fence) → xs ++ ys ≡ [] → (xs ≡ []) × (ys ≡ [])
no_fences [] ys e = (refl, e)
no_fences (x ∷ xs) ys e = absurd cc

pub none_of_none : (files : Files) (runs : List Run) (ds : List Delta) → AreSources files runs ds → fences_in runs ≡ [] → flat_map (λ (rs : List Record). rs) (map records_of ds) ≡ []
none_of_none files [] [] are none = refl
none_of_none files [] (d ∷ ds) are none = absurd are
none_of_none files (r ∷ rs) [] are none = absurd are
none_of_none files (r ∷ rs) (d ∷ ds) are none =
    let both = no_fences (all_fences r.tables) (fences_in rs) none in
    let source = are.0 in
    let empty : records_of d ≡ [] = sym source.stored.records ∙ all_records (files source.file) r.tables ∙ ap (records_by (files source.file)) both.0 in
    ap (λ l. l ++ flat_map (λ (rs : List Record). rs) (map records_of ds)) empty ∙ none_of_none files rs ds are.1 both.1

same_length : {A B : Type 0} (f : A → B) (xs : List A) → length (map f xs) ≡ length xs
same_length f [] = refl
same_length f (x ∷ xs) = ap suc (same_length f xs)

nothing : {A : Type 0} (xs : List A) → length xs ≡ 0 → xs ≡ []
nothing [] e = refl
nothing (x ∷ xs) e = absurd (omega (arith, e))

pub no_keys : (c : CompactionState) → IsCompaction c.sources c.keys c.parts c.merged → length c.keys ≡ 0 → fences_in c.sources ≡ []
no_keys c is none = nothing (fences_in c.sources) (omega (arith, none, length_permutation (first_keys c.sources) c.keys is.firsts, same_length (λ (f : Fence). f.first) (fences_in c.sources)))

own_merged : (lists : List (List Record)) → records_of (delta (merged lists)) ≡ merged lists
own_merged lists = ap records_of (delta-records_of (delta (flat_map (λ (rs : List Record). rs) lists)))

-- ---- the run of all parts

all_within_none : (rs : List Record) → part None None rs ≡ rs
all_within_none [] = refl
all_within_none (r ∷ rs) = ap (λ l. r ∷ l) (all_within_none rs)

module _ (files : Files) (file : ℕ) (c : CompactionState) (ds : List Delta) (stands : Stands files file c ds) where
  abbrev whole : List Record
  whole = merged (map records_of ds)

  pub of_part : (j : ℕ) (run : Run) → slice_get c.merged j ≡ Some (Some run) → run_records (files file) run.tables ≡ part (boundary c.keys c.parts j) (boundary c.keys c.parts (suc j)) (merged (map records_of ds))
  of_part j run at =
      (stands.each j run at).records
      ∙ own_merged (map (λ d. part (boundary c.keys c.parts j) (boundary c.keys c.parts (j + 1)) (records_of d)) ds)
      ∙ merged_part_is (boundary c.keys c.parts j) (boundary c.keys c.parts (j + 1)) ds
      ∙ (let next : j + 1 ≡ suc j = omega arith in ap (λ n. part (boundary c.keys c.parts j) (boundary c.keys c.parts n) whole) next)

module _ (files : Files) (file : ℕ) (c : CompactionState) (ds : List Delta) (is : IsCompaction c.sources c.keys c.parts c.merged) (all : AreMerged c) (stands : Stands files file c ds) where
  abbrev everything : List Record
  everything = merged (map records_of ds)

  all_of_them : (ms : List (Option Run)) → ms ≡ c.merged → (n : ℕ) → length c.keys ≡ n → run_records (files file) (tables_of c.merged) ≡ everything
  all_of_them [] e n keys = absurd (omega (arith, ap length e, is.len, is.plan.some))
  all_of_them (m ∷ ms) e zero keys =
      let none : everything ≡ [] = ap (λ l. records_of (delta l)) (none_of_none files c.sources ds stands.sources (no_keys c is keys)) in
      join_none (files file) c.merged (λ j run at. of_part files file c ds stands j run at ∙ ap (part (boundary c.keys c.parts j) (boundary c.keys c.parts (suc j))) none) ∙ sym none
  all_of_them (m ∷ ms) e (suc n) keys =
      let cut = boundaries c.keys c.parts is.plan.sorted (omega (arith, keys)) in
      let number : c.parts ≡ suc (length ms) = sym is.len ∙ ap length (sym e) in
      ap (λ l. run_records (files file) (tables_of l)) (sym e)
      ∙ join_records (files file) everything (merged_rises (map records_of ds)) m ms (boundary c.keys c.parts) (subst (AreCut (boundary c.keys c.parts)) number cut)
      (subst (AllByRecursion IsSome) (sym e) all) (λ j run at. of_part files file c ds stands j run (ap (λ l. slice_get l j) (sym e) ∙ at))
      ∙ all_within_none everything

  pub all_stored : (run : Run) → run.tables ≡ tables_of c.merged → IsStored (files file) run (delta everything)
  all_stored run same = record {
    each = subst (AllByRecursion (IsTableOf (files file))) (sym same) (join_stored (files file) c.merged (λ j r at. (stands.each j r at).each));
    records = ap (run_records (files file)) same ∙ all_of_them c.merged refl (length c.keys) refl ∙ sym (own_merged (map records_of ds));
  }

-- the change set that the run is stored for is the merged one
pub only_merged : (files : Files) (file : ℕ) (run : Run) (ds : List Delta) (d : Delta) → IsStored (files file) run (delta (merged (map records_of ds))) → IsStored (files file) run d → d ≡ delta (merged (map records_of ds))
only_merged files file run ds d is stored =
    sym (delta-records_of d) ∙ ap delta (sym stored.records ∙ is.records) ∙ delta-records_of (delta (merged (map records_of ds)))

-- ---- the tables of all parts, on every host

and_left : (a b : Bool) → (a && b) ≡ true → a ≡ true
and_left true b e = refl
and_left false b e = absurd cc

and_right : (a b : Bool) → (a && b) ≡ true → b ≡ true
and_right true b e = e
and_right false b e = absurd cc

-- blocks that end below a key, and blocks that begin from it on
apart_two : (k : Key) (xs ys : List Fence) → AreApart xs → AreApart ys → AllByRecursion (λ (f : Fence). is_up_to (Some k) f.last ≡ true) xs → AllByRecursion (λ (f : Fence). is_from (Some k) f.first ≡ true) ys → AreApart (xs ++ ys)
apart_two k [] ys a b low high = b
apart_two k (x ∷ []) [] a b low high = tt
apart_two k (x ∷ []) (y ∷ ys) a b low high = (below_at_most x.last k y.first (less (key_cmp x.last k) low.0) high.0, b)
apart_two k (x ∷ z ∷ xs) ys a b low high = (a.0, apart_two k (z ∷ xs) ys a.1 b low.1 high)

pub fences_two : (xs ys : List Table) → all_fences (xs ++ ys) ≡ all_fences xs ++ all_fences ys
fences_two xs ys = flat_map-append (λ (t : Table). t.fences) xs ys

firsts_of : (low high : Option Key) (fs : List Fence) → AllByRecursion (EndsPass (is_within low high)) fs → AllByRecursion (λ (f : Fence). is_from low f.first ≡ true) fs
firsts_of low high fs all = all_weaker (EndsPass (is_within low high)) (λ (f : Fence). is_from low f.first ≡ true) fs (λ f passes. and_left (is_from low f.first) (is_up_to high f.first) passes.0) all

lasts_of : (low high : Option Key) (fs : List Fence) → AllByRecursion (EndsPass (is_within low high)) fs → AllByRecursion (λ (f : Fence). is_up_to high f.last ≡ true) fs
lasts_of low high fs all = all_weaker (EndsPass (is_within low high)) (λ (f : Fence). is_up_to high f.last ≡ true) fs (λ f passes. and_right (is_from low f.last) (is_up_to high f.last) passes.1) all

abbrev Rises : Option Key → List Fence → Type 0
Rises low fs = AreApart fs × AllByRecursion (λ (f : Fence). is_from low f.first ≡ true) fs

rise_two : (low : Option Key) (k : Key) (xs ys : List Fence) → is_from low k ≡ true → AreApart xs → AllByRecursion (EndsPass (is_within low (Some k))) xs → Rises (Some k) ys → Rises low (xs ++ ys)
rise_two low k xs ys from a within behind = (
  apart_two k xs ys a behind.0 (lasts_of low (Some k) xs within) behind.1,
  all_append (λ (f : Fence). is_from low f.first ≡ true) xs ys (firsts_of low (Some k) xs within)
      (all_weaker (λ (f : Fence). is_from (Some k) f.first ≡ true) (λ (f : Fence). is_from low f.first ≡ true) ys (λ f le. from_later low k f.first from le) behind.1),
)

join_rises : (m : Option Run) (ms : List (Option Run)) (b : ℕ → Option Key) → AreCut b (suc (length ms)) → AllByRecursion IsSome (m ∷ ms)
    → ((j : ℕ) (run : Run) → slice_get (m ∷ ms) j ≡ Some (Some run) → AreApart (all_fences run.tables) × AllByRecursion (EndsPass (is_within (b j) (b (suc j)))) (all_fences run.tables)) → Rises (b 0) (all_fences (tables_of (m ∷ ms)))
join_rises None ms b cut all each = absurd (cc all.0)
join_rises (Some run) [] b cut all each =
    let here = each 0 run refl in
    subst (λ (ts : List Table). Rises (b 0) (all_fences ts)) (sym (append-nil run.tables)) (here.0, firsts_of (b 0) (b 1) (all_fences run.tables) here.1)
join_rises (Some run) (m ∷ ms) b cut all each =
    let here = each 0 run refl in
    let next = cut.rises 0 (omega arith) in
    let behind = join_rises m ms (λ j. b (suc j)) (cut_behind b (suc (length ms)) cut) all.1 (λ j r at. each (suc j) r at) in
    subst (Rises (b 0)) (sym (fences_two run.tables (tables_of (m ∷ ms))))
    (rise_two (b 0) next.0 (all_fences run.tables) (all_fences (tables_of (m ∷ ms))) next.2 here.0
    (subst (λ (o : Option Key). AllByRecursion (EndsPass (is_within (b 0) o)) (all_fences run.tables)) next.1 here.1) (subst (λ (o : Option Key). Rises o (all_fences (tables_of (m ∷ ms)))) next.1 behind))

no_tables : (l : List (Option Run)) → ((j : ℕ) (run : Run) → slice_get l j ≡ Some (Some run) → length run.tables ≡ 0) → length (tables_of l) ≡ 0
no_tables [] each = refl
no_tables (None ∷ l) each = no_tables l (λ j run at. each (suc j) run at)
no_tables (Some run ∷ l) each = omega (arith, length-append run.tables (tables_of l), each 0 run refl, no_tables l (λ j r at. each (suc j) r at))

pub no_records : (sources : List Run) (keys : List Key) (parts : ℕ) (ms : List (Option Run)) → IsCompaction sources keys parts ms → length keys ≡ 0 → count_all sources ≡ 0
no_records sources keys parts ms is none =
    ap count_of (nothing (fences_in sources) (omega (arith, none, length_permutation (first_keys sources) keys is.firsts, same_length (λ (f : Fence). f.first) (fences_in sources))))

module _ (sources : List Run) (keys : List Key) (parts : ℕ) (ms : List (Option Run)) (is : IsCompaction sources keys parts ms) (all : AllByRecursion IsSome ms) where
  rises_all : (l : List (Option Run)) → l ≡ ms → (n : ℕ) → length keys ≡ n → AreApart (all_fences (tables_of ms))
  rises_all [] e n k = absurd (omega (arith, ap length e, is.len, is.plan.some))
  rises_all (m ∷ l) e zero k =
      let none : tables_of ms ≡ [] = nothing (tables_of ms) (no_tables ms (λ j run at. omega (arith, (is.each j run at).few, (is.each j run at).enough, no_records sources keys parts ms is k))) in
      subst (λ (ts : List Table). AreApart (all_fences ts)) (sym none) tt
  rises_all (m ∷ l) e (suc n) k =
      let cut = boundaries keys parts is.plan.sorted (omega (arith, k)) in
      let number : parts ≡ suc (length l) = sym is.len ∙ ap length (sym e) in
      subst (λ (x : List (Option Run)). AreApart (all_fences (tables_of x))) e
      (join_rises m l (boundary keys parts) (subst (AreCut (boundary keys parts)) number cut) (subst (AllByRecursion IsSome) (sym e) all)
      (λ j run at.
      let part = is.each j run (ap (λ x. slice_get x j) (sym e) ∙ at) in
      let next : j + 1 ≡ suc j = omega arith in
      (part.tables.rise, subst (λ i. AllByRecursion (EndsPass (is_within (boundary keys parts j) (boundary keys parts i))) (all_fences run.tables)) next part.within))).0

  pub all_tables : AreTables (tables_of ms)
  all_tables = record {
    each = join_all (λ (t : Table). AreFences t.fences) ms (λ j run at. (is.each j run at).tables.each);
    some = join_all (λ (t : Table). 1 ≤ length t.fences) ms (λ j run at. (is.each j run at).tables.some);
    rise = rises_all ms refl (length keys) refl;
  }

-- each part has one table at most that is not full
pub join_few : (ms : List (Option Run)) → ((j : ℕ) (run : Run) → slice_get ms j ≡ Some (Some run) → 4096 * length run.tables ≤ count_of (all_fences run.tables) + 4095)
    → 4096 * length (tables_of ms) ≤ count_of (all_fences (tables_of ms)) + 4095 * length ms
join_few [] each = omega arith
join_few (None ∷ ms) each = omega (arith, join_few ms (λ j run at. each (suc j) run at))
join_few (Some run ∷ ms) each =
    omega (
      arith,
      length-append run.tables (tables_of ms),
      ap count_of (fences_two run.tables (tables_of ms)),
      sum_by-append (λ (f : Fence). f.count) (all_fences run.tables) (all_fences (tables_of ms)),
      each 0 run refl,
      join_few ms (λ j r at. each (suc j) r at),
    )

-- room for one more part's tables
pub has_room : (ys xs ms : List (Option Run)) (x : Option Run) (n : ℕ) → ms ≡ ys ++ x ∷ xs → length (tables_of ms) ≤ n → length (tables_of ys) + length (tables_in x) ≤ n
has_room ys xs ms x n is le =
    omega (arith, ap (λ l. length (tables_of l)) is, ap length (flat_map-append tables_in ys (x ∷ xs)), length-append (tables_of ys) (tables_in x ++ tables_of xs), length-append (tables_in x) (tables_of xs), le)

pub one_more_part : (ys : List (Option Run)) (x : Option Run) → tables_of (ys ++ x ∷ []) ≡ tables_of ys ++ tables_in x
one_more_part ys x = flat_map-append tables_in ys (x ∷ []) ∙ ap (λ l. tables_of ys ++ l) (append-nil (tables_in x))

-- ---- no part is merged yet

pub none_at : (n i : ℕ) (run : Run) → slice_get (replicate n None) i ≡ Some (Some run) → ⊥
none_at zero i run at = absurd cc
none_at (suc n) zero run at = absurd (cc (same_Some None (Some run) at))
none_at (suc n) (suc i) run at = none_at n i run at

pub none_have : (n : ℕ) → tables_of (replicate n None) ≡ []
none_have zero = refl
none_have (suc n) = none_have n
