-- All parts together have at most as many records as the sources.
use Rattle.std.proofs.Common.{◌≡◌, ◌≤◌, ◌<◌, ◌+◌, ◌*◌, ℕ, zero, suc, List, [], ◌∷◌, length, map, refl, sym, ap, subst, ◌∙◌, arith, length-append}
use Rattle.std.specs.Prelude.{Option, Some, None, Result, Ok, Err, IfOk, flat_map, slice_get, slice_set}
use Rattle.std.specs.List.{AllByRecursion, sum_by}
use Rattle.std.proofs.lemmas.List.{length-map}
use Rattle.std.proofs.lemmas.Option.{same_Some}
use Rattle.std.proofs.lemmas.List.Sums.{sum_by-append, sum_by-cons}
use Rattle.dfs_record.specs.declared.Key.{Key}
use Rattle.dfs_record.specs.declared.Record.{Record}
use Rattle.dfs_record.specs.Delta.{Delta, delta, merged, records_of}
use Rattle.dfs_record.specs.Records.{Files, KeysRise}
use Rattle.dfs_cursor.specs.Ranges.{part}
use Rattle.dfs_fence.specs.declared.fence.Fence.{Fence}
use Rattle.dfs_plan.specs.Parts.{boundary}
use Rattle.dfs_table.specs.declared.run.Run.{Run}
use Rattle.dfs_table.specs.Counts.{count_of}
use Rattle.dfs_table.specs.Cut.{IsCut, tables_needed}
use Rattle.dfs_table.proofs.Cutting.{needed_few}
use Rattle.dfs_table.specs.Stored.{IsBlockOf, IsStored, records_at, records_by, run_records}
use Rattle.dfs_table.specs.Tables.{all_fences}
use Rattle.dfs_table.proofs.Rising.{all_blocks, all_records}
use Rattle.dfs_compact.specs.Compaction.{CompactionState, IsCompaction, Stands}
use Rattle.dfs_compact.specs.Parts.{AreSources, count_all, fences_in, merged_part, tables_in, tables_of}
use Rattle.dfs_compact.proofs.Covering.{AreCut, boundaries, cut_behind, fences_two, no_keys, none_of_none, of_part}
use Rattle.dfs_compact.proofs.Cutting.{merged_few, merged_part_is, merged_rises, two_parts}
use Rattle.dfs_compact.proofs.Ranges.{part_few}
use Rattle.dfs_compact.proofs.Staying.{set_at, set_length}

pub blocks_counted : (file : List ℕ) (fs : List Fence) → AllByRecursion (IsBlockOf file) fs → length (records_by file fs) ≡ count_of fs
blocks_counted file [] each = refl
blocks_counted file (f ∷ fs) each = omega (arith, length-append (records_at file f) (records_by file fs), each.0.count, blocks_counted file fs each.1, sum_by-cons (λ (f : Fence). f.count) f fs)

stored_counted : (file : List ℕ) (run : Run) (d : Delta) → IsStored file run d → count_of (all_fences run.tables) ≡ length (run_records file run.tables)
stored_counted file run d is = sym (ap length (all_records file run.tables) ∙ blocks_counted file (all_fences run.tables) (all_blocks file run.tables is.each))

sources_counted : (files : Files) (runs : List Run) (ds : List Delta) → AreSources files runs ds → length (flat_map (λ (rs : List Record). rs) (map records_of ds)) ≡ count_all runs
sources_counted files [] [] are = refl
sources_counted files [] (d ∷ ds) are = absurd are
sources_counted files (r ∷ rs) [] are = absurd are
sources_counted files (r ∷ rs) (d ∷ ds) are =
    omega (
      arith,
      length-append (records_of d) (flat_map (λ (rs : List Record). rs) (map records_of ds)),
      sources_counted files rs ds are.1,
      ap length are.0.stored.records,
      stored_counted (files are.0.file) r d are.0.stored,
      sum_by-append (λ (f : Fence). f.count) (all_fences r.tables) (fences_in rs),
    )

-- how many records the part has
abbrev counted : Option Run → ℕ
counted m = count_of (all_fences (tables_in m))

counted_two : (m : Option Run) (ms : List (Option Run)) → count_of (all_fences (tables_of (m ∷ ms))) ≡ counted m + count_of (all_fences (tables_of ms))
counted_two m ms = ap count_of (fences_two (tables_in m) (tables_of ms)) ∙ sum_by-append (λ (f : Fence). f.count) (all_fences (tables_in m)) (all_fences (tables_of ms))

-- No part weighs more than its records, and so all together no more than the whole.
weighed : (whole : List Record) → KeysRise whole → (w : ℕ) (ws : List ℕ) (b : ℕ → Option Key) → AreCut b (suc (length ws))
    → ((j n : ℕ) → slice_get (w ∷ ws) j ≡ Some n → n ≤ length (part (b j) (b (suc j)) whole)) → sum_by (λ n. n) (w ∷ ws) ≤ length (part (b 0) None whole)
weighed whole rise w [] b cut each = omega (arith, sum_by-cons (λ (n : ℕ). n) w [], each 0 w refl, ap (λ (o : Option Key). length (part (b 0) o whole)) cut.ends)
weighed whole rise w (v ∷ ws) b cut each =
    let next = cut.rises 0 (omega arith) in
    omega (
      arith,
      sum_by-cons (λ (n : ℕ). n) w (v ∷ ws),
      each 0 w refl,
      ap (λ (o : Option Key). length (part (b 0) o whole)) next.1,
      weighed whole rise v ws (λ j. b (suc j)) (cut_behind b (suc (length ws)) cut) (λ j n at. each (suc j) n at),
      ap (λ (o : Option Key). length (part o None whole)) next.1,
      ap length (two_parts (b 0) next.0 whole next.2 rise),
      length-append (part (b 0) (Some next.0) whole) (part (Some next.0) None whole),
    )

none_weigh : (ws : List ℕ) → ((j n : ℕ) → slice_get ws j ≡ Some n → n ≤ 0) → sum_by (λ n. n) ws ≤ 0
none_weigh [] each = omega arith
none_weigh (w ∷ ws) each = omega (arith, sum_by-cons (λ (n : ℕ). n) w ws, each 0 w refl, none_weigh ws (λ j n at. each (suc j) n at))

all_weigh : (ms : List (Option Run)) → sum_by (λ n. n) (map counted ms) ≡ count_of (all_fences (tables_of ms))
all_weigh [] = refl
all_weigh (m ∷ ms) = omega (arith, sum_by-cons (λ (n : ℕ). n) (counted m) (map counted ms), counted_two m ms, all_weigh ms)

weight_at : (ms : List (Option Run)) (j n : ℕ) → slice_get (map counted ms) j ≡ Some n → (m : Option Run) × (slice_get ms j ≡ Some m) × (counted m ≡ n)
weight_at [] j n at = absurd cc
weight_at (m ∷ ms) zero n at = (m, refl, same_Some (counted m) n at)
weight_at (m ∷ ms) (suc j) n at = weight_at ms j n at

no_weight : (ms : List (Option Run)) (p : ℕ) → slice_get ms p ≡ Some None → slice_get (map counted ms) p ≡ Some 0
no_weight [] p at = absurd cc
no_weight (m ∷ ms) zero at = ap (λ (o : Option Run). Some (counted o)) (same_Some m None at)
no_weight (m ∷ ms) (suc p) at = no_weight ms p at

more_weight : (ws : List ℕ) (p n : ℕ) → slice_get ws p ≡ Some 0 → sum_by (λ n. n) (slice_set ws p n) ≡ sum_by (λ n. n) ws + n
more_weight [] p n at = absurd cc
more_weight (w ∷ ws) zero n at = omega (arith, same_Some w 0 at, sum_by-cons (λ (n : ℕ). n) w ws, sum_by-cons (λ (n : ℕ). n) n ws)
more_weight (w ∷ ws) (suc p) n at = omega (arith, sum_by-cons (λ (n : ℕ). n) w ws, sum_by-cons (λ (n : ℕ). n) w (slice_set ws p n), more_weight ws p n at)

-- a part that was merged adds its records
pub set_counted : (ms : List (Option Run)) (i : ℕ) (run : Run) → slice_get ms i ≡ Some None → count_of (all_fences (tables_of (slice_set ms i (Some run)))) ≡ count_of (all_fences (tables_of ms)) + count_of (all_fences run.tables)
set_counted [] i run at = absurd cc
set_counted (m ∷ ms) zero run at = omega (arith, counted_two (Some run) ms, counted_two m ms, ap counted (same_Some m None at))
set_counted (m ∷ ms) (suc i) run at = omega (arith, counted_two m (slice_set ms i (Some run)), counted_two m ms, set_counted ms i run at)

module _ (files : Files) (file : ℕ) (c : CompactionState) (ds : List Delta) (is : IsCompaction c.sources c.keys c.parts c.merged) (stands : Stands files file c ds) where
  abbrev whole : List Record
  whole = merged (map records_of ds)

  abbrev of : ℕ → List Record
  of j = part (boundary c.keys c.parts j) (boundary c.keys c.parts (suc j)) whole

  whole_few : length whole ≤ count_all c.sources
  whole_few = omega (arith, merged_few (map records_of ds), sources_counted files c.sources ds stands.sources)

  all_weighed : (ws : List ℕ) → length ws ≡ c.parts → ((j n : ℕ) → slice_get ws j ≡ Some n → n ≤ length (of j)) → sum_by (λ n. n) ws ≤ count_all c.sources
  all_weighed [] len each = absurd (omega (arith, len, is.plan.some))
  all_weighed (w ∷ ws) len each = by (length c.keys) refl
    where
      by : (n : ℕ) → length c.keys ≡ n → sum_by (λ n. n) (w ∷ ws) ≤ count_all c.sources
      by zero keys =
          let none : whole ≡ [] = ap (λ l. records_of (delta l)) (none_of_none files c.sources ds stands.sources (no_keys c is keys)) in
          omega (arith, none_weigh (w ∷ ws) (λ j n at. omega (arith, each j n at, ap (λ l. length (part (boundary c.keys c.parts j) (boundary c.keys c.parts (suc j)) l)) none)))
      by (suc n) keys =
          let cut = boundaries c.keys c.parts is.plan.sorted (omega (arith, keys)) in
          omega (arith, weighed whole (merged_rises (map records_of ds)) w ws (boundary c.keys c.parts) (subst (AreCut (boundary c.keys c.parts)) (sym len) cut) each, part_few None None whole, whole_few)

  abbrev weights : List ℕ
  weights = map counted c.merged

  weights_len : length weights ≡ c.parts
  weights_len = length-map c.merged counted ∙ is.len

  each_weighs : (j n : ℕ) → slice_get weights j ≡ Some n → n ≤ length (of j)
  each_weighs j n at = let there = weight_at c.merged j n at in omega (arith, there.2, by there.0 there.1)
    where
      by : (m : Option Run) → slice_get c.merged j ≡ Some m → counted m ≤ length (of j)
      by None here = omega arith
      by (Some run) here = omega (arith, stored_counted (files file) run _ (stands.each j run here), ap length (of_part files file c ds stands j run here))

  pub few_in_all : count_of (all_fences (tables_of c.merged)) ≤ count_all c.sources
  few_in_all = omega (arith, all_weigh c.merged, all_weighed weights weights_len each_weighs)

  -- the same with a part that is to be merged next
  pub few_with_next : (p : ℕ) → slice_get c.merged p ≡ Some None → count_of (all_fences (tables_of c.merged)) + length (merged_part (boundary c.keys c.parts p) (boundary c.keys c.parts (p + 1)) ds) ≤ count_all c.sources
  few_with_next p none =
      let n = length (of p) in
      let next : p + 1 ≡ suc p = omega arith in
      omega (
        arith,
        all_weigh c.merged,
        more_weight weights p n (no_weight c.merged p none),
        all_weighed (slice_set weights p n) (set_length weights p n ∙ weights_len) (set_at weights p n (λ j m. m ≤ length (of j)) (omega arith) each_weighs),
        ap length (merged_part_is (boundary c.keys c.parts p) (boundary c.keys c.parts (p + 1)) ds),
        ap (λ i. length (part (boundary c.keys c.parts p) (boundary c.keys c.parts i) whole)) next,
      )

-- ---- the tables that a part needs

-- each table but the last is full, and each block has a record
pub enough_by : {E : Type 0} (rs : List Record) (result : Result Run E) → IfOk result (λ (run : Run). IsCut rs run.tables) → IfOk result (λ (run : Run). count_of (all_fences run.tables) ≡ length rs) → IfOk result (λ (run : Run). 4096 * length run.tables ≤ count_of (all_fences run.tables) + 4095)
enough_by rs (Err e) cut count = tt
enough_by rs (Ok run) cut count = omega (arith, cut.needed, needed_few rs, count)

pub more_by : (rs : List Record) {tables most : ℕ} → tables < tables_needed rs → length rs ≤ most → 4096 * tables < most
more_by rs many few = omega (arith, many, needed_few rs, few)
