-- Parts that are merged one after the other.
use Rattle.std.proofs.Common.{◌≡◌, ◌∙◌, ◌≤◌, ◌<◌, ◌+◌, ◌*◌, ◌⊎◌, inl, inr, ℕ, zero, suc, Bool, true, false, List, [], ◌∷◌, length, map, refl, sym, ap, subst, arith}
use Rattle.std.specs.Prelude.{Option, Some, None, Result, Ok, IsSome, IsSomeAnd, IsTrue, IsFalse, ◌↔◌, flat_map, nat_lt, replicate, slice_get, slice_set}
use Rattle.std.specs.List.{AllByRecursion, sum_by}
use Rattle.std.proofs.lemmas.Bool.{lt-ltb, ltb-false, ltb-true}
use Rattle.std.proofs.lemmas.List.{length-replicate, take_all}
use Rattle.std.proofs.lemmas.List.Folds.{flat_map-map}
use Rattle.std.proofs.Math.Nat.{mul-le-mul_left, mul-le-mul_right}
use Rattle.dfs_host.specs.Fault.{NoFault}
use Rattle.dfs_host.specs.Host.{HostState, Told, bytes_of}
use Rattle.dfs_host.proofs.Causes.{none_yet}
use Rattle.dfs_host.proofs.Moments.{reads_nothing, reads_only}
use Rattle.dfs_record.specs.declared.Key.{Key}
use Rattle.dfs_record.specs.declared.Record.{Record}
use Rattle.dfs_record.specs.Delta.{Delta, delta, merged as merged_list, records_of}
use Rattle.dfs_record.specs.Records.{Files}
use Rattle.dfs_record.proofs.Replays.{delta-records_of}
use Rattle.dfs_log.specs.Logs.{LogState, LogStands}
use Rattle.dfs_table.specs.declared.run.Run.{Run}
use Rattle.dfs_table.specs.Appending.{Appends}
use Rattle.dfs_plan.specs.Parts.{boundary}
use Rattle.dfs_table.specs.Counts.{count_of}
use Rattle.dfs_table.specs.Cut.{tables_needed}
use Rattle.dfs_table.specs.Tables.{all_fences}
use Rattle.dfs_table.specs.Writer.{AreIn, table_len}
use Rattle.dfs_compact.specs.declared.compaction.Parted.{Parted}
use Rattle.dfs_compact.specs.declared.compaction.Parted.TheVariants.{Merged, Last, Range, Done}
use Rattle.dfs_compact.specs.Compaction.{AreMerged, CompactionState, IsAdded, IsMerged, IsRefusal, IsWritten, Stands}
use Rattle.dfs_compact.specs.Parts.{AreSources, count_all, merged_part, tables_below, tables_of}
use Rattle.dfs_compact.proofs.Staying.{set_length, set_other}
use Rattle.dfs_view.specs.Layers.{AreStored}
use Rattle.dfs_view.specs.View.{IsOwnRun}
use Rattle.dfs_job.specs.Stands.{may_pass}
use Rattle.dfs_job.proofs.Layers.{deltas_joined}

-- ---- parts that were merged

set_merged : (ms : List (Option Run)) (i k : ℕ) (run : Run) → i < length ms → (k ≡ i) ⊎ IsSomeAnd (slice_get ms k) IsSome → IsSomeAnd (slice_get (slice_set ms i (Some run)) k) IsSome
set_merged [] i k run within h = absurd (omega (arith, within))
set_merged (m ∷ ms) zero zero run within h = refl
set_merged (m ∷ ms) zero (suc k) run within (inl e) = absurd (omega (arith, e))
set_merged (m ∷ ms) zero (suc k) run within (inr is) = is
set_merged (m ∷ ms) (suc i) zero run within (inl e) = absurd (omega (arith, e))
set_merged (m ∷ ms) (suc i) zero run within (inr is) = is
set_merged (m ∷ ms) (suc i) (suc k) run within (inl e) = set_merged ms i k run (omega (arith, within)) (inl (omega (arith, e)))
set_merged (m ∷ ms) (suc i) (suc k) run within (inr is) = set_merged ms i k run (omega (arith, within)) (inr is)

all_merged : (ms : List (Option Run)) → ((k : ℕ) → k < length ms → IsSomeAnd (slice_get ms k) IsSome) → AllByRecursion IsSome ms
all_merged [] each = tt
all_merged (m ∷ ms) each = (each 0 (omega arith), all_merged ms (λ k within. each (suc k) (omega (arith, within))))

pub no_tables : (n : ℕ) → tables_of (replicate n None) ≡ []
no_tables zero = refl
no_tables (suc n) = no_tables n

pub none_refused : (n : ℕ) → (0 < n → ⊥) → n ≡ 0
none_refused zero not = refl
none_refused (suc n) not = absurd (not (omega arith))

none_has : (n k : ℕ) → IsSomeAnd (slice_get (replicate n None) k) (λ (m : Option Run). IsSome m) → ⊥
none_has zero k is = absurd is
none_has (suc n) zero is = absurd (cc is)
none_has (suc n) (suc k) is = none_has n k is

pub below_more : (keys : List Key) (parts : ℕ) (ds : List Delta) (i n : ℕ) → i ≤ n → tables_below keys parts ds i ≤ tables_below keys parts ds n
below_more keys parts ds i zero le = omega (arith, ap (tables_below keys parts ds) (none_refused i (λ some. absurd (omega (arith, le, some)))))
below_more keys parts ds i (suc n) le = by (nat_lt n i) refl (below_more keys parts ds i n)
  where
    by : (b : Bool) → nat_lt n i ≡ b → (i ≤ n → tables_below keys parts ds i ≤ tables_below keys parts ds n) → tables_below keys parts ds i ≤ tables_below keys parts ds (suc n)
    by true e before = let same : i ≡ suc n = omega (arith, le, ltb-true n i e) in omega (arith, ap (tables_below keys parts ds) same)
    by false e before = omega (arith, before (omega (arith, ltb-false n i e)))

pub one_below : (keys : List Key) (parts : ℕ) (ds : List Delta) (i : ℕ) → tables_below keys parts ds (i + 1) ≡ tables_below keys parts ds i + tables_needed (merged_part (boundary keys parts i) (boundary keys parts (i + 1)) ds)
one_below keys parts ds i = let next : i + 1 ≡ suc i = omega arith in ap (tables_below keys parts ds) next

-- ---- the parts up to one

-- The parts before this one were merged.
pub record IsMerging (start now : HostState) (log_start log : LogState) (old c : CompactionState) (done : ℕ) : Type 0 where
  pub merged : (k : ℕ) → k < done → IsMerged c k
  pub left_out : (k : ℕ) → done ≤ k → IsMerged c k → ⊥
  pub len : length c.merged ≡ c.parts
  pub sources : c.sources ≡ old.sources
  pub keys : c.keys ≡ old.keys
  pub parts : c.parts ≡ old.parts
  pub live : IsFalse c.spent
  pub log_live : IsFalse log.spent
  pub refused : log.refused ≡ 0
  pub inside : AreIn log_start.file (tables_of c.merged)
  pub log_stands : Told start (LogStands now log)
  pub stands : (ds : List Delta) → Told start (Stands (bytes_of start) log_start.file old ds → Stands (bytes_of now) log_start.file c ds)
  pub few : (ds : List Delta) → Told start (Stands (bytes_of start) log_start.file old ds → count_of (all_fences (tables_of c.merged)) ≤ count_all old.sources)
  pub needed : (ds : List Delta) → Told start (Stands (bytes_of start) log_start.file old ds → length (tables_of c.merged) ≡ tables_below old.keys old.parts ds done)
  pub tables : 4096 * length (tables_of c.merged) ≤ done * (count_all old.sources + 4095)
  pub wrote : log.len ≡ log_start.len + sum_by table_len (tables_of c.merged)
  pub growth : log.len ≤ log_start.len + 1100 * count_of (all_fences (tables_of c.merged))
  pub left : Appends start now log_start log
  pub no_fault : NoFault start now

-- no part was merged yet
pub none_yet_merged : (start : HostState) (log : LogState) (old : CompactionState) (parts : ℕ) → old.merged ≡ replicate parts None → old.parts ≡ parts → IsFalse old.spent → IsFalse log.spent → log.refused ≡ 0
    → Told start (LogStands start log) → IsMerging start start log log old old 0
none_yet_merged start log old parts none many live log_live refused stands =
    let tables = ap tables_of none ∙ no_tables parts in
    record {
      merged = λ k within. absurd (omega (arith, within));
      left_out = λ k le is. none_has parts k (subst (λ ms. IsSomeAnd (slice_get ms k) IsSome) none is);
      len = ap length none ∙ length-replicate parts None ∙ sym many;
      sources = refl;
      keys = refl;
      parts = refl;
      live = live;
      log_live = log_live;
      refused = refused;
      inside = subst (AreIn log.file) (sym tables) tt;
      log_stands = stands;
      stands = λ ds tells held. held;
      few = λ ds tells held. omega (arith, ap (λ ts. count_of (all_fences ts)) tables);
      needed = λ ds tells held. ap length tables;
      tables = omega (arith, ap length tables);
      wrote = omega (arith, ap (sum_by table_len) tables);
      growth = omega arith;
      left = record {
        before = λ tells. take_all log.len (bytes_of start log.file) (omega (arith, (stands tells).len));
        only = reads_only (reads_nothing start);
        reads = refl;
        file = refl;
        limit = refl;
        over = λ some. absurd (omega (arith, some, refused));
      };
      no_fault = none_yet start;
    }

-- what one more call leaves of the parts
module _ {E : Type 0} (c c_now : CompactionState) (done : ℕ) (result : Result Parted E) (answer : Parted) (was : result ≡ Ok answer) (refused : IsRefusal answer → c_now ≡ c) (added : IsWritten answer → IsAdded c c_now done) where
  written : (a : Parted) → (IsRefusal a → c_now ≡ c) → (IsWritten a → IsAdded c c_now done) → (c_now ≡ c) ⊎ IsAdded c c_now done
  written Merged refused added = inr (added tt)
  written Last refused added = inr (added tt)
  written Range refused added = inl (refused tt)
  written Done refused added = inl (refused tt)

  pub len_on : length c.merged ≡ c.parts → (c_now.parts ≡ c.parts) → length c_now.merged ≡ c_now.parts
  len_on len parts = elim (written answer refused added) [
    | inl same ↦ ap (λ (s : CompactionState). length s.merged) same ∙ len ∙ sym parts
    | inr one ↦ ap (λ (s : CompactionState). length s.merged) one.same ∙ set_length c.merged done (Some one.run) ∙ len ∙ sym parts
  ]

  pub left_on : ((k : ℕ) → done ≤ k → IsMerged c k → ⊥) → (k : ℕ) → done + 1 ≤ k → IsMerged c_now k → ⊥
  left_on left k le is = elim (written answer refused added) [
    | inl same ↦ left k (omega (arith, le)) (subst (λ (s : CompactionState). IsMerged s k) same is)
    | inr one ↦ left k (omega (arith, le)) (subst (λ o. IsSomeAnd o IsSome) (set_other c.merged done k (Some one.run) (λ e. absurd (omega (arith, e, le)))) (subst (λ (s : CompactionState). IsMerged s k) one.same is))
  ]

  pub few_on : (most : ℕ) → count_of (all_fences (tables_of c.merged)) ≤ most → (IsWritten answer → count_of (all_fences (tables_of c_now.merged)) ≤ most) → count_of (all_fences (tables_of c_now.merged)) ≤ most
  few_on most before after = by answer refused after
    where
      by : (a : Parted) → (IsRefusal a → c_now ≡ c) → (IsWritten a → count_of (all_fences (tables_of c_now.merged)) ≤ most) → count_of (all_fences (tables_of c_now.merged)) ≤ most
      by Merged refused after = after tt
      by Last refused after = after tt
      by Range refused after = omega (arith, before, ap (λ (s : CompactionState). count_of (all_fences (tables_of s.merged))) (refused tt))
      by Done refused after = omega (arith, before, ap (λ (s : CompactionState). count_of (all_fences (tables_of s.merged))) (refused tt))

  module _ (within : done < c.parts) (len : length c.merged ≡ c.parts) (range : (result ≡ Ok Range) ↔ (c.parts ≤ done)) (again : (result ≡ Ok Done) ↔ IsMerged c done) (before : (k : ℕ) → k < done → IsMerged c k) where
    last_or_before : (k : ℕ) → k < done + 1 → (k ≡ done) ⊎ (k < done)
    last_or_before k below = by (nat_lt k done) refl
      where
        by : (b : Bool) → nat_lt k done ≡ b → (k ≡ done) ⊎ (k < done)
        by true e = inr (ltb-true k done e)
        by false e = inl (omega (arith, below, ltb-false k done e))

    set_one : (k : ℕ) → (k ≡ done) ⊎ (k < done) → IsAdded c c_now done → IsMerged c_now k
    set_one k where_ one = subst (λ (s : CompactionState). IsMerged s k) (sym one.same) (set_merged c.merged done k one.run (omega (arith, within, len)) (elim where_ [ inl same ↦ inl same | inr below ↦ inr (before k below) ]))

    was_one : (k : ℕ) → (k ≡ done) ⊎ (k < done) → c_now ≡ c → IsMerged c done → IsMerged c_now k
    was_one k where_ same is = subst (λ (s : CompactionState). IsMerged s k) (sym same) (elim where_ [ inl here ↦ subst (IsMerged c) (sym here) is | inr below ↦ before k below ])

    -- a part that was left out is merged now
    pub written_now : (IsMerged c done → ⊥) → IsWritten answer
    written_now new = by answer was
      where
        by : (a : Parted) → result ≡ Ok a → IsWritten a
        by Merged was = tt
        by Last was = tt
        by Range was = absurd (omega (arith, within, range.0 was))
        by Done was = absurd (new (again.0 was))

    pub merged_on : (k : ℕ) → k < done + 1 → IsMerged c_now k
    merged_on k below = by answer was refused added
      where
        by : (a : Parted) → result ≡ Ok a → (IsRefusal a → c_now ≡ c) → (IsWritten a → IsAdded c c_now done) → IsMerged c_now k
        by Merged was refused added = set_one k (last_or_before k below) (added tt)
        by Last was refused added = set_one k (last_or_before k below) (added tt)
        by Range was refused added = absurd (omega (arith, within, range.0 was))
        by Done was refused added = was_one k (last_or_before k below) (refused tt) (again.0 was)

-- with the last one all are merged
pub merged_whole : {start now : HostState} {log_start log : LogState} {old c : CompactionState} {done : ℕ} → IsMerging start now log_start log old c done → old.parts ≤ done → AreMerged c
merged_whole {c = c} h all = all_merged c.merged (λ k within. h.merged k (omega (arith, within, h.len, h.parts, all)))

-- ---- how many tables

pub passes_more : (m n parts : ℕ) → m ≤ n → IsTrue (may_pass m parts) → IsTrue (may_pass n parts)
passes_more m n parts le pass =
    let more : m + 4095 ≤ n + 4095 = omega (arith, le) in
    lt-ltb 536870912 ((parts + 1) * (n + 4095)) (omega (arith, ltb-true 536870912 ((parts + 1) * (m + 4095)) pass, mul-le-mul_left (parts + 1) more))

-- of so many tables of the parts and all records of the sources
pub passes_so : (tables done count parts : ℕ) → tables ≤ done * (count + 4095) → done < parts → 536870912 < tables + count → IsTrue (may_pass count parts)
passes_so tables done count parts few within many =
    let more : done ≤ parts = omega (arith, within) in
    lt-ltb 536870912 ((parts + 1) * (count + 4095)) (omega (arith, few, many, mul-le-mul_right (count + 4095) more))

-- ---- runs of one file as sources

pub runs_are_sources : (files : Files) (file : ℕ) (rs : List Run) (ls : List (List Record)) → AllByRecursion (IsOwnRun file) rs → AreStored (files file) rs ls → AreSources files rs (map delta ls)
runs_are_sources files file [] [] own stored = tt
runs_are_sources files file [] (l ∷ ls) own stored = absurd stored
runs_are_sources files file (r ∷ rs) [] own stored = absurd stored
runs_are_sources files file (r ∷ rs) (l ∷ ls) own stored = (record { file = file; inside = own.0.inside; stored = stored.0 }, runs_are_sources files file rs ls own.1 stored.1)

-- merging their change sets leaves what all their records leave
pub merged_layers : (ls : List (List Record)) → delta (merged_list (map records_of (map delta ls))) ≡ delta (flat_map (λ rs. rs) ls)
merged_layers ls =
    delta-records_of (delta (flat_map (λ (rs : List Record). rs) (map records_of (map delta ls))))
    ∙ ap delta (flat_map-map (λ (rs : List Record). rs) records_of (map delta ls) ∙ flat_map-map records_of delta ls)
    ∙ deltas_joined ls
