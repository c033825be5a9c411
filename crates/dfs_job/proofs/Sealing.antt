-- Runs that are sealed as one.
use Rattle.std.proofs.Common.{◌≡◌, ◌≢◌, ◌∙◌, ◌≤◌, ◌+◌, ℕ, suc, zero, List, [], ◌∷◌, ◌++◌, length, take, refl, sym, ap, subst, arith, append-nil, length-append}
use Rattle.std.specs.Prelude.{Option, Some, None, IsSomeAnd, Result, Ok, Err, IfOk, OnOk, flat_map, slice_get}
use Rattle.std.specs.List.{AllByRecursion, sum_by}
use Rattle.std.proofs.lemmas.List.{length-map, take_more}
use Rattle.std.proofs.lemmas.List.Sums.{sum_by-append, sum_by-cons}
use Rattle.std.proofs.lemmas.Option.{get_or_from_slice_get, slice_get_within}
use Rattle.dfs_record.specs.declared.Record.{Record}
use Rattle.dfs_record.specs.Delta.{Delta, delta, records_of}
use Rattle.dfs_record.specs.KeyMap.{len}
use Rattle.dfs_record.proofs.Replays.{delta-records_of}
use Rattle.dfs_fence.specs.declared.fence.Fence.{Fence}
use Rattle.dfs_table.specs.declared.run.Run.{Run}
use Rattle.dfs_table.specs.declared.table.Table.{Table}
use Rattle.dfs_table.specs.Counts.{count_of}
use Rattle.dfs_table.specs.Identities.{IsWithin}
use Rattle.dfs_table.proofs.Closing.{part_at_end}
use Rattle.dfs_table.proofs.Stays.{tables_stay}
use Rattle.dfs_table.specs.Stored.{IsBlockOf, IsStored, IsTableOf, part, records_at, records_by, run_records, table_records}
use Rattle.dfs_table.specs.Tables.{all_fences}
use Rattle.dfs_table.specs.Writer.{table_len}
use Rattle.dfs_registry.specs.declared.listed.Listed.{Listed}
use Rattle.dfs_change.specs.Identities.{AreFit, FitsJob}
use Rattle.dfs_change.specs.Meant.{log_meaning}
use Rattle.dfs_change.specs.Whole.{HasChanges, extents_of}
use Rattle.dfs_change.specs.declared.sealing.Sealed.{Sealed}
use Rattle.dfs_manifest.specs.Manifest.{manifest_bytes}
use Rattle.dfs_change.proofs.Fits.{all_within}
use Rattle.dfs_change.proofs.Meant.{whole_logs_mean}
use Rattle.dfs_view.specs.declared.layers.Layers.{Layers}
use Rattle.dfs_view.specs.Layers.{AreStored, own_runs, run_count}
use Rattle.dfs_view.specs.View.{GrowsByRuns, runs_len}
use Rattle.dfs_job.specs.Sealed.{HasManifest, SealsLayers}
use Rattle.dfs_job.specs.Stands.{table_count}
use Rattle.dfs_job.proofs.Layers.{delta_fits}

-- ---- how many records there are

blocks_counted : (file : List ℕ) (fs : List Fence) → AllByRecursion (IsBlockOf file) fs → count_of fs ≡ length (records_by file fs)
blocks_counted file [] each = refl
blocks_counted file (f ∷ fs) each =
    omega (arith, sum_by-cons (λ (g : Fence). g.count) f fs, length-append (records_at file f) (records_by file fs), each.0.count, blocks_counted file fs each.1)

run_counted : (file : List ℕ) (ts : List Table) → AllByRecursion (IsTableOf file) ts → count_of (all_fences ts) ≡ length (run_records file ts)
run_counted file [] each = refl
run_counted file (t ∷ ts) each =
    omega (
      arith,
      sum_by-append (λ (g : Fence). g.count) t.fences (all_fences ts),
      length-append (table_records file t) (run_records file ts),
      blocks_counted file t.fences each.0.each,
      run_counted file ts each.1,
    )

records_few : (d : Delta) → length (records_of d) ≡ len d
records_few d = length-map {B = Record} d.entries (λ e. record { key = e.0; value = e.1 })

-- a run that is stored for a change set has as many records as that
pub stored_count : (file : List ℕ) (run : Run) (d : Delta) → IsStored file run d → run_count run ≡ len d
stored_count file run d stored = run_counted file run.tables stored.each ∙ ap length stored.records ∙ records_few d

pub all_counted : (file : List ℕ) (rs : List Run) (ls : List (List Record)) → AreStored file rs ls → sum_by run_count rs ≡ sum_by (λ (l : List Record). len (delta l)) ls
all_counted file [] [] stored = refl
all_counted file [] (l ∷ ls) stored = absurd stored
all_counted file (r ∷ rs) [] stored = absurd stored
all_counted file (r ∷ rs) (l ∷ ls) stored =
    omega (arith, sum_by-cons run_count r rs, sum_by-cons (λ (x : List Record). len (delta x)) l ls, stored_count file r (delta l) stored.0, all_counted file rs ls stored.1)

pub stored_lengths : (file : List ℕ) (rs : List Run) (ls : List (List Record)) → AreStored file rs ls → length rs ≡ length ls
stored_lengths file [] [] stored = refl
stored_lengths file [] (l ∷ ls) stored = absurd stored
stored_lengths file (r ∷ rs) [] stored = absurd stored
stored_lengths file (r ∷ rs) (l ∷ ls) stored = omega (arith, stored_lengths file rs ls stored.1)

-- no table is without a record
table_some : (file : List ℕ) (fs : List Fence) → 1 ≤ length fs → AllByRecursion (IsBlockOf file) fs → 1 ≤ length (records_by file fs)
table_some file [] some each = some
table_some file (f ∷ fs) some each = omega (arith, length-append (records_at file f) (records_by file fs), each.0.block.some)

pub tables_few : (file : List ℕ) (ts : List Table) → AllByRecursion (IsTableOf file) ts → length ts ≤ length (run_records file ts)
tables_few file [] each = omega arith
tables_few file (t ∷ ts) each =
    omega (arith, length-append (table_records file t) (run_records file ts), table_some file t.fences each.0.index.index.some each.0.each, tables_few file ts each.1)

take_next : {X : Type 0} (xs : List X) (k : ℕ) (x : X) → slice_get xs k ≡ Some x → take (k + 1) xs ≡ take k xs ++ x ∷ []
take_next xs k x at = take_more xs k x (slice_get_within xs k x at) ∙ ap (λ y. take k xs ++ y ∷ []) (get_or_from_slice_get xs k x x at)

some_is : {X : Type 0} (o : Option X) (P : X → Type 0) → IsSomeAnd o P → (x : X) × (o ≡ Some x) × P x
some_is None P is = absurd is
some_is (Some x) P is = (x, refl, is)

pub run_is : (rs : List Run) (i : ℕ) (run : Run) → IsSomeAnd (slice_get rs i) (λ r. r ≡ run) → slice_get rs i ≡ Some run
run_is rs i run is = let of = some_is (slice_get rs i) (λ r. r ≡ run) is in of.1 ∙ ap Some of.2

pub run_in : {xs : List Run} (rs : List Run) (i : ℕ) (run : Run) → xs ≡ rs → IsSomeAnd (slice_get xs i) (λ r. r ≡ run) → slice_get rs i ≡ Some run
run_in {xs} rs i run same is = subst (λ ys. slice_get ys i ≡ Some run) same (run_is xs i run is)

pub all_at : {X : Type 0} (P : X → Type 0) (xs : List X) (i : ℕ) (x : X) → AllByRecursion P xs → slice_get xs i ≡ Some x → P x
all_at P [] i x all at = absurd cc
all_at P (y ∷ ys) zero x all at = subst P (cc at) all.0
all_at P (y ∷ ys) (suc i) x all at = all_at P ys i x all.1 at

pub ok_then : {T E : Type 0} (result : Result T E) (P Q : T → Type 0) → IfOk result P → ((x : T) → P x → Q x) → IfOk result Q
ok_then (Ok x) P Q p f = f x p
ok_then (Err e) P Q p f = tt

-- the sum up to a run, and that run's count
pub count_next : (rs : List Run) (i : ℕ) (r : Run) → slice_get rs i ≡ Some r → sum_by run_count (take (i + 1) rs) ≡ sum_by run_count (take i rs) + run_count r
count_next rs i r at = omega (arith, ap (λ l. sum_by run_count l) (take_next rs i r at), sum_by-append run_count (take i rs) (r ∷ []), sum_by-cons run_count r [])

-- ---- what is sealed

-- the identities of a run that is stored for a change set of the job
pub sealed_within : (job : ℕ) (file : List ℕ) (run : Run) (d : Delta) → IsStored file run d → AreFit job d → AllByRecursion (IsWithin job) (run_records file run.tables)
sealed_within job file run d stored fit = subst (AllByRecursion (IsWithin job)) (sym stored.records) (all_within job (records_of d) fit)

pub sealed_means : (file after : List ℕ) (run : Run) (d : Delta) (l : Listed) → IsStored file run d → HasChanges after l (delta (run_records file run.tables)) → log_meaning after l ≡ Some d
sealed_means file after run d l stored changes =
    (whole_logs_mean after l (delta (run_records file run.tables))).1 changes ∙ ap Some (ap delta stored.records ∙ delta-records_of d)

-- the manifest of a run of the file, which was appended
pub manifest_behind : {E : Type 0} (file after : List ℕ) (end : ℕ) (run : Run) (result : Result Sealed E) → end ≡ length file → AllByRecursion (IsTableOf file) run.tables → OnOk result (after ≡ file ++ manifest_bytes (extents_of run.tables))
    → IfOk result (λ s. s.at ≡ end) → IfOk result (λ s. s.len ≡ length (manifest_bytes (extents_of run.tables))) → IfOk result (λ s. HasManifest after s.at s.len run)
manifest_behind file after end run (Err e) same each appended at len = tt
manifest_behind file after end run (Ok s) same each appended at len =
    let m = manifest_bytes (extents_of run.tables) in
    record {
      bytes = subst (λ f. part f s.at s.len ≡ m) (sym appended) (part_at_end file m s.at s.len (at ∙ same) len);
      each = subst (λ f. AllByRecursion (IsTableOf f) run.tables) (sym appended) (tables_stay file m run.tables each);
    }

-- closing the open layer before wrote its run alone
pub seals_on : (file : List ℕ) (old mid new : Layers) (at len : ℕ) → GrowsByRuns old mid → SealsLayers file mid new at len → SealsLayers file old new at len
seals_on file old mid new at len grew seals = record {
  run = seals.run;
  manifest = seals.manifest;
  one = λ is. ((seals.one is).0, omega (arith, grew, (seals.one is).1));
  merged = λ is. omega (arith, grew, seals.merged is);
}

pub seals_one : {E : Type 0} (file : List ℕ) (old new : Layers) (run : Run) (result : Result Sealed E) → own_runs old ≡ run ∷ [] → own_runs new ≡ own_runs old → IfOk result (λ s. HasManifest file s.at s.len run) → IfOk result (λ s. s.at ≡ old.log.len)
    → IfOk result (λ s. SealsLayers file old new s.at s.len)
seals_one file old new run (Err e) only same manifest at = tt
seals_one file old new run (Ok s) only same manifest at = record {
  run = run;
  manifest = manifest;
  one = λ is. (same ∙ only, omega (arith, at, ap runs_len same));
  merged = λ several. absurd (several (ap length (same ∙ only)));
}

pub seals_merged : {E : Type 0} (file : List ℕ) (old new : Layers) (run : Run) (result : Result Sealed E) (mid : ℕ) → length (own_runs old) ≢ 1 → own_runs new ≡ own_runs old → mid ≡ old.log.len + sum_by table_len run.tables → IfOk result (λ s. HasManifest file s.at s.len run)
    → IfOk result (λ s. s.at ≡ mid) → IfOk result (λ s. SealsLayers file old new s.at s.len)
seals_merged file old new run (Err e) mid several same wrote manifest at = tt
seals_merged file old new run (Ok s) mid several same wrote manifest at = record {
  run = run;
  manifest = manifest;
  one = λ is. absurd (several (sym (ap length same) ∙ is));
  merged = λ is. omega (arith, at, wrote, ap runs_len same, sum_by-append (λ (x : Run). sum_by table_len x.tables) (own_runs new) (run ∷ []), sum_by-cons (λ (x : Run). sum_by table_len x.tables) run []);
}

pub only_run : (rs : List Run) (r : Run) → length rs ≡ 1 → slice_get rs 0 ≡ Some r → rs ≡ r ∷ []
only_run [] r one at = absurd (omega (arith, one))
only_run (x ∷ []) r one at = ap (λ y. y ∷ []) (cc at)
only_run (x ∷ y ∷ rs) r one at = absurd (omega (arith, one))

one_layer : (file : List ℕ) (r : Run) (ls : List (List Record)) → AreStored file (r ∷ []) ls → IsStored file r (delta (flat_map (λ (rs : List Record). rs) ls))
one_layer file r [] stored = absurd stored
one_layer file r (l ∷ []) stored = subst (λ x. IsStored file r (delta x)) (sym (append-nil l)) stored.0
one_layer file r (l ∷ m ∷ ls) stored = absurd stored.1

-- the only run is stored for the only layer
pub only_stored : (file : List ℕ) (rs : List Run) (r : Run) (ls : List (List Record)) → length rs ≡ 1 → slice_get rs 0 ≡ Some r → AreStored file rs ls → IsStored file r (delta (flat_map (λ (x : List Record). x) ls))
only_stored file rs r ls one at stored = one_layer file r ls (subst (λ x. AreStored file x ls) (only_run rs r one at) stored)

pub only_count : (rs : List Run) (r : Run) → length rs ≡ 1 → slice_get rs 0 ≡ Some r → sum_by run_count rs ≡ run_count r
only_count rs r one at = omega (arith, ap (λ x. sum_by run_count x) (only_run rs r one at), sum_by-cons run_count r [])

pub only_tables : (rs : List Run) (r : Run) → length rs ≡ 1 → slice_get rs 0 ≡ Some r → table_count rs ≡ length r.tables
only_tables rs r one at = omega (arith, ap table_count (only_run rs r one at), sum_by-cons (λ (x : Run). length x.tables) r [])

pub joined_fit : (job : ℕ) (ls : List (List Record)) → AllByRecursion (FitsJob job) (flat_map (λ (rs : List Record). rs) ls) → AreFit job (delta (flat_map (λ (rs : List Record). rs) ls))
joined_fit job ls all = delta_fits job (flat_map (λ (rs : List Record). rs) ls) all

-- how many bytes the manifest costs
pub manifest_cost : (file : List ℕ) (run : Run) → AllByRecursion (IsTableOf file) run.tables → length run.tables ≤ run_count run
manifest_cost file run each = omega (arith, tables_few file run.tables each, run_counted file run.tables each)
