-- What a job has once its open layer is closed.
use Rattle.std.proofs.Common.{◌≡◌, ◌∙◌, ◌+◌, ℕ, List, [], ◌∷◌, ◌++◌, length, map, refl, sym, ap, subst, arith, append-nil}
use Rattle.std.specs.Prelude.{flat_map}
use Rattle.std.specs.List.{AllByRecursion}
use Rattle.std.proofs.lemmas.Grind.{flat_map-append}
use Rattle.std.proofs.lemmas.List.{map-append}
use Rattle.std.proofs.lemmas.List.Sums.{sum_by-append, sum_by-cons}
use Rattle.dfs_host.specs.Host.{HostState, bytes_of}
use Rattle.dfs_record.specs.declared.Record.{Record}
use Rattle.dfs_record.specs.Delta.{delta, records_of}
use Rattle.dfs_change.specs.Identities.{FitsJob}
use Rattle.dfs_fence.specs.declared.fence.Fence.{Fence}
use Rattle.dfs_ops.specs.Within.{IsRecordWithin}
use Rattle.dfs_table.specs.declared.run.Run.{Run}
use Rattle.dfs_table.specs.Cut.{IsCut, block_firsts, tables_needed}
use Rattle.dfs_table.specs.Stored.{IsStored}
use Rattle.dfs_table.specs.Tables.{all_fences}
use Rattle.dfs_table.proofs.Firsts.{run_firsts}
use Rattle.dfs_table.proofs.Stays.{all_weaker}
use Rattle.dfs_compact.specs.Parts.{fences_in, first_keys}
use Rattle.dfs_view.specs.declared.layers.Layers.{Layers}
use Rattle.dfs_view.specs.Layers.{AreStored, StandFor, own_runs}
use Rattle.dfs_view.specs.Lists.{Layered, closed_by, flushed, joined}
use Rattle.dfs_view.specs.View.{AddsOpen}
use Rattle.dfs_job.specs.Job.{Job}
use Rattle.dfs_job.specs.Sealed.{IsSealable}
use Rattle.dfs_job.specs.Stands.{IsFair, table_count}
use Rattle.dfs_job.proofs.Fair.{within_fits}
use Rattle.dfs_job.proofs.Layers.{flushed_closed}
use Rattle.dfs_job.proofs.Sealing.{stored_lengths}

-- its layers may be sealed as one run
pub flushed_sealable : (host : HostState) (layers : Layers) (j : Job) → layers.log.file ≡ j.ids.job → IsFair j → StandFor host layers (flushed j.layers) → IsSealable host layers.log.file (own_runs layers) (flushed j.layers).closed
flushed_sealable host layers j file fair stands = record {
  stored = stands.closed;
  own = subst (λ n. AllByRecursion (FitsJob n) (flat_map (λ (x : List Record). x) (flushed j.layers).closed)) (sym file)
      (subst (AllByRecursion (FitsJob j.ids.job)) (sym (flushed_closed j.layers)) (all_weaker (IsRecordWithin j.ids) (FitsJob j.ids.job) (joined j.layers) (within_fits j.ids) fair.own));
}

last_stored : (file : List ℕ) (rs : List Run) (ls : List (List Record)) (run : Run) (l : List Record) → length rs ≡ length ls → AreStored file (rs ++ run ∷ []) (ls ++ l ∷ []) → IsStored file run (delta l)
last_stored file [] [] run l same stored = stored.0
last_stored file [] (m ∷ ls) run l same stored = absurd (omega (arith, same))
last_stored file (r ∷ rs) [] run l same stored = absurd (omega (arith, same))
last_stored file (r ∷ rs) (m ∷ ls) run l same stored = last_stored file rs ls run l (omega (arith, same)) stored.1

firsts_more : (rs : List Run) (run : Run) → first_keys (rs ++ run ∷ []) ≡ first_keys rs ++ map (λ (f : Fence). f.first) (all_fences run.tables)
firsts_more rs run =
    ap (map (λ (f : Fence). f.first)) (flat_map-append (λ (r : Run). all_fences r.tables) rs (run ∷ []) ∙ ap (λ fs. fences_in rs ++ fs) (append-nil (all_fences run.tables)))
    ∙ map-append (λ (f : Fence). f.first) (fences_in rs) (all_fences run.tables)

-- the first keys of its blocks are those of its runs, and behind them those that the open layer is cut by
pub firsts_flushed : (host after : HostState) (old new : Layers) (l : Layered) → StandFor host old l → AreStored (bytes_of after new.log.file) (own_runs new) (flushed l).closed → AddsOpen old new
    → first_keys (own_runs new) ≡ first_keys (own_runs old) ++ block_firsts (records_of (delta l.open_))
firsts_flushed host after old new l stands stored adds = by l.open_ refl
  where
    by : (rs : List Record) → l.open_ ≡ rs → first_keys (own_runs new) ≡ first_keys (own_runs old) ++ block_firsts (records_of (delta l.open_))
    by [] e =
        ap first_keys (adds.none (omega (arith, stands.open_.made, ap length e)))
        ∙ sym (append-nil (first_keys (own_runs old))) ∙ ap (λ rs. first_keys (own_runs old) ++ block_firsts (records_of (delta rs))) (sym e)
    by (r ∷ rs) e =
        let file = bytes_of after new.log.file in
        let more = adds.one (omega (arith, stands.open_.made, ap length e)) in
        let held : old.buffer.held ≡ delta (r ∷ rs) = stands.open_.held ∙ ap delta e in
        let all : AreStored file (own_runs new) (l.closed ++ (r ∷ rs) ∷ []) = subst (λ (xs : List Record). AreStored file (own_runs new) (closed_by xs l).closed) e stored in
        let one : IsStored file more.run (delta (r ∷ rs)) =
        last_stored file (own_runs old) l.closed more.run (r ∷ rs) (stored_lengths (bytes_of host old.log.file) (own_runs old) l.closed stands.closed) (subst (λ xs. AreStored file xs (l.closed ++ (r ∷ rs) ∷ [])) more.runs all) in
        ap first_keys more.runs ∙ firsts_more (own_runs old) more.run
        ∙ ap (λ ks. first_keys (own_runs old) ++ ks) (run_firsts file more.run (delta (r ∷ rs)) one (subst (λ d. IsCut (records_of d) more.run.tables) held more.cut))
        ∙ ap (λ xs. first_keys (own_runs old) ++ block_firsts (records_of (delta xs))) (sym e)

-- it has their tables, and those that the records of the open layer need
pub tables_flushed : (host : HostState) (old new : Layers) (l : Layered) → StandFor host old l → AddsOpen old new → table_count (own_runs new) ≡ table_count (own_runs old) + tables_needed (records_of (delta l.open_))
tables_flushed host old new l stands adds = by l.open_ refl
  where
    by : (rs : List Record) → l.open_ ≡ rs → table_count (own_runs new) ≡ table_count (own_runs old) + tables_needed (records_of (delta l.open_))
    by [] e =
        let none : tables_needed (records_of (delta l.open_)) ≡ 0 = ap (λ rs. tables_needed (records_of (delta rs))) e in
        omega (arith, none, ap table_count (adds.none (omega (arith, stands.open_.made, ap length e))))
    by (r ∷ rs) e =
        let more = adds.one (omega (arith, stands.open_.made, ap length e)) in
        omega (
          arith,
          ap table_count more.runs,
          sum_by-append (λ (x : Run). length x.tables) (own_runs old) (more.run ∷ []),
          sum_by-cons (λ (x : Run). length x.tables) more.run [],
          more.cut.needed,
          ap (λ d. tables_needed (records_of d)) stands.open_.held,
        )
