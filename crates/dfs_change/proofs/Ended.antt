-- A run with its manifest behind it is the log of a publication.
use Rattle.std.proofs.Common.{Result, Ok, Err, ◌≡◌, ◌≤◌, ◌<◌, ◌+◌, ◌*◌, ◌^◌, ◌++◌, ◌∷◌, [], ℕ, List, length, take, drop, refl, ◌∙◌, sym, ap, subst, arith, slice_get, Some}
use Rattle.std.specs.Prelude.{flat_map, true, IsErrOf, OnOk}
use Rattle.std.specs.Int.{w32, to_be_bytes}
use Rattle.std.specs.List.{AllByRecursion}
use Rattle.std.proofs.lemmas.List.{length-append, length-drop, length-map, length-take, map_more, take-append-le}
use Rattle.std.proofs.lemmas.List.Folds.{flat_map-map}
use Rattle.std.proofs.lemmas.Option.{get_or_from_slice_get, slice_get_within}
use Rattle.dfs_record.specs.Delta.{delta}
use Rattle.dfs_fence.specs.declared.fence.Fence.{Fence}
use Rattle.dfs_fence.proofs.Indexes.{short}
use Rattle.dfs_host.specs.declared.fault.Fault.{Fault}
use Rattle.dfs_host.specs.declared.fault.Fault.TheVariants.{NoMemory, Disk, LogFull, Changed}
use Rattle.dfs_log.specs.Logs.{LogState, log_header}
use Rattle.dfs_manifest.specs.Manifest.{Extent, IsExtent, extent_bytes, manifest_bytes}
use Rattle.dfs_manifest.proofs.Tables.{flat_length}
use Rattle.dfs_registry.specs.declared.listed.Listed.{Listed}
use Rattle.dfs_table.specs.declared.table.Table.{Table}
use Rattle.dfs_table.specs.Counts.{count_of}
use Rattle.dfs_table.specs.Identities.{IsWithin}
use Rattle.dfs_table.specs.Opened.{EndsBy, IsTableAt}
use Rattle.dfs_table.specs.Stored.{IsBlockOf, IsTableOf, part, records_by, run_records, table_records}
use Rattle.dfs_table.specs.Tables.{all_fences}
use Rattle.dfs_fence.specs.Index.{AreApart}
use Rattle.dfs_table.proofs.Closing.{part_at_end}
use Rattle.dfs_table.proofs.Rising.{all_records, all_blocks}
use Rattle.dfs_table.proofs.Stays.{all_behind, all_front, all_records_stay, all_weaker, blocks_stay, index_stays}
use Rattle.dfs_change.specs.Whole.{AreTablesAt, HasChanges, end_of, extents_of, table_fences, joined}

pub manifest_length : (ts : List Table) → length (manifest_bytes (extents_of ts)) ≡ 4 + 12 * length ts
manifest_length ts =
    let es = extents_of ts in
    omega (arith, length-append (to_be_bytes w32 (length es)) (flat_map extent_bytes es), flat_length es, length-map {B = Extent} ts (λ (t : Table). (t.index_at, t.index_len)))

pub extents_more : (ts : List Table) (i : ℕ) (t : Table) → slice_get ts i ≡ Some t → extents_of (take (i + 1) ts) ≡ extents_of (take i ts) ++ (t.index_at, t.index_len) ∷ []
extents_more ts i t is =
    map_more (λ (t : Table). (t.index_at, t.index_len)) ts i t (slice_get_within ts i t is)
    ∙ ap (λ (x : Table). extents_of (take i ts) ++ (x.index_at, x.index_len) ∷ []) (get_or_from_slice_get ts i t t is)

-- the fences of all tables, joined in two ways
pub joined_fences : (ts : List Table) → joined (table_fences ts) ≡ all_fences ts
joined_fences ts = flat_map-map (λ (fs : List Fence). fs) (λ (t : Table). t.fences) ts

module _ (file : List ℕ) (job : ℕ) (short_file : length file < 2 ^ 64) where
  extent_fits : (t : Table) → IsTableOf file t → IsExtent (t.index_at, t.index_len)
  extent_fits t is =
      let index = is.index in
      let len : length (part file t.index_at t.index_len) ≡ t.index_len = omega (arith, length-take t.index_len (drop t.index_at file), length-drop t.index_at file, index.inside) in
      (omega (arith, index.inside, short_file), omega (arith, len, short (part file t.index_at t.index_len) t.fences index.index))

  extents_fit : (ts : List Table) → AllByRecursion (IsTableOf file) ts → AllByRecursion IsExtent (extents_of ts)
  extents_fit [] each = tt
  extents_fit (t ∷ ts) each = (extent_fits t each.0, extents_fit ts each.1)

  module _ (more : List ℕ) (l : Listed) (ends : length file ≤ end_of l) (same_job : l.job ≡ job) where
    table_at : (t : Table) → IsTableOf file t → AllByRecursion (IsWithin job) (table_records file t) → IsTableAt (file ++ more) l.job t.index_at t.index_len (end_of l) t.fences
    table_at t is within = record {
      index = index_stays file more t.index_at t.index_len t.fences is.index;
      index_ends = omega (arith, is.index.inside, ends);
      each = blocks_stay file more t.fences is.each;
      each_ends = all_weaker (IsBlockOf file) (EndsBy (end_of l)) t.fences (λ f block. omega (arith, block.inside, ends)) is.each;
      within = subst (λ n. AllByRecursion (IsWithin n) (records_by (file ++ more) t.fences)) (sym same_job)
          (subst (AllByRecursion (IsWithin job)) (sym (all_records_stay file more t.fences is.each)) within);
    }

    tables_at : (ts : List Table) → AllByRecursion (IsTableOf file) ts → AllByRecursion (IsWithin job) (run_records file ts) → AreTablesAt (file ++ more) l (extents_of ts) (table_fences ts)
    tables_at [] each within = tt
    tables_at (t ∷ ts) each within = (
      table_at t each.0 (all_front (IsWithin job) (table_records file t) (run_records file ts) within),
      tables_at ts each.1 (all_behind (IsWithin job) (table_records file t) (run_records file ts) within),
    )

  -- the manifest behind the file
  pub sealed_log : (ts : List Table) (l : Listed) → 12 ≤ length file → take 12 file ≡ log_header job → AllByRecursion (IsTableOf file) ts → AllByRecursion (IsWithin job) (run_records file ts)
      → AreApart (all_fences ts) → length ts ≤ 131072 → l.job ≡ job → l.at ≡ length file → l.len ≡ length (manifest_bytes (extents_of ts)) → l.count ≡ count_of (all_fences ts)
      → HasChanges (file ++ manifest_bytes (extents_of ts)) l (delta (run_records file ts))
  sealed_log ts l long header each within rise few same_job at len count =
      let m = manifest_bytes (extents_of ts) in
      let placed : part (file ++ m) l.at l.len ≡ m = part_at_end file m l.at l.len at len in
      record {
        tables = extents_of ts;
        fences = table_fences ts;
        whole = record {
          logged = record {
            long = omega (arith, long, length-append file m);
            header = take-append-le 12 file m long ∙ header ∙ ap log_header (sym same_job);
            behind = omega (arith, at, long);
            inside = omega (arith, at, len, length-append file m);
          };
          manifest = record { few = omega (arith, few, length-map {B = Extent} ts (λ (t : Table). (t.index_at, t.index_len))); spelled = placed; fit = extents_fit ts each };
          tables = tables_at m l (omega (arith, at)) same_job ts each within;
          rise = subst AreApart (sym (joined_fences ts)) rise;
          count = ap count_of (joined_fences ts) ∙ sym count;
        };
        changes = ap delta (all_records file ts ∙ sym (all_records_stay file m (all_fences ts) (all_blocks file ts each)) ∙ ap (records_by (file ++ m)) (sym (joined_fences ts)));
      }

-- what an append costs, with a piece that it refused
pub append_cost : (result : Result ℕ Fault) (log now : LogState) (n : ℕ) → log.refused ≡ 0 → OnOk result (now ≡ record log { len = log.len + n })
    → (IsErrOf result LogFull → now ≡ record log { spent = true; refused = n }) → (IsErrOf result Disk → now ≡ record log { spent = true })
    → (IsErrOf result NoMemory → ⊥) → ((file at : ℕ) → IsErrOf result (Changed file at) → ⊥) → now.len + now.refused ≤ log.len + n
append_cost (Ok x) log now n none longer refused failed memory changed = omega (arith, none, ap (λ (l : LogState). l.len) longer, ap (λ (l : LogState). l.refused) longer)
append_cost (Err NoMemory) log now n none longer refused failed memory changed = absurd (memory refl)
append_cost (Err Disk) log now n none longer refused failed memory changed = let is = failed refl in omega (arith, none, ap (λ (l : LogState). l.len) is, ap (λ (l : LogState). l.refused) is)
append_cost (Err LogFull) log now n none longer refused failed memory changed = let is = refused refl in omega (arith, ap (λ (l : LogState). l.len) is, ap (λ (l : LogState). l.refused) is)
append_cost (Err (Changed file at)) log now n none longer refused failed memory changed = absurd (changed file at refl)
