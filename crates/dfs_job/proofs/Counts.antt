-- The records of a job's closed layers are so few that 64 bits hold their number.
use Rattle.std.proofs.Common.{◌≤◌, ◌*◌, ℕ, List, [], ◌∷◌, length, ap, arith, length-append}
use Rattle.std.specs.Prelude.{flat_map}
use Rattle.std.specs.List.{AllByRecursion, sum_by}
use Rattle.std.proofs.lemmas.List.Sums.{sum_by-append, sum_by-cons}
use Rattle.dfs_host.specs.Host.{HostState, bytes_of}
use Rattle.dfs_record.specs.declared.Record.{Record}
use Rattle.std.specs.Int.{to_be_bytes, w16}
use Rattle.dfs_record.specs.declared.Entry.TheVariants.{Dir, File}
use Rattle.dfs_record.specs.declared.Value.{Value}
use Rattle.dfs_record.specs.declared.Value.TheVariants.{Del, Put}
use Rattle.dfs_record.specs.Record.{key_bytes, spelling, value_bytes}
use Rattle.dfs_fence.specs.declared.fence.Fence.{Fence}
use Rattle.dfs_table.specs.declared.run.Run.{Run}
use Rattle.dfs_table.specs.declared.table.Table.{Table}
use Rattle.dfs_table.specs.Counts.{count_of}
use Rattle.dfs_table.specs.Stored.{IsBlockOf, IsTableOf, records_at}
use Rattle.dfs_table.specs.Tables.{all_fences}
use Rattle.dfs_view.specs.Layers.{AreStored, own_runs, run_count}
use Rattle.dfs_view.specs.View.{IsOwnRun}
use Rattle.dfs_job.specs.declared.job.Job.{Job as LiveJob}
use Rattle.dfs_job.specs.Job.{Job}
use Rattle.dfs_job.specs.Stands.{JobIsFit, JobStands}
use Rattle.dfs_job.proofs.Sealing.{stored_lengths}

-- the spelling of a record has a byte at least
value_some : (v : Value) → 1 ≤ length (value_bytes v)
value_some Del = omega arith
value_some (Put (Dir id mode time)) = omega arith
value_some (Put (File mode time size reference)) = omega arith

spelled_some : (r : Record) → 1 ≤ length (spelling r)
spelled_some r = omega (arith, length-append (key_bytes r.key) (value_bytes r.value), value_some r.value)

spelled_all : (rs : List Record) → length rs ≤ length (flat_map spelling rs)
spelled_all [] = omega arith
spelled_all (r ∷ rs) = omega (arith, spelled_some r, spelled_all rs, length-append (spelling r) (flat_map spelling rs))

block_few : (file : List ℕ) (f : Fence) → IsBlockOf file f → f.count ≤ 4096
block_few file f is = omega (arith, is.count, is.block.short, ap length is.block.spelled, length-append (to_be_bytes w16 (length (records_at file f))) (flat_map spelling (records_at file f)), spelled_all (records_at file f))

blocks_few : (file : List ℕ) (fs : List Fence) → AllByRecursion (IsBlockOf file) fs → count_of fs ≤ 4096 * length fs
blocks_few file [] each = omega arith
blocks_few file (f ∷ fs) each = omega (arith, sum_by-cons (λ (g : Fence). g.count) f fs, block_few file f each.0, blocks_few file fs each.1)

tables_few : (file : List ℕ) (ts : List Table) → AllByRecursion (IsTableOf file) ts → count_of (all_fences ts) ≤ 16777216 * length ts
tables_few file [] each = omega arith
tables_few file (t ∷ ts) each =
    omega (arith, sum_by-append (λ (g : Fence). g.count) t.fences (all_fences ts), blocks_few file t.fences each.0.each, each.0.index.index.fences.few, tables_few file ts each.1)

-- a run of 131,072 tables has at most so many records
runs_few : (file : List ℕ) (job : ℕ) (rs : List Run) (ls : List (List Record)) → AreStored file rs ls → AllByRecursion (IsOwnRun job) rs → sum_by run_count rs ≤ 2199023255552 * length rs
runs_few file job [] [] stored own = omega arith
runs_few file job [] (l ∷ ls) stored own = absurd stored
runs_few file job (r ∷ rs) [] stored own = absurd stored
runs_few file job (r ∷ rs) (l ∷ ls) stored own =
    omega (arith, sum_by-cons run_count r rs, tables_few file r.tables stored.0.each, own.0.few, runs_few file job rs ls stored.1 own.1)

pub counts_fit : (host : HostState) (live : LiveJob) (j : Job) → JobIsFit live → JobStands host live j → sum_by run_count (own_runs live.layers) ≤ 18446744073709551615
counts_fit host live j fit stands =
    let file = bytes_of host live.layers.log.file in
    omega (
      arith,
      runs_few file live.ids.job (own_runs live.layers) j.layers.closed stands.layers.closed fit.own,
      stored_lengths file (own_runs live.layers) j.layers.closed stands.layers.closed,
      stands.fair.few,
      fit.ids.made,
      ap (λ (n : _). n.made) stands.ids,
    )
