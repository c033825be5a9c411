use Rattle.std.proofs.Common.{ap, arith, map}
use Rattle.std.specs.List.{sum_by}
use Rattle.std.proofs.lemmas.List.{take_all, length-map}
use Rattle.dfs_host.specs.Host.{bytes_of}
use Rattle.dfs_view.specs.Layers.{own_runs, run_count}
use Rattle.dfs_view.specs.View.{IsOwnRun}
use Rattle.dfs_job.proofs.Counts.{counts_fit}
use Rattle.dfs_job.proofs.Sealing.{all_at, all_counted, count_next, run_in, stored_lengths}
use Rattle.dfs_job.proofs.job.Job.stats.Goals as goal

pub count-requires : goal.count-requires
count-requires c =
    let rs = own_runs c.args.self.now.layers in
    (all_at (IsOwnRun c.args.self.now.ids.job) rs c.loop-index.index c.run_at.result.now c.requires.fit.own (run_in rs c.loop-index.index c.run_at.result.now (ap (map (λ r. r.value)) c.deref.ensures.value) c.run_at.ensures)).few

pub loop-index-preserved : goal.loop-index-preserved
loop-index-preserved c =
    let rs = own_runs c.args.self.now.layers in
    let run = c.run_at.result.now in
    omega (
      arith,
      c.loop-index.invariant,
      c.saturating_add-records.ensures,
      c.count.ensures.count,
      count_next rs c.loop-index.index run (run_in rs c.loop-index.index run (ap (map (λ r. r.value)) c.deref.ensures.value) c.run_at.ensures),
    )

pub returns-clause-runs : goal.returns-clause-runs
returns-clause-runs c = λ host j stands.
    omega (
      arith,
      c.len.ensures,
      length-map c.args.self.now.layers.runs.items (λ r. r.value),
      stored_lengths (bytes_of host c.args.self.now.layers.log.file) (own_runs c.args.self.now.layers) j.layers.closed stands.layers.closed,
    )

pub returns-clause-records : goal.returns-clause-records
returns-clause-records c = λ host j stands.
    let rs = own_runs c.args.self.now.layers in
    omega (
      arith,
      c.loop-index.invariant,
      ap (λ l. sum_by run_count l) (take_all c.loop-index.index rs (omega (arith, c.loop-index-test.false, c.len-index-end.ensures, length-map c.args.self.now.layers.runs.items (λ r. r.value)))),
      all_counted (bytes_of host c.args.self.now.layers.log.file) rs j.layers.closed stands.layers.closed,
      counts_fit host c.args.self.now j c.requires.fit stands,
    )
