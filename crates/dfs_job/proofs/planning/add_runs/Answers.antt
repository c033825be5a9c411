use Rattle.std.proofs.Common.{◌++◌, ◌∙◌, ap, map, arith, take_all, Global}
use Rattle.std.specs.declared.rc.Rc.{Rc}
use Rattle.dfs_table.specs.declared.run.Run.{Run}
use Rattle.dfs_job.proofs.Plans.{grown}
use Rattle.dfs_job.proofs.planning.add_runs.Goals as goal

pub loop-run-preserved : goal.loop-run-preserved
loop-run-preserved c =
    grown (λ (r : Rc Run Global). r.value) c.args.runs.now c.loop-run.run-index c.run-item.result (map (λ (r : Rc Run Global). r.value) c.args.sources.now.items) (map (λ (r : Rc Run Global). r.value) c.loop-run.sources.items) (map (λ (r : Rc Run Global). r.value) c.add.new.sources.items) (omega (arith, c.loop-run-test.true)) c.run-item.is c.in_ok-add.ensures c.loop-run.invariant

pub returns : goal.returns
returns c = c.loop-run.invariant ∙ ap (λ rs. map (λ (r : Rc Run Global). r.value) c.args.sources.now.items ++ map (λ (r : Rc Run Global). r.value) rs) (take_all c.loop-run.run-index c.args.runs.now (omega (arith, c.loop-run-test.false)))
