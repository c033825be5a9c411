use Rattle.std.proofs.Common.{◌++◌, ◌∷◌, [], ◌∙◌, ap, map, arith, take_all, Global}
use Rattle.std.specs.declared.rc.Rc.{Rc}
use Rattle.dfs_table.specs.declared.run.Run.{Run}
use Rattle.dfs_change.specs.declared.change.Change.{Change}
use Rattle.dfs_job.proofs.Plans.{grown_twice}
use Rattle.dfs_job.proofs.planning.add_basis.Goals as goal

pub loop-change-preserved : goal.loop-change-preserved
loop-change-preserved c =
    grown_twice (λ (x : Rc Change Global). x.value) (λ (x : Change). x.run.value) c.args.basis.now c.loop-change.change-index c.change-item.result (map (λ (r : Rc Run Global). r.value) c.args.sources.now.items) (map (λ (r : Rc Run Global). r.value) c.loop-change.sources.items) (map (λ (r : Rc Run Global). r.value) c.add.new.sources.items) (omega (arith, c.loop-change-test.true)) c.change-item.is (c.in_ok-add.ensures ∙ ap (λ (x : Change). map (λ (r : Rc Run Global). r.value) c.loop-change.sources.items ++ x.run.value ∷ []) c.deref.ensures) c.loop-change.invariant

pub returns : goal.returns
returns c =
    c.loop-change.invariant
    ∙ ap (λ cs. map (λ (r : Rc Run Global). r.value) c.args.sources.now.items ++ map (λ (x : Change). x.run.value) (map (λ (x : Rc Change Global). x.value) cs)) (take_all c.loop-change.change-index c.args.basis.now (omega (arith, c.loop-change-test.false)))
