use Rattle.std.proofs.Common.{◌++◌, ◌∙◌, sym, ap, map, take, arith, take_all}
use Rattle.std.specs.declared.rc.Rc.{Rc}
use Rattle.std.proofs.Common.{Global}
use Rattle.dfs_fence.specs.declared.fence.Fence.{Fence}
use Rattle.dfs_table.specs.declared.run.Run.{Run}
use Rattle.dfs_table.specs.Tables.{all_fences}
use Rattle.dfs_compact.specs.Parts.{first_keys}
use Rattle.dfs_compact.proofs.Rounds.{keys_further}
use Rattle.dfs_compact.proofs.keys.keys_of.Goals as goal

pub loop-run-preserved : goal.loop-run-preserved
loop-run-preserved c =
    c.in_ok-add_run.ensures
    ∙ ap (λ l. l ++ map (λ (f : Fence). f.first) (all_fences c.deref.result.now.tables)) c.loop-run.invariant
    ∙ ap (λ (r : Run). first_keys (map (λ (s : Rc Run Global). s.value) (take c.loop-run.run-index c.args.sources.now)) ++ map (λ (f : Fence). f.first) (all_fences r.tables)) c.deref.ensures
    ∙ sym (keys_further (λ (s : Rc Run Global). s.value) c.args.sources.now c.loop-run.run-index c.run-item.result (omega (arith, c.loop-run-test.true)) c.run-item.is)

pub returns : goal.returns
returns c =
    c.loop-run.invariant
    ∙ ap (λ rs. first_keys (map (λ (s : Rc Run Global). s.value) rs)) (take_all c.loop-run.run-index c.args.sources.now (omega (arith, c.loop-run-test.false)))
