use Rattle.std.proofs.Common.{◌++◌, take, ap, sym, ◌∙◌, List, ℕ, arith}
use Rattle.std.specs.List.{flat_map}
use Rattle.dfs_fence.specs.declared.fence.Fence.{Fence}
use Rattle.dfs_fence.specs.Index.{fence_bytes}
use Rattle.dfs_record.proofs.Growing.{then, grown_then}
use Rattle.dfs_record.proofs.Listed.{flat_take}
use Rattle.dfs_fence.proofs.writing.append_fences.Goals as goal

pub loop-fence-preserved : goal.loop-fence-preserved
loop-fence-preserved c =
    let i = c.loop-fence.fence-index in
    let before = flat_map fence_bytes (take i c.args.fences.now) in
    then c.args.out.now.items c.loop-fence.out.items c.append_fence.new.out.items before (fence_bytes c.fence-item.result) c.loop-fence.invariant c.in_ok-append_fence.ensures.spelled
    ∙ ap (λ (l : List ℕ). c.args.out.now.items ++ l)
    (ap (λ (f : Fence). before ++ fence_bytes f) c.fence-item.is ∙ sym (flat_take fence_bytes c.args.fences.now i c.fence-item.result (omega (arith, c.loop-fence-test.true))))

pub returns-in_err-append_fence-clause-grown : goal.returns-in_err-append_fence-clause-grown
returns-in_err-append_fence-clause-grown c = grown_then c.args.out.now.items c.loop-fence.out.items c.append_fence.new.out.items (flat_map fence_bytes (take c.loop-fence.fence-index c.args.fences.now)) c.loop-fence.invariant c.in_err-append_fence.ensures.grown
