use Rattle.std.proofs.Common.{arith, ap, sym, subst, length, List}
use Rattle.dfs_fence.specs.declared.fence.Fence.{Fence}
use Rattle.dfs_fence.specs.Index.{IsAboveLast, last_end}
use Rattle.dfs_fence.proofs.Apart.{fences_either, fences_more}
use Rattle.dfs_fence.proofs.fences.Fences.push.Goals as goal

pub invariant_of-self : goal.invariant_of-self
invariant_of-self c =
    fences_either _ c.self.inside.fences.items c.push.new.self.items c.args.fence c.push.ensures.items c.self.invariant
    (fences_more c.self.inside.fences.items c.args.fence c.self.invariant (omega (arith, c.requires.few, ap length c.self.view_is)) c.requires.fence
    (subst (λ (fs : List Fence). IsAboveLast (last_end fs) c.args.fence.first) (sym c.self.view_is) c.requires.above))
