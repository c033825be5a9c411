use Rattle.std.proofs.Common.{◌++◌, ◌∷◌, [], ◌∙◌, sym, ap, map, take, arith, take_all}
use Rattle.dfs_compact.proofs.Rounds.{added, map_at}
use Rattle.dfs_fence.specs.declared.fence.Fence.{Fence}
use Rattle.dfs_compact.proofs.keys.add_table.Goals as goal

pub loop-index-preserved : goal.loop-index-preserved
loop-index-preserved c =
    let first = λ (f : Fence). f.first in
    added c.args.keys.now.items (map first (take c.loop-index.index c.args.table.now.fences)) (first c.get.result.now ∷ []) c.push.new.self.items c.loop-index.keys.items
    (c.in-Ok.ensures.items ∙ ap (λ k. c.loop-index.keys.items ++ k ∷ []) c.in_ok-first.ensures.equal) c.loop-index.invariant
    ∙ ap (λ l. c.args.keys.now.items ++ l) (sym (map_at first c.args.table.now.fences c.loop-index.index c.get.result.now c.get.ensures.fence))

pub returns : goal.returns
returns c =
    c.loop-index.invariant
    ∙ ap (λ fs. c.args.keys.now.items ++ map (λ (f : Fence). f.first) fs) (take_all c.loop-index.index c.args.table.now.fences (omega (arith, c.loop-index-test.false, c.len-index-end.ensures.len)))
