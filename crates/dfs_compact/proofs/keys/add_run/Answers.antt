use Rattle.std.proofs.Common.{◌++◌, ◌∙◌, sym, ap, map, take, arith, take_all}
use Rattle.dfs_fence.specs.declared.fence.Fence.{Fence}
use Rattle.dfs_table.specs.Tables.{all_fences}
use Rattle.dfs_compact.proofs.Rounds.{added, keys_of_table}
use Rattle.dfs_compact.proofs.keys.add_run.Goals as goal

pub loop-index-preserved : goal.loop-index-preserved
loop-index-preserved c =
    let first = λ (f : Fence). f.first in
    added c.args.keys.now.items (map first (all_fences (take c.loop-index.index c.args.run.now.tables))) (map first c.get.result.now.fences) c.add_table.new.keys.items c.loop-index.keys.items
    c.in_ok-add_table.ensures c.loop-index.invariant
    ∙ ap (λ l. c.args.keys.now.items ++ l) (sym (keys_of_table c.args.run.now.tables c.loop-index.index c.get.result.now c.get.ensures.table))

pub returns : goal.returns
returns c =
    c.loop-index.invariant
    ∙ ap (λ ts. c.args.keys.now.items ++ map (λ (f : Fence). f.first) (all_fences ts)) (take_all c.loop-index.index c.args.run.now.tables (omega (arith, c.loop-index-test.false, c.len-index-end.ensures.len)))
