use Rattle.std.proofs.Common.{arith}
use Rattle.dfs_table.proofs.Counting.{count_more, fence_count_fits}
use Rattle.dfs_table.proofs.table.Table.count.Goals as goal

pub loop-index-preserved : goal.loop-index-preserved
loop-index-preserved c =
    let fs = c.args.self.now.fences in
    let so_far = c.loop-index.invariant in
    let fence = c.get.result.now in
    let fits = fence_count_fits fs c.loop-index.index fence c.get.ensures.fences c.get.ensures.fence in (
      omega (arith, so_far.0, c.from-count.ensures, count_more fs c.loop-index.index fence c.get.ensures.fence),
      omega (arith, so_far.1, c.from-count.ensures, fits),
    )
