use Rattle.std.proofs.Common.{arith}
use Rattle.dfs_table.proofs.Counting.{count_table_more}
use Rattle.dfs_table.proofs.run.Run.count.Goals as goal

pub loop-index-preserved : goal.loop-index-preserved
loop-index-preserved c =
    let so_far = c.loop-index.invariant in
    let counted = c.count-count.ensures in (
      omega (arith, so_far.0, counted.count, count_table_more c.args.self.now.tables c.loop-index.index c.get.result.now c.get.ensures.table),
      omega (arith, so_far.1, counted.most),
    )
