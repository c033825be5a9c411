use Rattle.std.proofs.Common.{◌++◌, ◌+◌, ◌∙◌, ap, arith, drop}
use Rattle.dfs_table.specs.Starts.{starts_from}
use Rattle.dfs_table.proofs.Starts.{starts_more}
use Rattle.dfs_table.proofs.table.starts_of.Goals as goal

pub loop-index-preserved : goal.loop-index-preserved
loop-index-preserved c =
    let fs = c.args.fences.now in (
      ap (λ l. l ++ starts_from (c.loop-index.place + c.get.result.now.len) (drop (c.loop-index.index + 1) fs)) c.in-Ok.ensures.items ∙ starts_more c.loop-index.starts.items c.loop-index.place c.loop-index.index fs c.get.result.now c.get.ensures.fence c.loop-index.invariant.0,
      omega (arith, c.loop-index.invariant.1),
    )
