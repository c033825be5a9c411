use Rattle.std.proofs.Common.{◌∙◌, ◌++◌, ◌∷◌, [], sym, ap}
use Rattle.dfs_change.proofs.Ended.{extents_more}
use Rattle.dfs_change.proofs.sealing.extents_of.Goals as goal

pub loop-index-preserved : goal.loop-index-preserved
loop-index-preserved c =
    let t = c.get-table.result.now in
    c.in-Ok.ensures.items ∙ ap (λ l. l ++ (t.index_at, t.index_len) ∷ []) c.loop-index.invariant ∙ sym (extents_more c.args.tables.now c.loop-index.index t c.get-table.ensures.table)
