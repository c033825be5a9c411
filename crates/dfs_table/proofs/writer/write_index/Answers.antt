use Rattle.std.proofs.Common.{length, ap, arith, ◌++◌, ◌∙◌}
use Rattle.dfs_fence.specs.Index.{index_bytes}
use Rattle.dfs_fence.proofs.Indexes.{short}
use Rattle.dfs_table.proofs.writer.write_index.Goals as goal

pub overflow_cast-result : goal.overflow_cast-result
overflow_cast-result g c =
    let fs = c.args.fences.now in
    omega (arith, c.len.ensures, c.deref.ensures.len, ap length (c.in-Ok.ensures.spelled ∙ ap (λ l. l ++ index_bytes fs) c.new-index.ensures.items), short (index_bytes fs) fs c.write.ensures.index)
