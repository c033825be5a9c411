use Rattle.std.proofs.Common.{◌∙◌, ap}
use Rattle.std.specs.Ordering.{is_lt}
use Rattle.dfs_record.specs.Key.{key_cmp}
use Rattle.dfs_record.specs.Lend.{key_of}
use Rattle.dfs_fence.specs.Reading.{is_above}
use Rattle.dfs_table.proofs.Joining.{takes_by}
use Rattle.dfs_table.proofs.run.Tables.takes.Goals as goal

pub returns-in-Some : goal.returns-in-Some
returns-in-Some c =
    let f = c.get.result.now in
    takes_by c.args.self.now c.args.table.now f c.is_lt.result c.get.ensures.fence c.last_key.ensures.tables.rise c.get.ensures.fences.apart
    (c.is_lt.ensures ∙ ap is_lt c.order.ensures ∙ ap (λ k. is_lt (key_cmp k (key_of c.lend-in-Some.result))) c.lend.ensures.value
    ∙ ap (λ k. is_lt (key_cmp c.in-Some.last.now k)) c.lend-in-Some.ensures.value ∙ ap (λ o. is_above o f.first) c.in-Some.ensures.last)

pub returns-in-None : goal.returns-in-None
returns-in-None c =
    let f = c.get.result.now in
    takes_by c.args.self.now c.args.table.now f _ c.get.ensures.fence c.last_key.ensures.tables.rise c.get.ensures.fences.apart
    (ap (λ o. is_above o f.first) c.in-None.ensures.last)
