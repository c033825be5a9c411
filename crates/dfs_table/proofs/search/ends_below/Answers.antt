use Rattle.std.proofs.Common.{◌≡◌, ◌-◌, Some, length, ap, sym, subst, ◌∙◌, slice_get}
use Rattle.std.specs.Ordering.{is_lt}
use Rattle.dfs_record.specs.Key.{key_cmp}
use Rattle.dfs_record.specs.Lend.{key_of}
use Rattle.dfs_fence.specs.Reading.{is_above}
use Rattle.dfs_fence.proofs.Apart.{last_is}
use Rattle.dfs_table.proofs.search.ends_below.Goals as goal

pub returns-in-Some : goal.returns-in-Some
returns-in-Some c =
    let key = key_of c.args.key in
    let fs = c.args.table.now.fences in
    let f = c.get.result.now in
    let there : slice_get fs (length fs - 1) ≡ Some f = subst (λ n. slice_get fs n ≡ Some f) (c.in-Some.ensures.1 ∙ ap (λ n. n - 1) c.len.ensures.len) c.get.ensures.fence in
    c.is_lt.ensures ∙ ap is_lt c.order.ensures ∙ ap (λ k. is_lt (key_cmp k key)) c.lend.ensures.value ∙ ap (λ o. is_above o key) (sym (last_is fs f there))
