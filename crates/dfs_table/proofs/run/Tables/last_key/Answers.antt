use Rattle.std.proofs.Common.{◌≡◌, ◌∙◌, ◌-◌, sym, ap, subst, slice_get, Some}
use Rattle.dfs_table.proofs.Joining.{last_of_all}
use Rattle.dfs_table.proofs.run.Tables.last_key.Goals as goal

pub returns-clause-last : goal.returns-clause-last
returns-clause-last c =
    let ts = c.args.self.now in
    let t = c.get.result.now in
    let f = c.get-2.result.now in
    sym (last_of_all ts t f (subst (λ n. slice_get ts n ≡ Some t) (c.in_ok-last.ensures.1 ∙ ap (λ n. n - 1) c.len.ensures.len) c.get.ensures.table) (subst (λ n. slice_get t.fences n ≡ Some f) (ap (λ n. n - 1) c.len-2.ensures.len) c.get-2.ensures.fence))
