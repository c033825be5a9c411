use Rattle.std.proofs.Common.{◌≡◌, ◌-◌, Some, length, ap, sym, ◌∙◌, List}
use Rattle.std.specs.Prelude.{slice_get}
use Rattle.std.specs.Ordering.{is_lt}
use Rattle.dfs_record.specs.declared.Key.{Key}
use Rattle.dfs_record.specs.Key.{key_cmp}
use Rattle.dfs_record.specs.Lend.{key_of}
use Rattle.dfs_fence.specs.declared.fence.Fence.{Fence}
use Rattle.dfs_fence.specs.Reading.{is_above}
use Rattle.dfs_fence.proofs.Apart.{last_is}
use Rattle.dfs_fence.proofs.fences.Fences.is_below.Goals as goal

pub returns-in-Some : goal.returns-in-Some
returns-in-Some c =
    let key = key_of c.args.key in
    let fences = c.deref.ensures.value ∙ c.self.view_is in
    let there : slice_get c.args.self.now (length c.args.self.now - 1) ≡ Some c.in-Some.fence.now = sym (ap (λ (fs : List Fence). slice_get fs (length fs - 1)) fences) ∙ sym c.in-Some.ensures.value in
    c.is_lt.ensures
    ∙ ap is_lt (c.order.ensures ∙ ap (λ (k : Key). key_cmp k key) c.lend.ensures.value)
    ∙ ap (λ o. is_above o key) (sym (last_is c.args.self.now c.in-Some.fence.now there))
