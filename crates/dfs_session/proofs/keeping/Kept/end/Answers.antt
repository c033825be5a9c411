use Rattle.std.proofs.Common.{◌≡◌, ◌∙◌, ℕ, map, None, refl, ap, subst}
use Rattle.std.proofs.lemmas.List.{drop_all}
use Rattle.std.specs.Prelude.{option_map}
use Rattle.std.specs.BTreeMap.{get}
use Rattle.std.specs.Ordering.{nat_cmp}
use Rattle.dfs_session.specs.declared.keeping.Kept.{Kept}
use Rattle.dfs_session.specs.Kept.{begin_in, or_nothing}
use Rattle.dfs_session.proofs.Uses.{Ending, ended_indexed, other_begins}
use Rattle.dfs_session.proofs.keeping.Kept.end.Goals as goal

pub returns-clause-indexed : goal.returns-clause-indexed
returns-clause-indexed c =
    let was = c.args.self.now in
    let old : Kept = record was { begins = c.remove.new.self } in
    let now = c.loop-change.self in
    let so_far = c.loop-change.invariant in
    let same : (n : ℕ) → begin_in now n ≡ begin_in old n = λ n i. begin_in (record was { begins = so_far.begins i }) n in
    ended_indexed was old now c.args.number c.requires refl
    (subst (Ending old now c.args.number) (ap (map (λ r. r.value)) (drop_all c.loop-change.change-index c.deref-change-items.result.now c.loop-change-test.false)) so_far)
    (same c.args.number ∙ ap (λ o. or_nothing (option_map (λ cs. map (λ r. r.value) cs.items) o)) c.remove.ensures.updates.1)
    (λ other apart. same other ∙ ap (λ o. or_nothing (option_map (λ cs. map (λ r. r.value) cs.items) o)) (other_begins c.args.number None (get nat_cmp was.begins) (get nat_cmp c.remove.new.self) c.remove.ensures.updates.0 other apart))
