use Rattle.std.proofs.Common.{◌≡◌, ◌∙◌, ◌+◌, ◌++◌, ◌∷◌, [], Bool, List, Some, length, map, take, refl, sym, ap, subst}
use Rattle.std.proofs.lemmas.List.{map-append, take_all}
use Rattle.std.proofs.lemmas.Option.{slice_get_read}
use Rattle.std.specs.Prelude.{if◌then◌else◌, option_map}
use Rattle.std.specs.BTreeMap.{get}
use Rattle.std.specs.Ordering.{nat_cmp}
use Rattle.dfs_change.specs.declared.change.Change.{Change}
use Rattle.dfs_session.specs.declared.keeping.Kept.{Kept}
use Rattle.dfs_session.specs.Kept.{begin_in, or_nothing}
use Rattle.dfs_session.proofs.Lists.{map_next}
use Rattle.dfs_session.proofs.Uses.{Keeping, begun_indexed, keeping_one, other_begins}
use Rattle.dfs_session.proofs.keeping.Kept.keep.Goals as goal

pub loop-change-preserved : goal.loop-change-preserved
loop-change-preserved c =
    let index = c.loop-change.change-index in
    let next : map (λ c. c.value) (take (index + 1) c.args.changes.now) ≡ map (λ c. c.value) (take index c.args.changes.now) ++ c.change-item.result.value ∷ [] =
    map_next c.args.changes.now index c.change-item.result (slice_get_read c.args.changes.now (length c.args.changes.now) index c.change-item.result refl c.loop-change-test.true c.change-item.is) (λ c. c.value) in
    let pushed = c.loop-change.begun.items ++ c.in_ok-clone.field-0 ∷ [] in (
      subst (Keeping c.args.self.now c.add.new.self c.args.number) (sym next)
          (keeping_one c.args.self.now c.loop-change.self c.add.new.self c.args.number (map (λ c. c.value) (take index c.args.changes.now)) c.change-item.result.value c.in_ok-add.ensures.here c.in_ok-add.ensures.others c.in_ok-add.ensures.begins c.loop-change.invariant.0),
      ap (map (λ c. c.value)) (c.push.ensures.items ∙ ap (λ (b : Bool). if b then pushed else c.loop-change.begun.items) c.if-is_err.ensures.negation) ∙ map-append (λ c. c.value) c.loop-change.begun.items (c.in_ok-clone.field-0 ∷ []) ∙ (λ i. c.loop-change.invariant.1 i ++ c.in_ok-clone.ensures.cases i ∷ []) ∙ sym next,
    )

pub returns-in-Ok-clause-indexed : goal.returns-in-Ok-clause-indexed
returns-in-Ok-clause-indexed c =
    let old = c.args.self.now in
    let now = c.loop-change.self in
    let cs : List Change = map (λ c. c.value) c.args.changes.now in
    let so_far = c.loop-change.invariant in
    let all : map (λ c. c.value) (take c.loop-change.change-index c.args.changes.now) ≡ cs = ap (map (λ c. c.value)) (take_all c.loop-change.change-index c.args.changes.now c.loop-change-test.false) in
    let after : Kept = record now { begins = c.insert.new.self } in
    begun_indexed old now after c.args.number cs c.requires.indexed c.requires.anew (subst (Keeping old now c.args.number) all so_far.0) refl
    (ap (λ o. or_nothing (option_map (λ cs. map (λ r. r.value) cs.items) o)) c.in-Ok.ensures.updates.1 ∙ so_far.1 ∙ all)
    (λ other apart. ap (λ o. or_nothing (option_map (λ cs. map (λ r. r.value) cs.items) o)) (other_begins c.args.number (Some c.loop-change.begun) (get nat_cmp now.begins) (get nat_cmp c.insert.new.self) c.in-Ok.ensures.updates.0 other apart)
    ∙ (λ i. begin_in (record old { begins = so_far.0.begins i }) other))
