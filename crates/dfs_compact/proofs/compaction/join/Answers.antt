use Rattle.std.proofs.Common.{◌++◌, ◌∷◌, [], ◌∙◌, sym, ap, arith, append_assoc, length, vec_capacity}
use Rattle.std.specs.Vec.Iter.{into_iter_items}
use Rattle.dfs_compact.specs.Parts.{tables_in}
use Rattle.dfs_compact.proofs.Covering.{has_room, one_more_part}
use Rattle.dfs_compact.proofs.compaction.join.Goals as goal

pub loop-run-preserved : goal.loop-run-preserved
loop-run-preserved c =
    let h = c.loop-run.invariant in
    let x = c.in-Some.run' in
    let rest = into_iter_items c.next.new.self in (
      h.0 ∙ ap (λ l. c.loop-run.yielded ++ l) c.in-Some.ensures.steps.0 ∙ sym (append_assoc c.loop-run.yielded (x ∷ []) rest),
      c.add.ensures.items ∙ ap (λ l. l ++ tables_in x) h.1 ∙ sym (one_more_part c.loop-run.yielded x),
      omega (arith, h.2, c.add.ensures.capacity),
    )

pub add-requires : goal.add-requires
add-requires c =
    let h = c.loop-run.invariant in
    let x = c.in-Some.run' in
    let rest = into_iter_items c.next.new.self in
    let room = has_room c.loop-run.yielded rest c.args.merged.items x (vec_capacity c.loop-run.joined) (h.0 ∙ ap (λ l. c.loop-run.yielded ++ l) c.in-Some.ensures.steps.0) h.2 in
    omega (arith, room, ap length h.1)
