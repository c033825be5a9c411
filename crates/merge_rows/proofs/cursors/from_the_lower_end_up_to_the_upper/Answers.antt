use Rattle.std.specs.Prelude.{[], ◌∷◌}
use Rattle.std.proofs.lemmas.List.Elements.{All-cons, All-nil}
use Rattle.dfs_record.specs.Record.{IsRecord}
use Rattle.merge_rows.proofs.cursors.from_the_lower_end_up_to_the_upper.Goals as goal

pub new-requires-clause-valid : goal.new-requires-clause-valid
new-requires-clause-valid g c =
    let b = c.in_ok-deletion.field-0 in
    let d = c.in_ok-deletion-2.field-0 in
    let f = c.in_ok-deletion-3.field-0 in
    All-cons IsRecord b (d ∷ f ∷ []) c.in_ok-deletion.ensures.valid (All-cons IsRecord d (f ∷ []) c.in_ok-deletion-2.ensures.valid (All-cons IsRecord f [] c.in_ok-deletion-3.ensures.valid (All-nil IsRecord)))
