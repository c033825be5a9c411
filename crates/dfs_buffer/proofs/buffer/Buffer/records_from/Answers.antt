use Rattle.std.proofs.Common.{ap, sym, subst, ◌∙◌}
use Rattle.std.specs.Prelude.{flat_map, All, Some, None}
use Rattle.std.proofs.lemmas.List.Elements.{All-filter}
use Rattle.dfs_record.specs.Delta.{records_of}
use Rattle.dfs_record.specs.Record.{IsRecord}
use Rattle.dfs_record.specs.Records.{KeysRise}
use Rattle.dfs_record.specs.Lend.{key_of}
use Rattle.dfs_record.proofs.Replays.{records_of-delta}
use Rattle.dfs_cursor.specs.Ranges.{part, part_rises, is_within}
use Rattle.dfs_buffer.proofs.buffer.Buffer.records_from.Goals as goal

pub over-requires-clause-rises : goal.over-requires-clause-rises
over-requires-clause-rises c =
    let key = key_of c.lend.result in
    let whole = c.from_key.ensures.records ∙ ap (λ l. part (Some key) None (flat_map (λ x. x.items) l)) c.deref.ensures.value in
    subst KeysRise (sym whole) (part_rises (Some key) None (flat_map (λ x. x.items) c.self.inside.chunks.items) c.self.invariant.all.rises)

pub over-requires-clause-valid : goal.over-requires-clause-valid
over-requires-clause-valid c =
    let key = key_of c.lend.result in
    let whole = c.from_key.ensures.records ∙ ap (λ l. part (Some key) None (flat_map (λ x. x.items) l)) c.deref.ensures.value in
    subst (All IsRecord) (sym whole) (All-filter (λ r. is_within (Some key) None r.key) IsRecord (flat_map (λ x. x.items) c.self.inside.chunks.items) c.self.invariant.all.valid)

pub returns-clause-rest : goal.returns-clause-rest
returns-clause-rest c =
    c.over.ensures
    ∙ c.from_key.ensures.records
    ∙ ap (λ l. part (Some (key_of c.lend.result)) None (flat_map (λ x. x.items) l)) c.deref.ensures.value
    ∙ ap (λ k. part (Some k) None (flat_map (λ x. x.items) c.self.inside.chunks.items)) c.lend.ensures.value
    ∙ ap (part (Some c.args.low.now) None) (sym (records_of-delta (flat_map (λ x. x.items) c.self.inside.chunks.items) c.self.invariant.all.rises) ∙ ap (λ b. records_of b.held) c.self.view_is)

pub returns-clause-comes : goal.returns-clause-comes
returns-clause-comes c files l =
    let same = returns-clause-rest c in
    (λ e. e ∙ same, λ e. e ∙ sym same)

pub returns-clause-valid : goal.returns-clause-valid
returns-clause-valid c =
    subst (All IsRecord) (sym (records_of-delta (flat_map (λ x. x.items) c.self.inside.chunks.items) c.self.invariant.all.rises) ∙ ap (λ b. records_of b.held) c.self.view_is) c.self.invariant.all.valid
