use Rattle.std.proofs.Common.{ap, sym, ◌∙◌}
use Rattle.std.specs.Prelude.{flat_map}
use Rattle.dfs_record.specs.Delta.{records_of}
use Rattle.dfs_record.proofs.Replays.{records_of-delta}
use Rattle.dfs_buffer.proofs.buffer.Buffer.records.Goals as goal

pub returns-clause-rest : goal.returns-clause-rest
returns-clause-rest c =
    c.new.ensures ∙ ap (flat_map (λ x. x.items)) c.deref.ensures.value ∙ sym (records_of-delta (flat_map (λ x. x.items) c.self.inside.chunks.items) c.self.invariant.all.rises) ∙ ap (λ b. records_of b.held) c.self.view_is

pub returns-clause-comes : goal.returns-clause-comes
returns-clause-comes c files l =
    let same = returns-clause-rest c in
    (λ e. e ∙ same, λ e. e ∙ sym same)
