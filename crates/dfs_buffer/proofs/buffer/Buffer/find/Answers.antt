use Rattle.std.proofs.Common.{ap, ◌∙◌}
use Rattle.std.specs.Prelude.{flat_map}
use Rattle.dfs_record.specs.Delta.{delta}
use Rattle.dfs_record.specs.KeyMap.{get}
use Rattle.dfs_record.specs.Lend.{key_of}
use Rattle.dfs_buffer.proofs.Puts.{last_of}
use Rattle.dfs_buffer.proofs.buffer.Buffer.find.Goals as goal

pub returns-clause-last : goal.returns-clause-last
returns-clause-last c rs s =
    c.find.ensures.value ∙ ap (λ l. get (delta (flat_map (λ x. x.items) l)) (key_of c.args.key)) c.deref.ensures.value ∙ ap (λ b. get b.held (key_of c.args.key)) c.self.view_is ∙ last_of c.args.self.now rs (key_of c.args.key) s
