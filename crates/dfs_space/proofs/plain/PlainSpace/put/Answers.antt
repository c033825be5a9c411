use Rattle.std.proofs.Common.{All, ap, ◌∙◌}
use Rattle.dfs_record.specs.KeyMap.{insert}
use Rattle.dfs_space.specs.PlainSpace.{IsStored}
use Rattle.dfs_space.proofs.Entries.{one_put}
use Rattle.dfs_space.proofs.Stored.{stored_put, either_way}
use Rattle.dfs_space.proofs.plain.PlainSpace.put.Goals as goal

pub invariant_of-self : goal.invariant_of-self
invariant_of-self c = either_way (All IsStored) _ _ _ _ c.insert.ensures.entries c.insert.ensures.err (stored_put _ _ _ c.requires.key c.requires.entry c.self.invariant) c.self.invariant

pub returns-in-Ok-clause-ok : goal.returns-in-Ok-clause-ok
returns-in-Ok-clause-ok c =
    one_put c.self.inside.entries.entries c.insert.new.self.entries c.args.key c.args.entry c.in-Ok.ensures.updates.0
    ∙ ap (λ m. insert m c.args.key c.args.entry) c.self.view_is
