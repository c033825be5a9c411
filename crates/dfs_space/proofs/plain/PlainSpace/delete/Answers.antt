use Rattle.std.proofs.Common.{ap, ◌∙◌}
use Rattle.dfs_record.specs.KeyMap.{remove}
use Rattle.dfs_space.proofs.Entries.{one_deleted}
use Rattle.dfs_space.proofs.Stored.{stored_removed}
use Rattle.dfs_space.proofs.plain.PlainSpace.delete.Goals as goal

pub invariant_of-self : goal.invariant_of-self
invariant_of-self c = rw c.remove.ensures.entries (stored_removed _ _ c.self.invariant)

pub returns : goal.returns
returns c =
    one_deleted c.self.inside.entries.entries c.remove.new.self.entries c.args.key.now c.remove.ensures.updates.0
    ∙ ap (λ m. remove m c.args.key.now) c.self.view_is
