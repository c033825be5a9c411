use Rattle.std.proofs.Common.{sym, ap, ◌∙◌}
use Rattle.dfs_record.specs.KeyMap.{get}
use Rattle.dfs_space.proofs.Entries.{get_entry}
use Rattle.dfs_space.proofs.Stored.{stored_found}
use Rattle.dfs_space.proofs.plain.PlainSpace.find.Goals as goal

pub returns-clause-value : goal.returns-clause-value
returns-clause-value c = c.get.ensures.value ∙ sym (get_entry c.self.inside.entries.entries c.args.key.now) ∙ ap (λ m. get m c.args.key.now) c.self.view_is

pub returns-clause-valid : goal.returns-clause-valid
returns-clause-valid c = stored_found _ _ _ c.get.ensures.value c.self.invariant
