use Rattle.std.specs.BTreeMap.{get}
use Rattle.dfs_session.specs.Kept.{use_cmp, use_of}
use Rattle.dfs_session.proofs.Uses.{other_uses}
use Rattle.dfs_session.proofs.keeping.Kept.forget.Goals as goal

pub returns-clause-others : goal.returns-clause-others
returns-clause-others c = other_uses (λ r. r.value) (use_of c.args.number c.args.change.now) _ (get use_cmp c.args.self.now.uses) (get use_cmp c.remove.new.self) c.remove.ensures.updates.0
