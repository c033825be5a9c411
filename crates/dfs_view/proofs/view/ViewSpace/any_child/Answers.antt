use Rattle.std.proofs.Common.{refl}
use Rattle.dfs_view.proofs.Adding.{looks}
use Rattle.dfs_view.proofs.view.ViewSpace.any_child.Goals as goal

pub returns-in_default-clause-follows : goal.returns-in_default-clause-follows
returns-in_default-clause-follows g c = looks _ (g.H.Host.state c.args.self.now.host.now) _ c.requires.live (c.args.self.now.fit c.requires.live) refl

pub returns-clause-follows : goal.returns-clause-follows
returns-clause-follows g c = looks _ (g.H.Host.state c.args.self.now.host.now) _ c.requires.live (c.args.self.now.fit c.requires.live) refl
