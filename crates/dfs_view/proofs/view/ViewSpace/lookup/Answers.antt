use Rattle.std.proofs.Common.{◌∙◌, ap}
use Rattle.dfs_record.specs.Delta.{last_value}
use Rattle.dfs_view.specs.Layers.{layer_records}
use Rattle.dfs_view.proofs.Adding.{found_entry, looks}
use Rattle.dfs_view.proofs.view.ViewSpace.lookup.Goals as goal

pub returns-in_err-found-clause-follows : goal.returns-in_err-found-clause-follows
returns-in_err-found-clause-follows g c = looks _ (g.H.Host.state c.find.new.host) _ c.requires.ready.live (c.args.self.now.fit c.requires.ready.live) c.find.ensures.host

pub returns-clause-follows : goal.returns-clause-follows
returns-clause-follows g c = looks _ (g.H.Host.state c.find.new.host) _ c.requires.ready.live (c.args.self.now.fit c.requires.ready.live) c.find.ensures.host

pub returns-clause-found : goal.returns-clause-found
returns-clause-found g c = λ m stands.
    let records = layer_records (g.H.Host.state c.args.self.now.host.now) c.args.self.now.layers.now in
    c.entry_left.ensures.entry ∙ found_entry records c.args.key.now c.in_ok-found.found m stands.1 (c.in_ok-found.ensures.value stands.0 ∙ ap (λ k. last_value k records) c.lend.ensures.value)
