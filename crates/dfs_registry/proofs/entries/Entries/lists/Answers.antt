use Rattle.std.proofs.Common.{◌∙◌, ap}
use Rattle.dfs_registry.specs.Body.{lists_name}
use Rattle.dfs_registry.specs.Seen.{EntriesState}
use Rattle.dfs_registry.proofs.Names.{is_some-named}
use Rattle.dfs_registry.proofs.entries.Entries.lists.Goals as goal

pub returns : goal.returns
returns c =
    let name = c.args.name.now in
    c.contains_key.ensures ∙ is_some-named name c.self.inside.by_name.entries c.self.invariant.named
    ∙ ap (λ (e : EntriesState). lists_name e.items name) c.self.view_is
