use Rattle.std.proofs.Common.{◌∙◌, ap}
use Rattle.std.specs.List.{find}
use Rattle.dfs_registry.specs.Body.{has_name}
use Rattle.dfs_registry.specs.Seen.{EntriesState}
use Rattle.dfs_registry.proofs.Names.{lookup-named}
use Rattle.dfs_registry.proofs.entries.Entries.find.Goals as goal

pub returns : goal.returns
returns c =
    let name = c.args.name.now in
    c.get.ensures.value ∙ lookup-named name c.self.inside.by_name.entries c.self.invariant.named
    ∙ ap (λ (e : EntriesState). find (has_name name) e.items) c.self.view_is
