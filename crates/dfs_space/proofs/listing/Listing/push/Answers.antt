use Rattle.std.proofs.Common.{All}
use Rattle.std.proofs.lemmas.List.Elements.{All-push}
use Rattle.dfs_space.specs.Children.{IsChild}
use Rattle.dfs_space.proofs.Stored.{whichever}
use Rattle.dfs_space.proofs.listing.Listing.push.Goals as goal

pub invariant_of-self : goal.invariant_of-self
invariant_of-self c = whichever (All IsChild) _ _ _ _ c.push.ensures.items (All-push IsChild _ _ c.self.invariant c.requires) c.self.invariant
