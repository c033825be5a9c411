use Rattle.std.proofs.Common.{◌∙◌, ap, arith}
use Rattle.dfs_registry.specs.Body.{greatest_job}
use Rattle.dfs_registry.specs.Seen.{RegistryState}
use Rattle.dfs_registry.proofs.Jobs.{greatest_fits, one_more_unlisted, one_more_between}
use Rattle.dfs_registry.proofs.registry.Registry.next_job.Goals as goal

pub overflow_add-result : goal.overflow_add-result
overflow_add-result c = omega (arith, greatest_fits _ _ c.self.invariant.listing.apart, c.greatest-greatest.ensures, c.if-greatest.false)

pub returns-else-greatest-clause-unlisted : goal.returns-else-greatest-clause-unlisted
returns-else-greatest-clause-unlisted c =
    one_more_unlisted c.args.self.now.entries c.greatest-greatest.result (c.greatest-greatest.ensures ∙ ap (λ (r : RegistryState). greatest_job r.entries) c.self.view_is)

pub returns-else-greatest-clause-in_range : goal.returns-else-greatest-clause-in_range
returns-else-greatest-clause-in_range c =
    one_more_between c.self.inside.entries.items c.greatest-greatest.result c.self.invariant.listing.apart c.greatest-greatest.ensures c.if-greatest.false
