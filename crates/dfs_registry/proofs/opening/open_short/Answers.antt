use Rattle.std.proofs.Common.{sym, ◌∙◌, ap, subst}
use Rattle.dfs_host.specs.Host.{bytes_of}
use Rattle.dfs_host.proofs.Moments.{changes_widened}
use Rattle.dfs_registry.specs.Reading.{listing, blocks, gate_of, IsListing}
use Rattle.dfs_registry.proofs.Commit.{empty_listing}
use Rattle.dfs_registry.specs.Opening.{IsShut}
use Rattle.dfs_registry.proofs.Steps.{short_is_empty}
use Rattle.dfs_registry.proofs.opening.open_short.Goals as goal

pub of-requires : goal.of-requires
unfolding blocks
of-requires g c = record { listing = subst IsListing (sym c.new.ensures) empty_listing; place = ap gate_of (sym c.new.ensures) }

pub returns-in-Ok-clause-answer : goal.returns-in-Ok-clause-answer
returns-in-Ok-clause-answer g c tells =
    short_is_empty _ (c.requires.short tells) ∙ ap listing (sym (c.of.ensures.entries ∙ c.new.ensures))

pub returns-in-Ok-clause-images : goal.returns-in-Ok-clause-images
returns-in-Ok-clause-images g c tells settled =
    changes_widened (c.make.ensures.images tells settled) (λ bytes empty. empty ∙ sym (short_is_empty (bytes_of (g.H.Host.state c.args.host.now) 0) (c.requires.short tells)))

pub returns-in-Err-clause-images : goal.returns-in-Err-clause-images
returns-in-Err-clause-images g c tells settled =
    changes_widened (c.make.ensures.images tells settled) (λ bytes empty. empty ∙ sym (short_is_empty (bytes_of (g.H.Host.state c.args.host.now) 0) (c.requires.short tells)))

pub returns-in-Ok-clause-shut : goal.returns-in-Ok-clause-shut
returns-in-Ok-clause-shut g c tells shut = absurd (subst IsShut (short_is_empty _ (c.requires.short tells)) shut)

pub returns-in-Err-clause-shut : goal.returns-in-Err-clause-shut
returns-in-Err-clause-shut g c tells shut = absurd (subst IsShut (short_is_empty _ (c.requires.short tells)) shut)
