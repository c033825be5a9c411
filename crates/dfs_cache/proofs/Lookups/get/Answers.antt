use Rattle.std.proofs.Common.{IfSome, rules, refl, sym, subst, arith}
use Rattle.dfs_cache.specs.Latest.{same_key, latest, IsFound, IsLatest}
use Rattle.dfs_cache.proofs.Keys.{keys_alike}
use Rattle.dfs_cache.proofs.Pairs.{brought}
use Rattle.dfs_cache.proofs.Valid.{brought_valid, found_valid}
use Rattle.dfs_cache.proofs.Lookups.get.Goals as goal

pub invariant_of-self : goal.invariant_of-self
invariant_of-self c =
    let old = c.self.inside.cache in let was = c.self.invariant in
    let now = brought same_key keys_alike c.args.key.now old.entries was.0 in
    subst (λ n. IsLatest (latest n.entries n.cap)) (sym c.get.follows.holds-at-none) (now.0, omega (arith, now.1, was.1), was.2, brought_valid c.args.key.now old.entries was.3)

pub returns : goal.returns
returns c = (
  (refl, (λ _. tt), search rules),
  record {
    forward = tt;
    found = search rules;
    valid = subst (λ o. IfSome o IsFound) (sym c.get.ensures.value) (found_valid c.args.key.now c.self.inside.cache.entries c.self.invariant.3);
    latest = search rules;
  },
)
