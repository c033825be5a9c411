use Rattle.std.proofs.Common.{sym, subst, arith}
use Rattle.dfs_cache.specs.Latest.{same_key, latest, IsLatest}
use Rattle.dfs_cache.proofs.Pairs.{distinct_off, length_off}
use Rattle.dfs_cache.proofs.Valid.{off_valid}
use Rattle.dfs_cache.proofs.Lookups.forget.Goals as goal

pub invariant_of-self : goal.invariant_of-self
invariant_of-self c =
    let old = c.self.inside.cache in let was = c.self.invariant in let key = c.args.key.now in
    subst (λ n. IsLatest (latest n.entries n.cap)) (sym c.pop.ensures.entries)
    (distinct_off same_key (same_key key) old.entries was.0, omega (arith, length_off (same_key key) old.entries, was.1), was.2, off_valid (same_key key) old.entries was.3)
