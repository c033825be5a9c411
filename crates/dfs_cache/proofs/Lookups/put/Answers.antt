use Rattle.std.proofs.Common.{◌∷◌, sym, ap, ◌∙◌, subst, arith}
use Rattle.std.specs.Map.{remove_entry}
use Rattle.std.proofs.lemmas.List.{length-take}
use Rattle.dfs_cache.specs.Latest.{same_key, latest, put_first, IsLatest}
use Rattle.dfs_cache.proofs.Keys.{keys_alike, keys_one}
use Rattle.dfs_cache.proofs.Pairs.{put_distinct, put_is}
use Rattle.dfs_cache.proofs.Valid.{put_valid}
use Rattle.dfs_cache.proofs.Lookups.put.Goals as goal

pub invariant_of-self : goal.invariant_of-self
invariant_of-self c =
    let old = c.self.inside.cache in let was = c.self.invariant in
    let is = ap (λ n. latest n.entries n.cap) c.in-Ok.ensures.entries ∙ ap (λ l. latest l old.cap) (put_is same_key keys_one c.args.key c.args.found old.cap old.entries was.1 was.2) in
    subst IsLatest (sym is)
    (put_distinct same_key keys_alike c.args.key c.args.found old.entries old.cap was.0, omega (arith, length-take old.cap ((c.args.key, c.args.found) ∷ remove_entry (same_key c.args.key) old.entries)), was.2, put_valid old.cap c.args.key c.args.found old.entries c.requires.valid was.3)

pub returns-in-Ok-clause-front : goal.returns-in-Ok-clause-front
returns-in-Ok-clause-front c =
    let old = c.self.inside.cache in let was = c.self.invariant in
    ap (λ n. latest n.entries n.cap) c.in-Ok.ensures.entries ∙ ap (λ l. latest l old.cap) (put_is same_key keys_one c.args.key c.args.found old.cap old.entries was.1 was.2) ∙ ap (put_first c.args.key c.args.found) c.self.view_is
