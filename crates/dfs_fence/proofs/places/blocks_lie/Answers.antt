use Rattle.std.proofs.Common.{List, ℕ, refl, sym, subst, arith}
use Rattle.dfs_fence.specs.Spelled.{AreSpelled}
use Rattle.dfs_fence.proofs.Indexes.{inside, long}
use Rattle.dfs_fence.proofs.places.blocks_lie.Goals as goal

pub returns-in_default : goal.returns-in_default
returns-in_default c fs is = absurd (omega (arith, c.in_default.ensures.none.0 refl, long c.args.bytes.now fs is))

pub returns : goal.returns
returns c fs is =
    c.all_lie.ensures fs (subst (λ (l : List ℕ). AreSpelled c.in-Some.count l fs) (sym c.split_at.ensures.back) (inside c.in-Some.count c.args.bytes.now fs c.in-Some.ensures.exact is))
