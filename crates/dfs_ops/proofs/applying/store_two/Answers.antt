use Rattle.std.proofs.Common.{[], ◌∷◌, refl, arith}
use Rattle.std.proofs.lemmas.Result.{err_from_is_err_and}
use Rattle.dfs_ops.proofs.Plans.{more_made}
use Rattle.dfs_ops.proofs.applying.store_two.Goals as goal

pub returns-in_err-store-2-clause-carried : goal.returns-in_err-store-2-clause-carried
returns-in_err-store-2-clause-carried g c =
    let one = c.args.first in
    let two = c.args.second in
    let p = err_from_is_err_and c.from_residual-in_err-store-2.result c.from_residual-in_err-store-2.ensures.1 in
    rw p.1 (record {
      records = one ∷ two ∷ [];
      went_on = g.met.S.Space.follows_on _ _ _ (one ∷ []) (two ∷ []) c.in_ok-store.ensures.follows c.in_err-store-2.ensures.follows;
      few = omega arith;
      numbers = tt;
      kept = tt;
      none = tt;
      whole = tt;
      first = ([], refl);
      stored = λ is. omega arith;
    })

pub returns-clause-carried : goal.returns-clause-carried
returns-clause-carried g c =
    let one = c.args.first in
    let two = c.args.second in
    record {
      records = one ∷ two ∷ [];
      went_on = g.met.S.Space.follows_on _ _ _ (one ∷ []) (two ∷ []) c.in_ok-store.ensures.follows c.in_ok-store-2.ensures.follows;
      few = omega arith;
      numbers = more_made c.args.ids.now 2;
      kept = tt;
      none = tt;
      whole = refl;
      first = tt;
      stored = λ is. absurd (cc is);
    }
