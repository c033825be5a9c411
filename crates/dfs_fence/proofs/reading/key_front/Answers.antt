use Rattle.std.proofs.Common.{Some, ap, sym, ◌∙◌, refl, arith, List, ℕ}
use Rattle.dfs_record.specs.Lend.{key_of}
use Rattle.dfs_fence.proofs.Fields.{key_is, no_key_is}
use Rattle.dfs_fence.proofs.reading.key_front.Goals as goal

pub returns-in_err-key : goal.returns-in_err-key
returns-in_err-key c = rw c.from_residual.ensures (no_key_is c.args.bytes.now (λ i. omega (arith, c.type_inv.bytes i)) (c.in_err-key.ensures.none.0 refl))

pub returns : goal.returns
returns c =
    key_is c.args.bytes.now (key_of c.in_ok-key.key) c.in_ok-key.len c.in_ok-key.ensures.found
    ∙ ap (λ (l : List ℕ). Some (key_of c.in_ok-key.key, l)) (sym c.split_at.ensures.back)
