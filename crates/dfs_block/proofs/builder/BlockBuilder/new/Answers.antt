use Rattle.std.proofs.Common.{arith, ap, ◌∙◌, ◌++◌, ◌∷◌, [], List, ℕ}
use Rattle.dfs_block.proofs.Building.{none_built, again}
use Rattle.dfs_block.proofs.Spelled.{front_zero}
use Rattle.dfs_block.proofs.builder.BlockBuilder.new.Goals as goal

pub invariant_of-result : goal.invariant_of-result
invariant_of-result c =
    again c.extend_from_slice.new.self 0 [] (none_built c.extend_from_slice.new.self
    (c.in_ok-extend_from_slice.ensures.items ∙ ap (λ (l : List ℕ). l ++ 0 ∷ 0 ∷ []) c.in_ok-bytes.ensures.items)
    (omega (arith, c.in_ok-extend_from_slice.ensures.capacity, c.in_ok-bytes.ensures.exact)))

pub returns : goal.returns
returns c = front_zero _
