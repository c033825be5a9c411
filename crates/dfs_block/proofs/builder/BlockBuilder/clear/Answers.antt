use Rattle.std.proofs.Common.{arith, ap, ◌∙◌, ◌∷◌, [], List, ℕ, drop, take, length-take}
use Rattle.std.proofs.lemmas.List.{drop_all}
use Rattle.dfs_block.proofs.Building.{none_built, again}
use Rattle.dfs_block.proofs.Spelled.{front_zero}
use Rattle.dfs_block.proofs.builder.BlockBuilder.clear.Goals as goal

pub invariant_of-self : goal.invariant_of-self
invariant_of-self c =
    again c.put_count.new.bytes 0 [] (none_built c.put_count.new.bytes
    (c.put_count.ensures.items ∙ ap (λ (l : List ℕ). 0 ∷ 0 ∷ drop 2 l) c.truncate.ensures.items ∙ ap (λ (l : List ℕ). 0 ∷ 0 ∷ l) (drop_all 2 (take 2 c.self.inside.bytes.items) (omega (arith, length-take 2 c.self.inside.bytes.items))))
    (omega (arith, c.self.invariant.room, c.truncate.ensures.capacity, c.put_count.ensures.capacity)))

pub returns : goal.returns
returns c = front_zero _
