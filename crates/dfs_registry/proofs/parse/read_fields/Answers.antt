use Rattle.std.proofs.Common.{◌+◌, arith, rules}
use Rattle.std.specs.Prelude.{slice_index}
use Rattle.dfs_registry.specs.Body.{fields}
use Rattle.dfs_registry.proofs.Bodies.{same_fields}
use Rattle.dfs_registry.proofs.Numbers.{four_at, eight_at}
use Rattle.dfs_registry.proofs.parse.read_fields.Goals as goal

pub returns : goal.returns
unfolding fields
returns c =
    let found = c.in-Some-Some-Some-Some in
    let bytes = c.args.bytes.now in
    let k = slice_index bytes 3 in
    same_fields _ _ (search rules)
    (four_at bytes (4 + k) _ (omega (arith, c.requires.whole)) found.ensures.exact)
    (eight_at bytes (8 + k) _ (omega (arith, c.requires.whole)) found.ensures'.exact)
    (four_at bytes (16 + k) _ (omega (arith, c.requires.whole)) found.ensures''.exact)
    (eight_at bytes (20 + k) _ (omega (arith, c.requires.whole)) found.ensures'''.exact)
