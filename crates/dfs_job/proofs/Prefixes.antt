-- The first records of a list.
use Rattle.std.proofs.Common.{◌≤◌, List, [], ◌∷◌, length, arith, ap}
use mathlib.Core.List.{IsPrefix, ◌++◌}
use Rattle.dfs_record.specs.declared.Record.{Record}

longer : (xs ys : List Record) → length xs ≤ length (xs ++ ys)
longer [] ys = omega arith
longer (x ∷ xs) ys = omega (arith, longer xs ys)

-- a front has no more records than the whole
pub prefix_few : (xs ys : List Record) → IsPrefix xs ys → length xs ≤ length ys
prefix_few xs ys first = omega (arith, longer xs first.0, ap length first.1)
