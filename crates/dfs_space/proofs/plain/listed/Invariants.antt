use Rattle.std.proofs.Common.{◌≡◌, ◌++◌, All, map}
use Rattle.dfs_space.specs.Children.{child_of}
use Rattle.dfs_space.specs.PlainSpace.{IsStored}
use Rattle.dfs_space.proofs.plain.listed.Given as goal

abbrev pub invariant-loop-key : goal.invariant-loop-key
invariant-loop-key l = (l.listing ++ map child_of l.key-iterator ≡ map child_of l.fn.entries) × All IsStored l.key-iterator
