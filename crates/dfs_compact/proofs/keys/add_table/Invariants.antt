use Rattle.std.proofs.Common.{◌≡◌, ◌++◌, take, map}
use Rattle.dfs_compact.proofs.keys.add_table.Given as goal

abbrev pub invariant-loop-index : goal.invariant-loop-index
invariant-loop-index l = l.keys.items ≡ l.initial.keys.items ++ map (λ f. f.first) (take l.index l.table.fences)
