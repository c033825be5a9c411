use Rattle.std.proofs.Common.{◌≡◌, ◌++◌, ◌*◌, ◌^◌, ◌≤◌, drop}
use Rattle.dfs_table.specs.Starts.{starts_from}
use Rattle.dfs_table.proofs.table.starts_of.Given as goal

abbrev pub invariant-loop-index : goal.invariant-loop-index
invariant-loop-index l = (l.starts.items ++ starts_from l.place (drop l.index l.fn.fences) ≡ starts_from 0 l.fn.fences) × (l.place ≤ l.index * 2 ^ 32)
