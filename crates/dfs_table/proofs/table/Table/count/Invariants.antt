use Rattle.std.proofs.Common.{◌≡◌, ◌≤◌, ◌*◌, take}
use Rattle.dfs_table.specs.Counts.{count_of}
use Rattle.dfs_table.proofs.table.Table.count.Given as goal

abbrev pub invariant-loop-index : goal.invariant-loop-index
invariant-loop-index l = (l.count ≡ count_of (take l.index l.fn.self.fences)) × (l.count ≤ l.index * 65535)
