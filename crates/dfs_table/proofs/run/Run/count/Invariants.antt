use Rattle.std.proofs.Common.{◌≡◌, ◌≤◌, ◌*◌, take}
use Rattle.dfs_table.specs.Counts.{count_of}
use Rattle.dfs_table.specs.Tables.{all_fences}
use Rattle.dfs_table.proofs.run.Run.count.Given as goal

abbrev pub invariant-loop-index : goal.invariant-loop-index
invariant-loop-index l = (l.count ≡ count_of (all_fences (take l.index l.fn.self.tables))) × (l.count ≤ l.index * (4096 * 65535))
