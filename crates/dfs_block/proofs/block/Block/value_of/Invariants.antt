use Rattle.std.proofs.Common.{◌≡◌, length}
use Rattle.dfs_record.specs.Delta.{last_value}
use Rattle.dfs_record.specs.Lend.{key_of}
use Rattle.dfs_block.specs.Left.{records_left}
use Rattle.dfs_block.proofs.block.Block.value_of.Given as goal

abbrev pub invariant-loop-records : goal.invariant-loop-records
invariant-loop-records l = last_value (key_of l.fn.key) (records_left l.records.first l.records.left l.records.behind.now) ≡ last_value (key_of l.fn.key) l.self

abbrev pub decreases-loop-records : goal.decreases-loop-records
decreases-loop-records l = length (records_left l.records.first l.records.left l.records.behind.now)
