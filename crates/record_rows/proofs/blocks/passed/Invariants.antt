use Rattle.std.proofs.Common.{length}
use Rattle.dfs_block.specs.Left.{records_left}
use Rattle.record_rows.proofs.blocks.passed.Given as goal

abbrev pub decreases-loop-records : goal.decreases-loop-records
decreases-loop-records l = length (records_left l.records.first l.records.left l.records.behind.now)
