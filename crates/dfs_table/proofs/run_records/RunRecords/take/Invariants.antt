use Rattle.std.proofs.Common.{◌≡◌, length}
use Rattle.dfs_table.specs.RunRecords.{blocks_left, coming}
use Rattle.dfs_table.proofs.run_records.RunRecords.take.Given as goal

abbrev pub invariant-loop-rec : goal.invariant-loop-rec
invariant-loop-rec l =
    coming l.self.left l.self.bytes.now (blocks_left l.self.blocks.high l.self.blocks.tables.now l.self.blocks.next l.self.blocks.bytes.now)
    ≡ coming l.initial.self.left l.initial.self.bytes.now (blocks_left l.initial.self.blocks.high l.initial.self.blocks.tables.now l.initial.self.blocks.next l.initial.self.blocks.bytes.now)

abbrev pub decreases-loop-rec : goal.decreases-loop-rec
decreases-loop-rec l = length (blocks_left l.self.blocks.high l.self.blocks.tables.now l.self.blocks.next l.self.blocks.bytes.now)
