use Rattle.std.proofs.Common.{◌≡◌, length}
use Rattle.dfs_table.specs.RunRecords.{blocks_from}
use Rattle.dfs_table.proofs.run_records.Blocks.pass_ended.Given as goal

abbrev pub invariant-loop-self : goal.invariant-loop-self
invariant-loop-self l = (blocks_from l.self.tables.now l.self.next l.self.bytes.now ≡ blocks_from l.initial.self.tables.now l.initial.self.next l.initial.self.bytes.now) × (l.self.high ≡ l.initial.self.high)

abbrev pub decreases-loop-self : goal.decreases-loop-self
decreases-loop-self l = length l.self.tables.now
