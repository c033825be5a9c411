use Rattle.std.proofs.Common.{ap, subst}
use Rattle.dfs_record.specs.Lend.{key_of}
use Rattle.dfs_block.specs.Left.{IsFirst}
use Rattle.dfs_table.specs.RunRecords.{blocks_left, coming, rest_of, rising_from}
use Rattle.dfs_table.proofs.run_records.RunRecordsRecords.head.Goals as goal

pub returns-in-Some : goal.returns-in-Some
returns-in-Some c =
    let s = c.args.self.now in
    let next = coming s.left s.bytes.now (blocks_left s.blocks.high s.blocks.tables.now s.blocks.next s.blocks.bytes.now) in
    (subst IsFirst c.in-Some.is s.valid, (rising_from (key_of c.in-Some.rec.key) next, ap (λ o. rest_of o next) c.in-Some.is))
