use Rattle.std.specs.Prelude.{flat_map}
use Rattle.dfs_record.specs.Record.{IsRecord}
use Rattle.dfs_buffer.proofs.Puts.{all_behind}
use Rattle.dfs_buffer.proofs.cursor.BufferRecordsRecords.advance.Goals as goal

pub over-requires-clause-valid : goal.over-requires-clause-valid
over-requires-clause-valid c = all_behind IsRecord c.args.self.now.records.now (flat_map (λ x. x.items) c.args.self.now.behind.now) c.args.self.now.valid
