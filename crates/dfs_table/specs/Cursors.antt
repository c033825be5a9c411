-- What a cursor over a run has still to come.
use Rattle.std.specs.Prelude.{List}
use Rattle.dfs_record.specs.declared.Record.{Record}
use Rattle.dfs_table.specs.declared.run_records.RunRecords.{RunRecords}
use Rattle.dfs_table.specs.RunRecords.{blocks_left, coming, rest_of}

abbrev pub run_rest : RunRecords → List Record
run_rest s = rest_of s.first (coming s.left s.bytes.now (blocks_left s.blocks.high s.blocks.tables.now s.blocks.next s.blocks.bytes.now))
