-- What the sources of a merge have still to come.
use Rattle.std.specs.Prelude.{List, ◌++◌, flat_map}
use Rattle.dfs_record.specs.declared.Record.{Record}
use Rattle.dfs_buffer.specs.declared.cursor.BufferRecords.{BufferRecords}
use Rattle.dfs_cursor.specs.declared.either.EitherRecords.{EitherRecords}
use Rattle.dfs_cursor.specs.Either.{of_inside}
use Rattle.dfs_table.specs.declared.run_records.RunRecords.{RunRecords}
use Rattle.dfs_table.specs.Cursors.{run_rest}

abbrev pub open_rest : BufferRecords → List Record
open_rest s = s.records.now ++ flat_map (λ c. c.items) s.behind.now

-- what a run's cursor or the open layer's has still to come
abbrev pub inner_rest : EitherRecords RunRecords BufferRecords → List Record
inner_rest s = of_inside run_rest open_rest s
