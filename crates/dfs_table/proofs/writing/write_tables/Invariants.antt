use Rattle.std.proofs.Common.{length}
use Rattle.dfs_table.specs.Written.{IsWriting}
use Rattle.dfs_table.proofs.writing.write_tables.Given as goal

abbrev pub invariant-loop-rec : goal.invariant-loop-rec
invariant-loop-rec g l = IsWriting (g.H.Host.state l.fn.host) (g.H.Host.state l.host) l.fn.log l.log l.fn.tables_left (g.R.Records.rest l.fn.records) (g.R.Records.rest l.records) l.writer

abbrev pub decreases-loop-rec : goal.decreases-loop-rec
decreases-loop-rec g l = length (g.R.Records.rest l.records)
