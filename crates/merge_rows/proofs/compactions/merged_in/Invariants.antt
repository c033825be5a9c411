use Rattle.std.specs.Prelude.{IsFalse}
use Rattle.dfs_host.specs.Host.{Told}
use Rattle.dfs_log.specs.Logs.{LogStands}
use Rattle.dfs_table.specs.Writer.{AreIn}
use Rattle.dfs_compact.specs.Parts.{tables_of}
use Rattle.merge_rows.proofs.compactions.merged_in.Given as goal

abbrev pub invariant-loop-part : goal.invariant-loop-part
invariant-loop-part g l = record {
  live : IsFalse l.compaction.spent;
  log_live : IsFalse l.log.spent;
  file : AreIn l.log.file (tables_of l.compaction.merged);
  stands : Told (g.H.Host.state l.host) (LogStands (g.H.Host.state l.host) l.log);
}
