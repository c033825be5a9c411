use Rattle.std.proofs.Common.{◌≡◌, ◌+◌, length, take}
use Rattle.std.specs.List.{AllByRecursion}
use Rattle.dfs_host.specs.Counts.{RoseBy}
use Rattle.dfs_host.specs.Fault.{NoFault}
use Rattle.dfs_host.specs.Host.{Told, bytes_of, OnlyReads}
use Rattle.dfs_table.specs.Stored.{IsTableOf}
use Rattle.dfs_table.specs.Tables.{AreTables, all_fences}
use Rattle.dfs_table.specs.Writer.{AreIn}
use Rattle.dfs_change.specs.Whole.{AreTablesAt, extents_of, table_fences}
use Rattle.dfs_change.proofs.change.open_tables.Given as goal

abbrev pub invariant-loop-index : goal.invariant-loop-index
invariant-loop-index g l = record {
  opened : Told (g.H.Host.state l.fn.host) (AreTablesAt (bytes_of (g.H.Host.state l.fn.host) l.listed.job) l.listed (take l.index l.manifest) (table_fences l.tables));
  places : extents_of l.tables ≡ take l.index l.manifest;
  stored : Told (g.H.Host.state l.fn.host) (AllByRecursion (IsTableOf (bytes_of (g.H.Host.state l.fn.host) l.listed.job)) l.tables);
  tables : AreTables l.tables;
  number : length l.tables ≡ l.index;
  file : AreIn l.listed.job l.tables;
  only : OnlyReads (g.H.Host.state l.fn.host) (g.H.Host.state l.host);
  no_fault : NoFault (g.H.Host.state l.fn.host) (g.H.Host.state l.host);
  reads : RoseBy (l.index + length (all_fences l.tables)) (g.H.Host.state l.fn.host).reads (g.H.Host.state l.host).reads;
}
