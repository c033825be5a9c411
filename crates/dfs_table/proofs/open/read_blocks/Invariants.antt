use Rattle.std.proofs.Common.{◌≡◌, take}
use Rattle.std.specs.List.{AllByRecursion}
use Rattle.dfs_host.specs.Counts.{RoseBy}
use Rattle.dfs_host.specs.Fault.{NoFault}
use Rattle.dfs_host.specs.Host.{Told, bytes_of, OnlyReads}
use Rattle.dfs_table.specs.Opened.{IsBlockIn}
use Rattle.dfs_table.specs.Stored.{blocks_by}
use Rattle.dfs_table.proofs.open.read_blocks.Given as goal

abbrev pub invariant-loop-index : goal.invariant-loop-index
invariant-loop-index g l = record {
  so_far : Told (g.H.Host.state l.fn.host) (l.blocks ≡ blocks_by (bytes_of (g.H.Host.state l.fn.host) l.file) (take l.index l.fences));
  each : Told (g.H.Host.state l.fn.host) (AllByRecursion (IsBlockIn (bytes_of (g.H.Host.state l.fn.host) l.file) l.file l.end) (take l.index l.fences));
  only : OnlyReads (g.H.Host.state l.fn.host) (g.H.Host.state l.host);
  no_fault : NoFault (g.H.Host.state l.fn.host) (g.H.Host.state l.host);
  reads : RoseBy l.index (g.H.Host.state l.fn.host).reads (g.H.Host.state l.host).reads;
}
