use Rattle.std.proofs.Common.{◌≡◌, ◌++◌, length, take}
use Rattle.dfs_host.specs.Host.{Told, bytes_of, OnlyReads}
use Rattle.dfs_host.specs.Fault.{NoFault}
use Rattle.dfs_registry.specs.Reading.{IsListing, gate_of, header, blocks}
use Rattle.dfs_registry.specs.Seen.{HasJobs}
use Rattle.dfs_registry.proofs.reading.read_gates.Given as goal

abbrev pub invariant-loop-turn : goal.invariant-loop-turn
invariant-loop-turn g l = record {
  jobs : HasJobs l.jobs l.entries.items;
  is_list : IsListing l.entries.items;
  place : l.gate ≡ gate_of l.entries.items;
  count : length l.entries.items ≡ l.turn;
  front : Told (g.H.Host.state l.fn.host) (take l.gate (bytes_of (g.H.Host.state l.fn.host) 0) ≡ header ++ blocks l.entries.items);
  only : OnlyReads (g.H.Host.state l.fn.host) (g.H.Host.state l.host);
  no_fault : NoFault (g.H.Host.state l.fn.host) (g.H.Host.state l.host);
}
