use Rattle.std.proofs.Common.{◌≡◌, ◌≤◌, ℕ, length, drop}
use Rattle.std.specs.Prelude.{None, flat_map}
use Rattle.dfs_host.specs.Host.{Told}
use Rattle.dfs_record.specs.Delta.{last_value}
use Rattle.dfs_record.specs.Lend.{key_of}
use Rattle.dfs_table.specs.declared.run.Run.{Run}
use Rattle.dfs_view.specs.Layers.{records_on, runs_of}
use Rattle.dfs_view.proofs.lookup.find_below.Given as goal

abbrev pub invariant-loop-left : goal.invariant-loop-left
invariant-loop-left g l = record {
  within : l.left ≤ length (runs_of l.layers);
  host : g.H.Host.state l.host ≡ g.H.Host.state l.fn.host;
  none : Told (g.H.Host.state l.fn.host) (last_value (key_of l.key) (flat_map (λ (r : ℕ × Run). records_on (g.H.Host.state l.fn.host) r.1) (drop l.left (runs_of l.layers))) ≡ None);
}

abbrev pub decreases-loop-left : goal.decreases-loop-left
decreases-loop-left g l = l.left
