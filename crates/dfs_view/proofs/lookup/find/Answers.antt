use Rattle.std.proofs.Common.{ℕ}
use Rattle.std.specs.Prelude.{flat_map}
use Rattle.dfs_record.specs.Lend.{key_of}
use Rattle.dfs_table.specs.declared.run.Run.{Run}
use Rattle.dfs_view.specs.Layers.{records_on, runs_of}
use Rattle.dfs_view.proofs.Finding.{found_open, found_under, if_ok_same}
use Rattle.dfs_view.proofs.lookup.find.Goals as goal

pub returns-in-Some-clause-value : goal.returns-in-Some-clause-value
returns-in-Some-clause-value g c = λ tells.
    let layers = c.args.layers.now in
    if_ok_same c.copied.result c.copied.ensures.value
    (found_open layers.buffer.held (flat_map (λ (r : ℕ × Run). records_on (g.H.Host.state c.args.host.now) r.1) (runs_of layers)) (key_of c.args.key) c.in-Some.value.now c.in-Some.ensures.value)

pub returns-in-None-clause-value : goal.returns-in-None-clause-value
returns-in-None-clause-value g c = λ tells.
    let layers = c.args.layers.now in
    if_ok_same c.find_below.result (c.find_below.ensures.value tells)
    (found_under layers.buffer.held (flat_map (λ (r : ℕ × Run). records_on (g.H.Host.state c.args.host.now) r.1) (runs_of layers)) (key_of c.args.key) c.in-None.ensures.value)
