use Rattle.std.proofs.Common.{◌≡◌, ◌-◌, ◌∙◌, ℕ, suc, drop, sym, ap, subst, arith}
use Rattle.std.specs.Prelude.{None, flat_map}
use Rattle.dfs_host.specs.Host.{HostState, Told}
use Rattle.dfs_record.specs.Delta.{last_value}
use Rattle.dfs_record.specs.Lend.{key_of}
use Rattle.dfs_table.specs.declared.run.Run.{Run}
use Rattle.dfs_view.specs.Layers.{records_on, runs_of}
use Rattle.dfs_view.proofs.Finding.{found_here, none_is, none_more, some_is}
use Rattle.dfs_view.proofs.lookup.find_below.Goals as goal

pub returns-then-is_some-clause-value : goal.returns-then-is_some-clause-value
returns-then-is_some-clause-value g c = λ tells.
    let h = c.loop-left.invariant in
    let start = g.H.Host.state c.args.host.now in
    let key = key_of c.args.key in
    let run = c.run_below.result.now in
    let there = some_is _ _ c.run_below.ensures in
    let found = c.in_ok-found.found in
    let here : found ≡ last_value key (records_on start run) = subst (λ (s : HostState). Told s (found ≡ last_value key (records_on s run))) h.host c.in_ok-found.ensures.value tells in
    let left : c.loop-left.left ≡ suc (c.loop-left.left - 1) = omega (arith, c.loop-left-test.true) in
    let behind : last_value key (flat_map (λ (r : ℕ × Run). records_on start r.1) (drop (suc (c.loop-left.left - 1)) (runs_of c.args.layers.now))) ≡ None =
    subst (λ n. last_value key (flat_map (λ (r : ℕ × Run). records_on start r.1) (drop n (runs_of c.args.layers.now))) ≡ None) left (h.none tells) in
    found_here (λ (r : ℕ × Run). records_on start r.1) key found (sym c.is_some.ensures ∙ c.if-is_some.true) (runs_of c.args.layers.now) (c.loop-left.left - 1) there.0 there.1 behind
    (here ∙ ap (λ (x : Run). last_value key (records_on start x)) (sym there.2))

pub loop-left-preserved : goal.loop-left-preserved
loop-left-preserved g c =
    let h = c.loop-left.invariant in
    let start = g.H.Host.state c.args.host.now in
    let key = key_of c.args.key in
    let run = c.run_below.result.now in
    let there = some_is _ _ c.run_below.ensures in
    let found = c.in_ok-found.found in
    let left : c.loop-left.left ≡ suc (c.loop-left.left - 1) = omega (arith, c.loop-left-test.true) in
    record {
      within = omega (arith, h.within);
      host = c.find_in.ensures.host ∙ h.host;
      none = λ tells.
          let here : found ≡ last_value key (records_on start run) = subst (λ (s : HostState). Told s (found ≡ last_value key (records_on s run))) h.host c.in_ok-found.ensures.value tells in
          let behind : last_value key (flat_map (λ (r : ℕ × Run). records_on start r.1) (drop (suc (c.loop-left.left - 1)) (runs_of c.args.layers.now))) ≡ None =
          subst (λ n. last_value key (flat_map (λ (r : ℕ × Run). records_on start r.1) (drop n (runs_of c.args.layers.now))) ≡ None) left (h.none tells) in
          none_more (λ (r : ℕ × Run). records_on start r.1) key (runs_of c.args.layers.now) (c.loop-left.left - 1) there.0 there.1 behind
          (none_is found (sym c.is_some.ensures ∙ c.if-is_some.false) (here ∙ ap (λ (x : Run). last_value key (records_on start x)) (sym there.2)));
    }
