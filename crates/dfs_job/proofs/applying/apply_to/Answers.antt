use Rattle.std.proofs.Common.{◌∙◌, ◌≡◌, ap, sym}
use Rattle.dfs_view.specs.Layers.{layers_map}
use Rattle.dfs_job.proofs.applying.apply_to.Goals as goal

pub returns-clause-answer : goal.returns-clause-answer
returns-clause-answer g c = λ tells.
    let view = c.new-view.result in
    let told : (g.H.Host.state view.host.now).tells ≡ (g.H.Host.state c.args.host.now).tells = ap (λ h. (g.H.Host.state h).tells) c.new-view.ensures.host in
    c.apply.ensures.answer (layers_map (g.H.Host.state c.args.host.now) c.args.layers.now) (told ∙ tells, λ i. layers_map (g.H.Host.state (sym c.new-view.ensures.host i)) (sym c.new-view.ensures.layers i))
