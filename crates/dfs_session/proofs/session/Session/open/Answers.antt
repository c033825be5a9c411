use Rattle.std.proofs.Common.{refl, ◌∙◌}
use Rattle.dfs_session.proofs.Opening.{opened_value, opened_images, opened_stands}
use Rattle.dfs_session.proofs.session.Session.open.Goals as goal

pub returns-in_err-registry-clause-value : goal.returns-in_err-registry-clause-value
returns-in_err-registry-clause-value g c = λ tells settled.
    opened_value _ _ (c.open.ensures.images tells settled) (λ n. g.met.H.Host.sound c.open.new.host n (c.open.ensures.cause.tells ∙ tells))

pub returns-clause-value : goal.returns-clause-value
returns-clause-value g c = λ tells settled.
    opened_value _ _ (c.open.ensures.images tells settled) (λ n. g.met.H.Host.sound c.open.new.host n (c.open.ensures.cause.tells ∙ tells))

pub returns-clause-stands : goal.returns-clause-stands
returns-clause-stands g c = λ registry tells settled was.
    let host = c.args.host.now in
    opened_stands (g.H.Host.state host) (g.H.Host.state c.open.new.host) _ c.args.settings registry (c.in_ok-registry.ensures.stands tells) (c.open.ensures.images tells (settled 0))
    (λ n. g.met.H.Host.sound c.open.new.host n (c.open.ensures.cause.tells ∙ tells)) settled was c.new.ensures.empty c.greatest_listed-greatest.ensures.greatest refl

pub returns-in_err-registry-clause-images : goal.returns-in_err-registry-clause-images
returns-in_err-registry-clause-images g c = λ registry tells settled was.
    opened_images (g.H.Host.state c.args.host.now) (g.H.Host.state c.open.new.host) registry (c.open.ensures.images tells (settled 0)) settled was

pub returns-clause-images : goal.returns-clause-images
returns-clause-images g c = λ registry tells settled was.
    opened_images (g.H.Host.state c.args.host.now) (g.H.Host.state c.open.new.host) registry (c.open.ensures.images tells (settled 0)) settled was

pub returns-in_err-registry-clause-meaning : goal.returns-in_err-registry-clause-meaning
returns-in_err-registry-clause-meaning g c = c.open.ensures.images

pub returns-clause-meaning : goal.returns-clause-meaning
returns-clause-meaning g c = c.open.ensures.images
