use Rattle.std.proofs.Common.{◌∙◌, ◌∷◌, [], ap, refl, arith}
use Rattle.dfs_host.proofs.Moments.{reads_nothing}
use Rattle.dfs_buffer.specs.Buffer.{Buffered}
use Rattle.dfs_view.specs.Lists.{add_all}
use Rattle.dfs_view.proofs.Adding.{closed_map, closed_stand, closes_with_one, closing_works, on_ok, put_failed, put_goes_on, put_map}
use Rattle.dfs_view.proofs.layers.add.Goals as goal

pub returns-in_default-clause-goes_on : goal.returns-in_default-clause-goes_on
returns-in_default-clause-goes_on g c = put_failed (g.H.Host.state c.args.host.now) c.args.layers.now c.put.new.self c.args.rec c.requires.fit.none_refused

pub returns-then-made-layers-clause-map : goal.returns-then-made-layers-clause-map
returns-then-made-layers-clause-map g c = λ tells. put_map (g.H.Host.state c.args.host.now) c.args.layers.now c.put.new.self c.args.rec c.in-Ok.ensures.ok

pub returns-then-made-layers-clause-goes_on : goal.returns-then-made-layers-clause-goes_on
returns-then-made-layers-clause-goes_on g c =
    put_goes_on (g.H.Host.state c.args.host.now) c.args.layers.now c.put.new.self c.args.rec c.in-Ok.ensures.ok c.requires.fit.none_refused c.requires.fit.most c.in-Ok.ensures.stands (omega (arith, c.if-made-layers.true, c.made.ensures.made))

pub returns-clause-stand : goal.returns-clause-stand
returns-clause-stand g c = λ tells.
    let s = c.requires.stand tells in
    on_ok c.close.result c.close.ensures.closes.closed
    (λ closed. closed_stand (g.H.Host.state c.args.host.now) (g.H.Host.state c.close.new.host) (record c.args.layers.now { buffer = c.put.new.self }) c.close.new.layers c.close.ensures.closes tells (record { log = s.log; runs = s.runs }) closed)

pub returns-clause-map : goal.returns-clause-map
returns-clause-map g c = λ tells.
    let s = c.requires.stand tells in
    on_ok c.close.result c.close.ensures.closes.closed
    (λ closed. closed_map (g.H.Host.state c.args.host.now) (g.H.Host.state c.close.new.host) (record c.args.layers.now { buffer = c.put.new.self }) c.close.new.layers c.close.ensures.closes tells (record { log = s.log; runs = s.runs }) closed
    ∙ put_map (g.H.Host.state c.args.host.now) c.args.layers.now c.put.new.self c.args.rec c.in-Ok.ensures.ok)

pub returns-clause-goes_on : goal.returns-clause-goes_on
returns-clause-goes_on g c =
    let old = c.args.layers.now in
    let b = c.put.new.self in
    closing_works (g.H.Host.state c.args.host.now) (g.H.Host.state c.close.new.host) old c.close.new.layers b 1 (λ l. add_all old.limit l (c.args.rec ∷ [])) (omega (arith, ap (λ (x : Buffered). x.made) c.in-Ok.ensures.ok)) c.close.ensures.cause.later
    c.requires.stand
    (closes_with_one (g.H.Host.state c.args.host.now) old b c.args.rec c.requires.fit.room c.requires.fit.most (omega (arith, c.if-made-layers.false, c.made.ensures.made)) c.in-Ok.ensures.stands) c.close.result c.close.ensures.closes c.close.ensures.reads

pub returns-in_default-clause-room : goal.returns-in_default-clause-room
returns-in_default-clause-room g c = λ fits. record { idle = refl; log = refl }

pub returns-then-made-layers-clause-room : goal.returns-then-made-layers-clause-room
returns-then-made-layers-clause-room g c = λ fits. record { idle = refl; log = refl }

pub returns-clause-room : goal.returns-clause-room
returns-clause-room g c = λ fits. absurd (omega (arith, fits, c.if-made-layers.false, c.made.ensures.made, ap (λ (x : Buffered). x.made) c.in-Ok.ensures.ok))
