use Rattle.std.proofs.Common.{refl, arith}
use Rattle.dfs_host.proofs.Moments.{reads_nothing}
use Rattle.dfs_view.specs.Lists.{flushed}
use Rattle.dfs_view.proofs.Adding.{closed_map, closed_stand, closes_with_all, closing_works, none_to_close, on_ok}
use Rattle.dfs_view.proofs.layers.flush.Goals as goal

pub returns-clause-works : goal.returns-clause-works
returns-clause-works g c =
    let old = c.args.layers.now in
    closing_works (g.H.Host.state c.args.host.now) (g.H.Host.state c.close.new.host) old c.close.new.layers old.buffer 0 flushed (omega arith) c.close.ensures.cause.later c.requires.stand
    (closes_with_all (g.H.Host.state c.args.host.now) old (omega arith)) c.close.result c.close.ensures.closes c.close.ensures.reads

pub returns-then-made-eq0-clause-works : goal.returns-then-made-eq0-clause-works
returns-then-made-eq0-clause-works g c = none_to_close (g.H.Host.state c.args.host.now) c.args.layers.now c.requires.fit (omega (arith, c.if-made-eq0.true, c.made.ensures.made))

pub returns-clause-stand : goal.returns-clause-stand
returns-clause-stand g c = λ tells.
    on_ok c.close.result c.close.ensures.closes.closed
    (λ closed. closed_stand (g.H.Host.state c.args.host.now) (g.H.Host.state c.close.new.host) c.args.layers.now c.close.new.layers c.close.ensures.closes tells (c.requires.stand tells) closed)

pub returns-clause-map : goal.returns-clause-map
returns-clause-map g c = λ tells.
    on_ok c.close.result c.close.ensures.closes.closed
    (λ closed. closed_map (g.H.Host.state c.args.host.now) (g.H.Host.state c.close.new.host) c.args.layers.now c.close.new.layers c.close.ensures.closes tells (c.requires.stand tells) closed)

pub returns-then-made-eq0-clause-idle : goal.returns-then-made-eq0-clause-idle
returns-then-made-eq0-clause-idle g c = λ none. record { idle = refl; log = refl }

pub returns-clause-idle : goal.returns-clause-idle
returns-clause-idle g c = λ none. absurd (omega (arith, none, c.if-made-eq0.false, c.made.ensures.made))

pub returns-then-made-eq0-clause-cut : goal.returns-then-made-eq0-clause-cut
returns-then-made-eq0-clause-cut g c = record { none = λ none. refl; one = λ some. absurd (omega (arith, some, c.if-made-eq0.true, c.made.ensures.made)) }

pub returns-clause-cut : goal.returns-clause-cut
returns-clause-cut g c =
    on_ok c.close.result c.close.ensures.closes.closed
    (λ closed. record {
      none = λ none. absurd (omega (arith, none, c.if-made-eq0.false, c.made.ensures.made));
      one = λ some. record { run = closed.run; runs = closed.runs; cut = closed.cut };
    })
