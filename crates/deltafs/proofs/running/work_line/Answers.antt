use Rattle.std.proofs.Common.{List, ℕ, [], ◌≡◌, Ok, append-nil, ap, sym, subst, ◌∙◌}
use Rattle.std.specs.Prelude.{IsTrue}
use Rattle.dfs_gen.specs.Summary.{counted}
use Rattle.dfs_host.specs.Host.{LeavesOnly, said_of}
use Rattle.dfs_reply.specs.Text.{text}
use Rattle.dfs_script.specs.Line.{meaning}
use Rattle.dfs_session.specs.Run.{session_after}
use Rattle.dfs_session.specs.Session.{opened, step}
use Rattle.deltafs.specs.declared.words.Command.{Command}
use Rattle.deltafs.specs.declared.words.Command.TheVariants.{Run}
use Rattle.deltafs.specs.Lines.{IsOfLine, Leaves, SaysText, status_after}
use Rattle.deltafs.proofs.Faults.{on_ok, leaves_said, output_alone, says_reply}
use Rattle.deltafs.proofs.Hosts.{sound_stays, stands_stays, value_stays}
use Rattle.deltafs.proofs.Leaving.{stepped, replied}
use Rattle.dfs_session.proofs.Writing.{logs_on, logs_said, silent_these}
use Rattle.deltafs.proofs.Others.{others_on, others_said, others_step}
use Rattle.deltafs.proofs.Resting.{rests_at, rests_still, rests_with, sound_rests}
use Rattle.deltafs.proofs.running.work_line.Goals as goal

pub returns-in-Run-clause-ready : goal.returns-in-Run-clause-ready
returns-in-Run-clause-ready g c =
    on_ok c.say.result
    (sound_stays (g.H.Host.state c.step.new.host) (g.H.Host.state c.say.new.host) c.step.new.self c.say.ensures.cause.tells c.say.ensures.files c.in-Ok.ensures.sound)

pub returns-in-Run-clause-stands : goal.returns-in-Run-clause-stands
returns-in-Run-clause-stands g c s tells stands =
    on_ok c.say.result
    (stands_stays (g.H.Host.state c.step.new.host) (g.H.Host.state c.say.new.host) (c.say.ensures.files (c.step.ensures.cause.tells ∙ tells)) c.step.new.self (step s c.args.line.now).session
    (c.in-Ok.ensures.stands s tells stands))

pub returns-in-Run-clause-leaves : goal.returns-in-Run-clause-leaves
returns-in-Run-clause-leaves g c s tells stands =
    let old = said_of (g.H.Host.state c.args.host.now) in
    let new = said_of (g.H.Host.state c.say.new.host) in
    let mid_tells : IsTrue (g.H.Host.state c.step.new.host).tells = c.step.ensures.cause.tells ∙ tells in
    let reply : c.deref.result.now ≡ text (step s c.args.line.now).reply = c.deref.ensures.value ∙ c.in-Ok.ensures.reply s tells stands in
    subst (λ (k : Command). Leaves k c.say.result s c.args.line.now old (g.H.Host.state c.say.new.host) c.args.summary.now c.args.summary.now) (sym c.in-Run.is)
    (record {
      said =
          subst (λ (l : List ℕ). SaysText c.say.result l old new) reply
          (subst (λ (l : List ℕ). SaysText c.say.result c.deref.result.now l new) ((silent_these c.step.ensures.writes).content tells).said (c.say.ensures.said mid_tells));
      files =
          leaves_said c.say.result _ _ _ c.say.ensures.fault
          (value_stays (g.H.Host.state c.step.new.host) (g.H.Host.state c.say.new.host) (c.say.ensures.files mid_tells) ∙ c.in-Ok.ensures.value s tells stands);
      short = λ is. absurd (output_alone c.say.result c.say.ensures.fault is);
    })

pub returns-in-Run-clause-images : goal.returns-in-Run-clause-images
returns-in-Run-clause-images g c s tells stands =
    let old = g.H.Host.state c.args.host.now in
    let mid = g.H.Host.state c.step.new.host in
    let new = g.H.Host.state c.say.new.host in
    let t = step s c.args.line.now in
    let silent = (silent_these c.step.ensures.writes).content tells in
    let mid_tells : IsTrue mid.tells = c.step.ensures.cause.tells ∙ tells in
    subst (λ (k : Command). LeavesOnly (IsOfLine k s.registry t (said_of old)) old new) (sym c.in-Run.is)
    (replied old mid new s.registry t c.deref.result.now (c.deref.ensures.value ∙ c.in-Ok.ensures.reply s tells stands) silent.said (c.in-Ok.ensures.durable s tells stands)
    (stepped Run old mid s.registry t (c.step.ensures.images s tells stands) silent.images) (c.say.ensures.images mid_tells))

pub returns-in-Run-clause-grows : goal.returns-in-Run-clause-grows
returns-in-Run-clause-grows g c tells =
    says_reply c.say.result c.deref.result.now (g.H.Host.state c.args.host.now) (g.H.Host.state c.step.new.host) (g.H.Host.state c.say.new.host) ((silent_these c.step.ensures.writes).content tells).said (c.say.ensures.said (c.step.ensures.cause.tells ∙ tells))

pub returns-in-Ok-clause-leaves : goal.returns-in-Ok-clause-leaves
returns-in-Ok-clause-leaves g c s tells stands =
    let old = said_of (g.H.Host.state c.args.host.now) in
    let reply : c.deref-in-Gen.result.now ≡ text (step s c.args.line.now).reply = c.deref-in-Gen.ensures.value ∙ c.in-Ok.ensures.reply s tells stands in
    subst (λ (k : Command). Leaves k (Ok tt) s c.args.line.now old (g.H.Host.state c.step.new.host) c.args.summary.now c.count.new.self) (sym c.in-Gen.is)
    (record {
      said = (((silent_these c.step.ensures.writes).content tells).said, c.count.ensures.counted ∙ ap (counted c.args.summary.now) reply);
      files = c.in-Ok.ensures.value s tells stands;
      short = λ is. absurd (output_alone (Ok tt) tt is);
    })

pub returns-in-Ok-clause-images : goal.returns-in-Ok-clause-images
returns-in-Ok-clause-images g c s tells stands =
    stepped c.args.command (g.H.Host.state c.args.host.now) (g.H.Host.state c.step.new.host) s.registry (step s c.args.line.now) (c.step.ensures.images s tells stands) ((silent_these c.step.ensures.writes).content tells).images

pub returns-in-Ok-clause-grows : goal.returns-in-Ok-clause-grows
returns-in-Ok-clause-grows g c tells = record { more = []; said = ((silent_these c.step.ensures.writes).content tells).said ∙ sym (append-nil (said_of (g.H.Host.state c.args.host.now))) }

pub returns-clause-images : goal.returns-clause-images
returns-clause-images g c s tells stands =
    stepped c.args.command (g.H.Host.state c.args.host.now) (g.H.Host.state c.step.new.host) s.registry (step s c.args.line.now) (c.step.ensures.images s tells stands) ((silent_these c.step.ensures.writes).content tells).images

pub returns-clause-grows : goal.returns-clause-grows
returns-clause-grows g c tells = record { more = []; said = ((silent_these c.step.ensures.writes).content tells).said ∙ sym (append-nil (said_of (g.H.Host.state c.args.host.now))) }

-- The logs of publications.

pub returns-in-Run-clause-logs : goal.returns-in-Run-clause-logs
returns-in-Run-clause-logs g c s tells stands =
    let mid_tells = c.step.ensures.cause.tells ∙ tells in
    logs_on _ _ _ s.registry (c.step.ensures.logs s tells stands) (logs_said s.registry c.deref.result.now (c.say.ensures.files mid_tells) (c.say.ensures.images mid_tells))

-- The files that no job of the run has.

pub returns-in-Run-clause-others : goal.returns-in-Run-clause-others
returns-in-Run-clause-others g c old lines tells stands =
    let mid_tells = c.step.ensures.cause.tells ∙ tells in
    others_on old
    (others_step (g.H.Host.state c.args.host.now) (g.H.Host.state c.step.new.host) c.args.session.now old lines (meaning c.args.line.now) tells c.requires stands c.step.ensures.writes
    (λ at_once. (c.step.ensures.at_once (session_after (opened old) lines) tells stands at_once).1))
    (others_said old c.deref.result.now (c.say.ensures.files mid_tells) (c.say.ensures.images mid_tells))

pub returns-in-Ok-clause-others : goal.returns-in-Ok-clause-others
returns-in-Ok-clause-others g c old lines tells stands =
    others_step (g.H.Host.state c.args.host.now) (g.H.Host.state c.step.new.host) c.args.session.now old lines (meaning c.args.line.now) tells c.requires stands c.step.ensures.writes
    (λ at_once. (c.step.ensures.at_once (session_after (opened old) lines) tells stands at_once).1)

pub returns-clause-others : goal.returns-clause-others
returns-clause-others g c old lines tells stands =
    others_step (g.H.Host.state c.args.host.now) (g.H.Host.state c.step.new.host) c.args.session.now old lines (meaning c.args.line.now) tells c.requires stands c.step.ensures.writes
    (λ at_once. (c.step.ensures.at_once (session_after (opened old) lines) tells stands at_once).1)

-- File 0 at the end.

pub returns-in-Run-clause-rests : goal.returns-in-Run-clause-rests
returns-in-Run-clause-rests g c tells =
    let mid = g.H.Host.state c.step.new.host in
    let new = g.H.Host.state c.say.new.host in
    let mid_tells = c.step.ensures.cause.tells ∙ tells in
    rests_with (status_after c.say.result) new (rests_still mid new (c.say.ensures.files mid_tells 0) (sound_rests mid c.step.new.self c.in-Ok.ensures.sound mid_tells))

pub returns-in-Ok-clause-rests : goal.returns-in-Ok-clause-rests
returns-in-Ok-clause-rests g c tells = sound_rests (g.H.Host.state c.step.new.host) c.step.new.self c.in-Ok.ensures.sound (c.step.ensures.cause.tells ∙ tells)

pub returns-clause-rests : goal.returns-clause-rests
returns-clause-rests g c tells =
    let old = g.H.Host.state c.args.host.now in
    let new = g.H.Host.state c.step.new.host in
    rests_at c.in-Err.fault new (λ other. rests_still old new (c.step.ensures.faults c.in-Err.fault tells c.in-Err.is other).same (sound_rests old c.args.session.now c.requires tells))
