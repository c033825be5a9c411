use Rattle.std.proofs.Common.{◌∙◌, ap, arith, sym, subst}
use Rattle.std.specs.Prelude.{OnOk, unwrap_or}
use Rattle.std.proofs.lemmas.Result.{err_from_is_err_and}
use Rattle.dfs_job.specs.declared.settings.Settings.{Settings}
use Rattle.dfs_job.specs.Job.{after_flush, planned_as, with_plan}
use Rattle.dfs_job.specs.Stands.{JobStands}
use Rattle.dfs_job.proofs.Plans.{is_made, need_more, ok_sound, plan_none}
use Rattle.dfs_job.proofs.job.Job.plan.Goals as goal

pub returns-in_err-flush-clause-short : goal.returns-in_err-flush-clause-short
returns-in_err-flush-clause-short g c = λ j tells stands is.
    let p = err_from_is_err_and c.from_residual.result c.from_residual.ensures.1 in
    omega (arith, c.flush.ensures.short j tells stands (cc (is, c.in_err-flush.was, p.1, p.2)), need_more j c.args.scope c.args.parts)

pub cover-requires-clause-none : goal.cover-requires-clause-none
cover-requires-clause-none g c = c.flush.ensures.plan.0 ∙ plan_none c.args.self.now.plan (sym c.is_some.ensures ∙ c.if-is_some.false)

pub cover-requires-clause-few : goal.cover-requires-clause-few
cover-requires-clause-few g c = omega (arith, c.flush.ensures.plan.1, c.if-self.false, c.requires.sound.fit.plans)

pub returns-clause-stands : goal.returns-clause-stands
returns-clause-stands g c = λ j tells stands.
    let of = c.in_ok-flush.ensures in
    let none = plan_none c.args.self.now.plan (sym c.is_some.ensures ∙ c.if-is_some.false) in
    let made = is_made (g.H.Host.state c.args.host.now) c.args.self.now j none (omega (arith, c.if-self.false, c.requires.sound.fit.plans)) stands in
    subst (λ k. OnOk c.cover.result (JobStands (g.H.Host.state c.flush.new.host) c.cover.new.self k)) (sym (ap (λ a. planned_as a j c.args.scope c.args.parts) made))
    (subst (λ n. OnOk c.cover.result (JobStands (g.H.Host.state c.flush.new.host) c.cover.new.self (with_plan c.args.scope n (after_flush j)))) (c.unwrap_or.ensures ∙ ap (λ (s : Settings). unwrap_or c.args.parts s.parts) (of.settings ∙ sym stands.settings))
    (c.cover.ensures.stands (g.H.Host.state c.flush.new.host) (after_flush j) (of.cause.tells ∙ tells) (of.stands j tells stands)))

pub returns-clause-sound : goal.returns-clause-sound
returns-clause-sound g c =
    let of = c.in_ok-flush.ensures in
    ok_sound c.cover.result (g.H.Host.state c.flush.new.host) c.cover.new.self c.cover.ensures.fit
    (λ tells.
    let one = of.sound.stands tells in
    (record { job = with_plan c.args.scope c.unwrap_or.result one.plain; stands = c.cover.ensures.stands (g.H.Host.state c.flush.new.host) one.plain tells one.stands }))
