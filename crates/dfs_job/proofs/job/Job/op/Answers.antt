use Rattle.std.proofs.Common.{◌∙◌, ◌≤◌, ◌+◌, ap, arith, false, length, refl, sym, subst}
use Rattle.std.proofs.lemmas.Result.{err_from_is_err_and}
use Rattle.dfs_ops.specs.Op.{AreIds, Outcome, outcome}
use Rattle.dfs_view.specs.Layers.{layers_map}
use Rattle.dfs_view.specs.Lists.{add_all}
use Rattle.dfs_view.proofs.Adding.{grows_by_runs}
use Rattle.dfs_job.specs.Job.{after, does}
use Rattle.dfs_job.proofs.Fair.{fresh_after}
use Rattle.dfs_job.proofs.Prefixes.{prefix_few}
use Rattle.dfs_job.specs.declared.settings.Settings.{Settings}
use Rattle.dfs_job.proofs.Keeping.{account_short, fit_after, op_stands, same_outcome}
use Rattle.dfs_job.proofs.job.Job.op.Goals as goal

pub returns-clause-answer : goal.returns-clause-answer
returns-clause-answer g c = λ j tells stands. c.in_ok-answer.ensures.answer tells ∙ ap (λ (o : Outcome). o.answer) (same_outcome (g.H.Host.state c.args.host.now) c.args.self.now j c.args.op.now stands)

pub returns-clause-stands : goal.returns-clause-stands
returns-clause-stands g c = λ j tells stands.
    let of = c.in_ok-answer.ensures in
    op_stands (g.H.Host.state c.args.host.now) (g.H.Host.state c.apply_to.new.host) c.args.self.now (record { ids = c.apply_to.new.ids; layers = c.apply_to.new.layers; settings = c.args.self.now.settings; plans = c.args.self.now.plans; plan = c.args.self.now.plan; spent = false }) c.args.op.now of.applied.records tells
    c.requires.sound.fit c.requires.op of.applied.went_on (of.applied.whole tells) (of.ids tells) (of.stand tells) refl refl refl j stands

pub returns-clause-fresh : goal.returns-clause-fresh
returns-clause-fresh g c = λ j tells stands. fresh_after j c.args.op.now (subst AreIds (sym stands.ids) c.requires.sound.fit.ids) c.requires.op stands.fair

pub returns-clause-sound : goal.returns-clause-sound
returns-clause-sound g c =
    let of = c.in_ok-answer.ensures in
    let old = c.args.self.now in
    record {
      fit = fit_after (g.H.Host.state c.args.host.now) (g.H.Host.state c.apply_to.new.host) old (record { ids = c.apply_to.new.ids; layers = c.apply_to.new.layers; settings = old.settings; plans = old.plans; plan = old.plan; spent = false }) (length of.applied.records)
          (λ l. add_all old.layers.limit l of.applied.records) c.requires.sound.fit of.applied.went_on refl of.again of.applied.job refl of.fit refl refl;
      stands = λ tells.
          let told = sym of.cause.tells ∙ tells in
          let one = c.requires.sound.stands told in
          record { plain = after one.plain (does one.plain c.args.op.now); stands = returns-clause-stands g c one.plain told one.stands };
    }

pub returns-in_err-answer-clause-short : goal.returns-in_err-answer-clause-short
returns-in_err-answer-clause-short g c = λ j tells stands is.
    let of = c.in_err-answer.ensures in
    let p = err_from_is_err_and c.from_residual.result c.from_residual.ensures.1 in
    let past = of.applied.went_on.past (c.apply_to.ensures.full.0 (cc (is, c.in_err-answer.was, p.1, p.2))) in
    let first = of.applied.first tells in
    let few : length of.applied.records ≤ length (does j c.args.op.now).records = omega (arith, prefix_few of.applied.records (outcome (layers_map (g.H.Host.state c.args.host.now) c.args.self.now.layers) c.args.self.now.ids c.args.op.now).records first, ap (λ (o : Outcome). length o.records) (same_outcome (g.H.Host.state c.args.host.now) c.args.self.now j c.args.op.now stands)) in
    omega (
      arith,
      account_short c.args.self.now j (after j (does j c.args.op.now)) (length of.applied.records) 0 c.args.self.now.layers.log.limit (c.apply_to.new.layers.log.len + c.apply_to.new.layers.log.refused) stands.account
          (omega (arith, of.applied.went_on.growth)) (omega arith) past refl (omega (arith, few)) (omega arith),
      c.requires.sound.fit.log_bytes,
      ap (λ (s : Settings). s.log_bytes) stands.settings,
    )

pub returns-clause-cut : goal.returns-clause-cut
returns-clause-cut g c = λ tells. let on = c.in_ok-answer.ensures.applied.went_on in record { more = on.more; runs = on.runs; cut = on.more_cut tells }

pub returns-in_err-answer-clause-cut : goal.returns-in_err-answer-clause-cut
returns-in_err-answer-clause-cut g c = λ tells. let on = c.in_err-answer.ensures.applied.went_on in record { more = on.more; runs = on.runs; cut = on.more_cut tells }

pub returns-clause-room : goal.returns-clause-room
returns-clause-room g c = λ j tells stands room.
    let applied = c.in_ok-answer.ensures.applied in
    applied.room (omega (arith, room, ap length (applied.whole tells), ap (λ (o : Outcome). length o.records) (same_outcome (g.H.Host.state c.args.host.now) c.args.self.now j c.args.op.now stands)))

pub returns-in_err-answer-clause-room : goal.returns-in_err-answer-clause-room
returns-in_err-answer-clause-room g c = λ j tells stands room.
    let applied = c.in_err-answer.ensures.applied in
    let all = (outcome (layers_map (g.H.Host.state c.args.host.now) c.args.self.now.layers) c.args.self.now.ids c.args.op.now).records in
    applied.room (omega (arith, room, prefix_few applied.records all (applied.first tells), ap (λ (o : Outcome). length o.records) (same_outcome (g.H.Host.state c.args.host.now) c.args.self.now j c.args.op.now stands)))

pub returns-clause-wrote : goal.returns-clause-wrote
returns-clause-wrote g c = let applied = c.in_ok-answer.ensures.applied in grows_by_runs _ _ (length applied.records) (λ l. add_all c.args.self.now.layers.limit l applied.records) applied.went_on refl
