use Rattle.std.proofs.Common.{◌∙◌, ◌+◌, ap, arith, false, refl, sym}
use Rattle.std.proofs.lemmas.Result.{err_from_is_err_and}
use Rattle.dfs_view.specs.Lists.{flushed}
use Rattle.dfs_view.proofs.Adding.{grows_by_runs}
use Rattle.dfs_job.specs.Job.{after_flush}
use Rattle.dfs_job.specs.declared.settings.Settings.{Settings}
use Rattle.dfs_job.proofs.Keeping.{account_short, fit_after, flush_stands}
use Rattle.dfs_job.proofs.job.Job.flush.Goals as goal

pub returns-clause-stands : goal.returns-clause-stands
returns-clause-stands g c = λ j tells stands.
    let of = c.in_ok-flush.ensures in
    flush_stands (g.H.Host.state c.args.host.now) (g.H.Host.state c.flush.new.host) c.args.self.now (record { ids = c.args.self.now.ids; layers = c.flush.new.layers; settings = c.args.self.now.settings; plans = c.args.self.now.plans; plan = c.args.self.now.plan; spent = false }) tells c.requires.sound.fit of.works refl
    (of.stand tells) refl refl refl j stands

pub returns-clause-sound : goal.returns-clause-sound
returns-clause-sound g c =
    let of = c.in_ok-flush.ensures in
    let old = c.args.self.now in
    record {
      fit = fit_after (g.H.Host.state c.args.host.now) (g.H.Host.state c.flush.new.host) old (record { ids = old.ids; layers = c.flush.new.layers; settings = old.settings; plans = old.plans; plan = old.plan; spent = false }) 0 flushed c.requires.sound.fit of.works refl c.requires.sound.fit.ids
          refl refl of.fit refl refl;
      stands = λ tells.
          let told = sym of.cause.tells ∙ tells in
          let one = c.requires.sound.stands told in
          record { plain = after_flush one.plain; stands = returns-clause-stands g c one.plain told one.stands };
    }

pub returns-in_err-flush-clause-short : goal.returns-in_err-flush-clause-short
returns-in_err-flush-clause-short g c = λ j tells stands is.
    let of = c.flush.ensures in
    let fit = c.requires.sound.fit in
    let p = err_from_is_err_and c.from_residual.result c.from_residual.ensures.1 in
    let past = of.works.past (of.full.0 (cc (is, c.in_err-flush.was, p.1, p.2))) in
    omega (
      arith,
      account_short c.args.self.now j j 0 0 c.args.self.now.layers.log.limit (c.flush.new.layers.log.len + c.flush.new.layers.log.refused) stands.account (omega (arith, of.works.growth)) (omega arith) past refl (omega arith) (omega arith),
      fit.log_bytes,
      ap (λ (s : Settings). s.log_bytes) stands.settings,
    )

pub returns-clause-wrote : goal.returns-clause-wrote
returns-clause-wrote g c = grows_by_runs _ _ 0 flushed c.in_ok-flush.ensures.works refl
