use Rattle.std.proofs.Common.{◌∙◌, ap, false, map, refl, sym}
use Rattle.std.specs.Prelude.{None}
use Rattle.dfs_job.specs.declared.job.Job.{Job as LiveJob}
use Rattle.dfs_job.proofs.Keeping.{begun_fit, begun_stands, begun_stands_for_one}
use Rattle.dfs_job.proofs.job.Job.begin.Goals as goal

pub returns-clause-stands : goal.returns-clause-stands
returns-clause-stands g c = λ ds tells zip.
    let new : LiveJob = record {
      ids = record { job = c.args.number; counter = 0; made = 0 };
      layers = record { log = c.in_ok-log.log; buffer = c.new.result; limit = c.args.settings.buffer; runs = c.new-2.result; basis = c.args.basis };
      settings = c.args.settings;
      plans = 0;
      plan = None;
      spent = false;
    } in
    begun_stands new c.args.number c.args.settings refl c.in_ok-log.ensures.log c.new.ensures.empty (ap (map (λ r. r.value)) c.new-2.ensures.items) refl refl refl refl c.requires.earlier (g.H.Host.state c.args.host.now) (g.H.Host.state c.start.new.host) tells
    c.start.ensures.only (c.requires.selectable tells) (c.in_ok-log.ensures.stands tells) ds zip

pub returns-clause-sound : goal.returns-clause-sound
returns-clause-sound g c =
    let new : LiveJob = record {
      ids = record { job = c.args.number; counter = 0; made = 0 };
      layers = record { log = c.in_ok-log.log; buffer = c.new.result; limit = c.args.settings.buffer; runs = c.new-2.result; basis = c.args.basis };
      settings = c.args.settings;
      plans = 0;
      plan = None;
      spent = false;
    } in
    record {
      fit = begun_fit new c.args.number c.args.settings refl c.in_ok-log.ensures.log c.new.ensures.empty (ap (map (λ r. r.value)) c.new-2.ensures.items) refl refl refl refl c.requires.earlier c.requires.number c.ranges.number.fits c.requires.settings refl;
      stands = λ tells.
          let told = sym c.start.ensures.cause.tells ∙ tells in
          begun_stands_for_one new c.args.number c.args.settings refl c.in_ok-log.ensures.log c.new.ensures.empty (ap (map (λ r. r.value)) c.new-2.ensures.items) refl refl refl refl c.requires.earlier (g.H.Host.state c.args.host.now) (g.H.Host.state c.start.new.host) told
          c.start.ensures.only (c.requires.selectable told) (c.in_ok-log.ensures.stands told);
    }
