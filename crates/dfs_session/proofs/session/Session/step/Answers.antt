use Rattle.dfs_script.specs.Line.{meaning}
use Rattle.std.proofs.Common.{◌∙◌, sym, subst}
use Rattle.dfs_session.specs.Session.{step as step_of}
use Rattle.dfs_session.specs.Worked.{names_by, quiet_by}
use Rattle.dfs_session.proofs.Images.{image_holds}
use Rattle.dfs_session.proofs.Reading.{spent_once}
use Rattle.dfs_session.proofs.Writing.{logs_stay}
use Rattle.dfs_session.proofs.session.Session.step.Goals as goal

pub returns-in-Ok-clause-durable : goal.returns-in-Ok-clause-durable
returns-in-Ok-clause-durable g c = λ s tells stands image left.
    image_holds (g.H.Host.state c.work.new.host) c.work.new.self (step_of s c.args.line.now).session image (c.work.ensures.worked.cause.tells ∙ tells) c.in-Ok.ensures.worked.sound (c.in-Ok.ensures.worked.stands s tells stands) left

pub returns-in-Ok-clause-kept : goal.returns-in-Ok-clause-kept
returns-in-Ok-clause-kept g c = λ word names is selected. c.in-Ok.ensures.worked.reads (subst (λ line. quiet_by line c.args.self.now) (sym is) selected)

pub returns-in-Err-clause-passes : goal.returns-in-Err-clause-passes
returns-in-Err-clause-passes g c = λ s tells stands is. c.work.ensures.worked.passes s tells stands (c.in-Err.is ∙ is)

pub returns-in-Ok-clause-logs : goal.returns-in-Ok-clause-logs
returns-in-Ok-clause-logs g c = λ s tells stands. logs_stay (g.H.Host.state c.args.host.now) c.args.self.now c.requires tells (meaning c.args.line.now) s (g.H.Host.state c.work.new.host) stands c.work.ensures.worked.writes

pub returns-in-Err-clause-logs : goal.returns-in-Err-clause-logs
returns-in-Err-clause-logs g c = λ s tells stands. logs_stay (g.H.Host.state c.args.host.now) c.args.self.now c.requires tells (meaning c.args.line.now) s (g.H.Host.state c.work.new.host) stands c.work.ensures.worked.writes

pub returns-in-Err-clause-faults : goal.returns-in-Err-clause-faults
returns-in-Err-clause-faults g c = λ fault tells is other. c.work.ensures.faults fault tells (c.in-Err.is ∙ is) other

pub returns-in-Err-clause-once : goal.returns-in-Err-clause-once
returns-in-Err-clause-once g c = spent_once (g.H.Host.state c.args.host.now).reads (g.H.Host.state c.work.new.host).reads c.args.self.now c.work.new.self (names_by (meaning c.args.line.now)) c.work.ensures.once
