use Rattle.std.proofs.Common.{◌≢◌, sym, subst, ◌∙◌, append-nil}
use Rattle.dfs_host.specs.Host.{said_of}
use Rattle.dfs_host.proofs.Moments.{started}
use Rattle.deltafs.specs.declared.status.Status.{Status}
use Rattle.deltafs.specs.declared.status.Status.TheVariants.{SourceFault, ScriptTooLong}
use Rattle.deltafs.specs.Causes.{IsOfLines}
use Rattle.deltafs.proofs.Summing.{is_said}
use Rattle.deltafs.proofs.running.say_summary.Goals as goal

pub returns-clause-images : goal.returns-clause-images
returns-clause-images g c tells =
    let host = g.H.Host.state c.args.host.now in
    started host (λ image is. record { files = is.files; count = 0; said = is.said ∙ sym (append-nil (said_of host)) })

pub returns-in-Ok-clause-lines : goal.returns-in-Ok-clause-lines
returns-in-Ok-clause-lines g c = subst IsOfLines (sym c.ended.ensures) (is_said c.say.result c.say.ensures.fault).0

pub returns-in-Ok-clause-no_input : goal.returns-in-Ok-clause-no_input
returns-in-Ok-clause-no_input g c = subst (λ (s : Status). s ≢ SourceFault) (sym c.ended.ensures) (is_said c.say.result c.say.ensures.fault).1

pub returns-in-Ok-clause-no_limit : goal.returns-in-Ok-clause-no_limit
returns-in-Ok-clause-no_limit g c = subst (λ (s : Status). s ≢ ScriptTooLong) (sym c.ended.ensures) (is_said c.say.result c.say.ensures.fault).2
