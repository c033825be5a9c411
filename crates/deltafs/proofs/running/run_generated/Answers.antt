use Rattle.std.proofs.Common.{List, ℕ, [], ◌≢◌, refl, sym, subst, ◌∙◌, arith}
use Rattle.dfs_gen.specs.Script.{script}
use Rattle.dfs_gen.specs.Summary.{summary_text, Counts}
use Rattle.dfs_host.specs.Host.{LeavesOnly, said_of}
use Rattle.dfs_host.proofs.Moments.{goes_on}
use Rattle.dfs_script.specs.Script.{lines_of}
use Rattle.dfs_session.specs.Files.{value_on}
use Rattle.dfs_session.specs.Images.{HoldsNow}
use Rattle.dfs_session.specs.Run.{session_after}
use Rattle.dfs_session.specs.Session.{opened}
use Rattle.deltafs.specs.declared.status.Status.{Status}
use Rattle.deltafs.specs.declared.status.Status.TheVariants.{SourceFault, ScriptTooLong}
use Rattle.deltafs.specs.declared.words.Command.TheVariants.{Gen}
use Rattle.deltafs.specs.Lines.{Ends, IsAfter, IsCounted}
use Rattle.deltafs.specs.Summed.{KeepsSummary}
use Rattle.deltafs.proofs.Hosts.{value_stays}
use Rattle.deltafs.proofs.Others.{others_on, others_said}
use Rattle.deltafs.proofs.Summing.{ends_silent, no_long_script, no_source_fault, summed, sums_now}
use Rattle.dfs_session.proofs.Writing.{logs_on, logs_said}
use Rattle.deltafs.specs.Rests.{LeavesAtRest}
use Rattle.deltafs.proofs.Resting.{rests_still, rests_with}
use Rattle.deltafs.proofs.running.run_generated.Goals as goal

pub returns-in-Done-clause-says : goal.returns-in-Done-clause-says
returns-in-Done-clause-says g c old tells start =
    let creates = c.args.creates in
    let host = g.H.Host.state c.args.host.now in
    let mid = g.H.Host.state c.run_script.new.host in
    let new = g.H.Host.state c.say_summary.new.host in
    let counts = c.run_script.new.summary in
    let mid_tells = c.run_script.ensures.cause.tells ∙ tells in
    let first = subst (λ (k : Counts). IsAfter (Gen creates) old [] host k c.args.session) (sym c.new-summary.ensures) start in
    let ends = c.run_script.ensures.says old tells refl first in
    let at : IsCounted old (script creates) (said_of mid) (value_on mid) counts =
    subst (λ (l : List ℕ). IsCounted old l (said_of mid) (value_on mid) counts) c.new-source.ensures.rest
    (subst (λ (s : Status). Ends (Gen creates) s old c.new-source.result c.run_script.new.source (said_of mid) (value_on mid) counts) c.in-Done.is ends) in
    summed old (script creates) (said_of mid) (value_on mid) counts at c.say_summary.result (said_of new) (value_on new) (value_stays mid new (c.say_summary.ensures.files mid_tells)) (c.say_summary.ensures.said mid_tells)

pub returns-in-Done-clause-images : goal.returns-in-Done-clause-images
returns-in-Done-clause-images g c old tells start =
    let creates = c.args.creates in
    let host = g.H.Host.state c.args.host.now in
    let mid = g.H.Host.state c.run_script.new.host in
    let counts = c.run_script.new.summary in
    let mid_tells = c.run_script.ensures.cause.tells ∙ tells in
    let first = subst (λ (k : Counts). IsAfter (Gen creates) old [] host k c.args.session) (sym c.new-summary.ensures) start in
    let at : IsCounted old (script creates) (said_of mid) (value_on mid) counts =
    subst (λ (l : List ℕ). IsCounted old l (said_of mid) (value_on mid) counts) c.new-source.ensures.rest
    (subst (λ (s : Status). Ends (Gen creates) s old c.new-source.result c.run_script.new.source (said_of mid) (value_on mid) counts) c.in-Done.is (c.run_script.ensures.says old tells refl first)) in
    let held : HoldsNow (session_after (opened old) (lines_of (script creates))).registry mid =
    subst (λ (l : List ℕ). HoldsNow (session_after (opened old) (lines_of l)).registry mid) c.new-source.ensures.rest (c.run_script.ensures.durable old tells refl first c.in-Done.is) in
    goes_on (subst (λ (l : List ℕ). LeavesOnly (KeepsSummary old l) host mid) c.new-source.ensures.rest (c.run_script.ensures.images old tells refl first)) (c.say_summary.ensures.images mid_tells)
    (λ image says. sums_now old (script creates) mid counts image at held says)

pub returns-in_default-clause-no_input : goal.returns-in_default-clause-no_input
returns-in_default-clause-no_input g c = no_source_fault c.run_script.result c.run_script.ensures.input

pub returns-in_default-clause-no_limit : goal.returns-in_default-clause-no_limit
returns-in_default-clause-no_limit g c =
    no_long_script c.run_script.result c.args.creates c.new-source.result c.run_script.new.source (omega arith) c.new-source.ensures.rest (c.run_script.ensures.limit refl)

pub returns-in_default-clause-says : goal.returns-in_default-clause-says
returns-in_default-clause-says g c old tells start =
    let creates = c.args.creates in
    let mid = g.H.Host.state c.run_script.new.host in
    let status = c.run_script.result in
    let first = subst (λ (k : Counts). IsAfter (Gen creates) old [] (g.H.Host.state c.args.host.now) k c.args.session) (sym c.new-summary.ensures) start in
    let no_input : status ≢ SourceFault = no_source_fault status c.run_script.ensures.input in
    let no_limit : status ≢ ScriptTooLong = no_long_script status creates c.new-source.result c.run_script.new.source (omega arith) c.new-source.ensures.rest (c.run_script.ensures.limit refl) in
    ends_silent old (script creates) creates status c.run_script.new.source (said_of mid) (value_on mid) c.run_script.new.summary c.in_default.not-Done no_input no_limit
    (subst (λ (l : List ℕ). Ends (Gen creates) status old l c.run_script.new.source (said_of mid) (value_on mid) c.run_script.new.summary) c.new-source.ensures.rest (c.run_script.ensures.says old tells refl first))

pub returns-in_default-clause-images : goal.returns-in_default-clause-images
returns-in_default-clause-images g c old tells start =
    let creates = c.args.creates in
    let host = g.H.Host.state c.args.host.now in
    let first = subst (λ (k : Counts). IsAfter (Gen creates) old [] host k c.args.session) (sym c.new-summary.ensures) start in
    subst (λ (l : List ℕ). LeavesOnly (KeepsSummary old l) host (g.H.Host.state c.run_script.new.host)) c.new-source.ensures.rest (c.run_script.ensures.images old tells refl first)

-- The logs of publications.

pub returns-in-Done-clause-logs : goal.returns-in-Done-clause-logs
returns-in-Done-clause-logs g c old tells start =
    let mid_tells = c.run_script.ensures.cause.tells ∙ tells in
    let first = subst (λ (k : Counts). IsAfter (Gen c.args.creates) old [] (g.H.Host.state c.args.host.now) k c.args.session) (sym c.new-summary.ensures) start in
    logs_on _ _ _ old (c.run_script.ensures.logs old tells first) (logs_said old (summary_text c.run_script.new.summary) (c.say_summary.ensures.files mid_tells) (c.say_summary.ensures.images mid_tells))

pub returns-in_default-clause-logs : goal.returns-in_default-clause-logs
returns-in_default-clause-logs g c old tells start =
    c.run_script.ensures.logs old tells (subst (λ (k : Counts). IsAfter (Gen c.args.creates) old [] (g.H.Host.state c.args.host.now) k c.args.session) (sym c.new-summary.ensures) start)

-- The files that no job of the run has.

pub returns-in-Done-clause-others : goal.returns-in-Done-clause-others
returns-in-Done-clause-others g c old tells start =
    let mid_tells = c.run_script.ensures.cause.tells ∙ tells in
    let first = subst (λ (k : Counts). IsAfter (Gen c.args.creates) old [] (g.H.Host.state c.args.host.now) k c.args.session) (sym c.new-summary.ensures) start in
    others_on old (c.run_script.ensures.others old tells first) (others_said old (summary_text c.run_script.new.summary) (c.say_summary.ensures.files mid_tells) (c.say_summary.ensures.images mid_tells))

pub returns-in_default-clause-others : goal.returns-in_default-clause-others
returns-in_default-clause-others g c old tells start =
    c.run_script.ensures.others old tells (subst (λ (k : Counts). IsAfter (Gen c.args.creates) old [] (g.H.Host.state c.args.host.now) k c.args.session) (sym c.new-summary.ensures) start)

-- File 0 at the end.

pub returns-in-Done-clause-rests : goal.returns-in-Done-clause-rests
returns-in-Done-clause-rests g c tells =
    let mid = g.H.Host.state c.run_script.new.host in
    let new = g.H.Host.state c.say_summary.new.host in
    rests_with c.say_summary.result new
    (rests_still mid new (c.say_summary.ensures.files (c.run_script.ensures.cause.tells ∙ tells) 0) (subst (λ (s : Status). LeavesAtRest s mid) c.in-Done.is (c.run_script.ensures.rests tells)))
