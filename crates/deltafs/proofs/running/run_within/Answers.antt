use Rattle.std.proofs.Common.{◌≡◌, ◌∙◌, [], Some, Err, refl, ap, subst, sym, inr}
use Rattle.dfs_gen.specs.Summary.{Counts}
use Rattle.dfs_host.specs.Host.{said_of, bytes_of}
use Rattle.dfs_host.proofs.Moments.{goes_on, reads_nothing, silent_only}
use Rattle.dfs_session.specs.Files.{value_on}
use Rattle.deltafs.specs.declared.status.Status.{Status}
use Rattle.deltafs.specs.declared.status.Status.TheVariants.{NoMemory}
use Rattle.deltafs.specs.declared.words.Command.TheVariants.{Run, Gen}
use Rattle.deltafs.specs.Causes.{DiskFaultsOf, IsOfLines, SayFaultsOf}
use Rattle.deltafs.specs.Commands.{Keeps, Says}
use Rattle.deltafs.specs.Complete.{IsCompleted, FitsLimit, JobsHaveRoom}
use Rattle.deltafs.specs.Lines.{IsAfter}
use Rattle.deltafs.specs.Says.{Untaken}
use Rattle.deltafs.specs.Words.{command_of}
use Rattle.deltafs.proofs.Completing.{completes_gen, completes_run, completes_unopened, disk_unopened, no_disk_fault, no_output_fault, no_source_fault, no_words, none_by, tells_isolated}
use Rattle.deltafs.proofs.Faults.{limit_unopened, takes_none}
use Rattle.deltafs.proofs.Leaving.{idle, opened_first, opening, prompt_idle}
use Rattle.deltafs.proofs.Others.{others_idle, others_on, others_opened}
use Rattle.deltafs.proofs.Starting.{gen_run, says_nothing, says_unopened, some_none, is_shut}
use Rattle.dfs_session.proofs.Writing.{file_idle, logs_idle, logs_on, opened_logs}
use Rattle.deltafs.specs.Rests.{Rests}
use Rattle.deltafs.proofs.Resting.{rests_opened, rests_unopened}
use Rattle.deltafs.proofs.running.run_within.Goals as goal

-- The script of the source.

pub returns-in-Run-clause-says : goal.returns-in-Run-clause-says
returns-in-Run-clause-says g c old start =
    let host = g.H.Host.state c.args.host.now in
    let source = g.S.Source.state c.args.source.now in
    let mid = g.H.Host.state c.open.new.host in
    let new = g.H.Host.state c.run_script.new.host in
    let is : command_of c.args.words.now ≡ Some Run = sym c.command_of.ensures ∙ c.in-Some.is ∙ ap Some c.in-Run.is in
    let kept = (silent_only c.open.ensures.only).content start.host_tells in
    let first = opened_first (command_of c.args.words.now) old host source start Run mid c.in-Ok-open.session kept (c.in-Ok-open.ensures.stands old start.host_tells start.settled start.value) (c.open.ensures.value start.host_tells (start.settled 0)) in
    subst (λ k. Says k c.run_script.result old source.rest (g.S.Source.state c.run_script.new.source).rest (said_of new) (value_on new)) (sym is)
    (inr (c.run_script.ensures.says old (c.open.ensures.cause.tells ∙ start.host_tells) (start.source_tells is) (subst (λ (k : Counts). IsAfter Run old [] mid k c.in-Ok-open.session) (sym c.new-summary.ensures) first)))

pub returns-in-Run-clause-images : goal.returns-in-Run-clause-images
returns-in-Run-clause-images g c old start =
    let host = g.H.Host.state c.args.host.now in
    let source = g.S.Source.state c.args.source.now in
    let mid = g.H.Host.state c.open.new.host in
    let command = command_of c.args.words.now in
    let is : command ≡ Some Run = sym c.command_of.ensures ∙ c.in-Some.is ∙ ap Some c.in-Run.is in
    let kept = (silent_only c.open.ensures.only).content start.host_tells in
    let first = opened_first command old host source start Run mid c.in-Ok-open.session kept (c.in-Ok-open.ensures.stands old start.host_tells start.settled start.value) (c.open.ensures.value start.host_tells (start.settled 0)) in
    goes_on (opening command old host source start mid (c.open.ensures.images old start.host_tells start.settled start.value) kept.images)
    (c.run_script.ensures.images old (c.open.ensures.cause.tells ∙ start.host_tells) (start.source_tells is) (subst (λ (k : Counts). IsAfter Run old [] mid k c.in-Ok-open.session) (sym c.new-summary.ensures) first))
    (λ image keeps. subst (λ k. Keeps k old source.rest image) (sym is) keeps)

pub returns-in-Run-clause-prompt : goal.returns-in-Run-clause-prompt
returns-in-Run-clause-prompt g c old start =
    let host = g.H.Host.state c.args.host.now in
    let source = g.S.Source.state c.args.source.now in
    let mid = g.H.Host.state c.open.new.host in
    let command = command_of c.args.words.now in
    let is : command ≡ Some Run = sym c.command_of.ensures ∙ c.in-Some.is ∙ ap Some c.in-Run.is in
    let kept = (silent_only c.open.ensures.only).content start.host_tells in
    let first = opened_first command old host source start Run mid c.in-Ok-open.session kept (c.in-Ok-open.ensures.stands old start.host_tells start.settled start.value) (c.open.ensures.value start.host_tells (start.settled 0)) in
    c.run_script.ensures.prompt old (c.open.ensures.cause.tells ∙ start.host_tells) (start.source_tells is) (subst (λ (k : Counts). IsAfter Run old [] mid k c.in-Ok-open.session) (sym c.new-summary.ensures) first)

pub returns-in-Run-clause-usage : goal.returns-in-Run-clause-usage
returns-in-Run-clause-usage g c = (
  λ usage. absurd (subst IsOfLines usage c.run_script.ensures.lines),
  λ none. absurd (some_none c.in-Some.command (sym c.in-Some.is ∙ c.command_of.ensures ∙ none)),
)

pub returns-in-Run-clause-left_alone : goal.returns-in-Run-clause-left_alone
returns-in-Run-clause-left_alone g c other = absurd (other (sym c.command_of.ensures ∙ c.in-Some.is ∙ ap Some c.in-Run.is))

pub returns-in-Run-clause-no_input : goal.returns-in-Run-clause-no_input
returns-in-Run-clause-no_input g c other = absurd (other (sym c.command_of.ensures ∙ c.in-Some.is ∙ ap Some c.in-Run.is))

pub returns-in-Run-clause-no_limit : goal.returns-in-Run-clause-no_limit
returns-in-Run-clause-no_limit g c other = absurd (other (sym c.command_of.ensures ∙ c.in-Some.is ∙ ap Some c.in-Run.is))

pub returns-in-Run-clause-complete : goal.returns-in-Run-clause-complete
returns-in-Run-clause-complete g c old start room within none =
    let host = g.H.Host.state c.args.host.now in
    let source = g.S.Source.state c.args.source.now in
    let new = g.H.Host.state c.run_script.new.host in
    let rest = (g.S.Source.state c.run_script.new.source).rest in
    let status = c.run_script.result in
    let is : command_of c.args.words.now ≡ Some Run = sym c.command_of.ensures ∙ c.in-Some.is ∙ ap Some c.in-Run.is in
    let opened = c.open.ensures.cause.other (λ is. absurd (cc (is, c.in-Ok-open.is))) in
    let cause = c.run_script.ensures.cause in
    completes_run old c.args.limits.script_bytes source.rest rest (said_of new) (value_on new) status (subst (λ k. JobsHaveRoom k old source.rest) is room) (subst (λ k. FitsLimit k c.args.limits.script_bytes source.rest) is within)
    (subst (λ k. Says k status old source.rest rest (said_of new) (value_on new)) is (returns-in-Run-clause-says g c old start)) (c.run_script.ensures.limit (start.source_tells is))
    (no_disk_fault status host.disk_faults new.disk_faults (subst (λ n. DiskFaultsOf status n new.disk_faults) opened cause.disk_faults) none.disk)
    (no_output_fault status host.say_faults new.say_faults (subst (λ n. SayFaultsOf status n new.say_faults) c.open.ensures.cause.say_faults cause.say_faults) none.output)
    (no_source_fault status source.faults (g.S.Source.state c.run_script.new.source).faults c.run_script.ensures.input none.input) (cause.never_changed (c.open.ensures.cause.tells ∙ start.host_tells))

pub returns-in-Run-clause-isolated : goal.returns-in-Run-clause-isolated
returns-in-Run-clause-isolated g c old start run =
    let source = (g.S.Source.state c.args.source.now).rest in
    let rest = (g.S.Source.state c.run_script.new.source).rest in
    let new = g.H.Host.state c.run_script.new.host in
    tells_isolated old source rest (said_of new) (value_on new) (command_of c.args.words.now) c.run_script.result run (returns-in-Run-clause-says g c old start)

-- A generated script.

pub returns-in-Gen-clause-says : goal.returns-in-Gen-clause-says
returns-in-Gen-clause-says g c old start =
    let host = g.H.Host.state c.args.host.now in
    let source = g.S.Source.state c.args.source.now in
    let mid = g.H.Host.state c.open.new.host in
    let new = g.H.Host.state c.run_generated.new.host in
    let command = command_of c.args.words.now in
    let is : command ≡ Some (Gen c.in-Gen.creates) = sym c.command_of.ensures ∙ c.in-Some.is ∙ ap Some c.in-Gen.is in
    let kept = (silent_only c.open.ensures.only).content start.host_tells in
    subst (λ k. Says k c.run_generated.result old source.rest source.rest (said_of new) (value_on new)) (sym is)
    (c.run_generated.ensures.says old (c.open.ensures.cause.tells ∙ start.host_tells)
    (opened_first command old host source start (Gen c.in-Gen.creates) mid c.in-Ok-open.session kept (c.in-Ok-open.ensures.stands old start.host_tells start.settled start.value) (c.open.ensures.value start.host_tells (start.settled 0))))

pub returns-in-Gen-clause-images : goal.returns-in-Gen-clause-images
returns-in-Gen-clause-images g c old start =
    let host = g.H.Host.state c.args.host.now in
    let source = g.S.Source.state c.args.source.now in
    let mid = g.H.Host.state c.open.new.host in
    let command = command_of c.args.words.now in
    let is : command ≡ Some (Gen c.in-Gen.creates) = sym c.command_of.ensures ∙ c.in-Some.is ∙ ap Some c.in-Gen.is in
    let kept = (silent_only c.open.ensures.only).content start.host_tells in
    goes_on (opening command old host source start mid (c.open.ensures.images old start.host_tells start.settled start.value) kept.images)
    (c.run_generated.ensures.images old (c.open.ensures.cause.tells ∙ start.host_tells)
    (opened_first command old host source start (Gen c.in-Gen.creates) mid c.in-Ok-open.session kept (c.in-Ok-open.ensures.stands old start.host_tells start.settled start.value) (c.open.ensures.value start.host_tells (start.settled 0))))
    (λ image keeps. subst (λ k. Keeps k old source.rest image) (sym is) keeps)

pub returns-in-Gen-clause-prompt : goal.returns-in-Gen-clause-prompt
returns-in-Gen-clause-prompt g c old start = prompt_idle old _ _

pub returns-in-Gen-clause-usage : goal.returns-in-Gen-clause-usage
returns-in-Gen-clause-usage g c = (
  λ usage. absurd (subst IsOfLines usage c.run_generated.ensures.lines),
  λ none. absurd (some_none c.in-Some.command (sym c.in-Some.is ∙ c.command_of.ensures ∙ none)),
)

pub returns-in-Gen-clause-limit : goal.returns-in-Gen-clause-limit
returns-in-Gen-clause-limit g c run tells = absurd (gen_run c.in-Gen.creates (sym (sym c.command_of.ensures ∙ c.in-Some.is ∙ ap Some c.in-Gen.is) ∙ run))

pub returns-in-Gen-clause-complete : goal.returns-in-Gen-clause-complete
returns-in-Gen-clause-complete g c old start room within none =
    let host = g.H.Host.state c.args.host.now in
    let source = g.S.Source.state c.args.source.now in
    let new = g.H.Host.state c.run_generated.new.host in
    let status = c.run_generated.result in
    let is : command_of c.args.words.now ≡ Some (Gen c.in-Gen.creates) = sym c.command_of.ensures ∙ c.in-Some.is ∙ ap Some c.in-Gen.is in
    let opened = c.open.ensures.cause.other (λ is. absurd (cc (is, c.in-Ok-open.is))) in
    let cause = c.run_generated.ensures.cause in
    completes_gen old c.args.limits.script_bytes source.rest source.rest (said_of new) (value_on new) c.in-Gen.creates status (subst (λ k. JobsHaveRoom k old source.rest) is room)
    (subst (λ k. Says k status old source.rest source.rest (said_of new) (value_on new)) is (returns-in-Gen-clause-says g c old start))
    (no_disk_fault status host.disk_faults new.disk_faults (subst (λ n. DiskFaultsOf status n new.disk_faults) opened cause.disk_faults) none.disk)
    (no_output_fault status host.say_faults new.say_faults (subst (λ n. SayFaultsOf status n new.say_faults) c.open.ensures.cause.say_faults cause.say_faults) none.output) (cause.never_changed (c.open.ensures.cause.tells ∙ start.host_tells))

pub returns-in-Gen-clause-isolated : goal.returns-in-Gen-clause-isolated
returns-in-Gen-clause-isolated g c old start run = absurd (gen_run c.in-Gen.creates (sym (sym c.command_of.ensures ∙ c.in-Some.is ∙ ap Some c.in-Gen.is) ∙ run))

-- A registry that was not opened.

pub returns-in-Err-clause-says : goal.returns-in-Err-clause-says
returns-in-Err-clause-says g c old start =
    let host = g.H.Host.state c.args.host.now in
    let mid = g.H.Host.state c.open.new.host in
    let script = (g.S.Source.state c.args.source.now).rest in
    let command = command_of c.args.words.now in
    let silent = (silent_only c.open.ensures.only).content start.host_tells in
    subst (λ (s : Status). Says command s old script script (said_of mid) (value_on mid)) (sym c.unopened.ensures)
    (says_unopened command c.in-Err.fault old script (said_of mid) (value_on mid) host (c.in-Err.ensures.answer start.host_tells) start.value (silent.said ∙ start.silent) (c.open.ensures.value start.host_tells (start.settled 0) ∙ start.value))

pub returns-in-Err-clause-images : goal.returns-in-Err-clause-images
returns-in-Err-clause-images g c old start =
    let silent = silent_only c.open.ensures.only in
    opening (command_of c.args.words.now) old (g.H.Host.state c.args.host.now) (g.S.Source.state c.args.source.now) start (g.H.Host.state c.open.new.host) (c.open.ensures.images old start.host_tells start.settled start.value) (silent.content start.host_tells).images

pub returns-in-Err-clause-prompt : goal.returns-in-Err-clause-prompt
returns-in-Err-clause-prompt g c old start = prompt_idle old _ _

pub returns-in-Err-clause-limit : goal.returns-in-Err-clause-limit
returns-in-Err-clause-limit g c run tells =
    let script = (g.S.Source.state c.args.source.now).rest in
    subst (λ (s : Status). Untaken s c.args.limits.script_bytes script script) (sym c.unopened.ensures) (limit_unopened c.in-Err.fault c.args.limits.script_bytes script)

pub returns-in-Err-clause-shut : goal.returns-in-Err-clause-shut
returns-in-Err-clause-shut g c tells none = record { untaken = refl; only = c.open.ensures.shut tells (is_shut (bytes_of (g.H.Host.state c.args.host.now)) none) }

pub returns-in-Err-clause-complete : goal.returns-in-Err-clause-complete
returns-in-Err-clause-complete g c old start room within none =
    let mid = g.H.Host.state c.open.new.host in
    let script = (g.S.Source.state c.args.source.now).rest in
    let command = command_of c.args.words.now in
    let says = returns-in-Err-clause-says g c old start in
    subst IsCompleted (sym c.unopened.ensures)
    (completes_unopened old c.args.limits.script_bytes script script (said_of mid) (value_on mid) command c.in-Err.fault room (subst (λ (s : Status). Says command s old script script (said_of mid) (value_on mid)) c.unopened.ensures says)
    (λ is. none.disk (c.open.ensures.cause.disk (c.in-Err.is ∙ ap Err (disk_unopened c.in-Err.fault is)))))

pub returns-in-Err-clause-isolated : goal.returns-in-Err-clause-isolated
returns-in-Err-clause-isolated g c old start run =
    let script = (g.S.Source.state c.args.source.now).rest in
    let mid = g.H.Host.state c.open.new.host in
    tells_isolated old script script (said_of mid) (value_on mid) (command_of c.args.words.now) c.unopened.result run (returns-in-Err-clause-says g c old start)

-- Other words.

pub returns-in_default-clause-images : goal.returns-in_default-clause-images
returns-in_default-clause-images g c old start = idle (command_of c.args.words.now) old (g.H.Host.state c.args.host.now) (g.S.Source.state c.args.source.now) start

pub returns-in_default-clause-prompt : goal.returns-in_default-clause-prompt
returns-in_default-clause-prompt g c old start = prompt_idle old _ _

pub returns-in_default-clause-shut : goal.returns-in_default-clause-shut
returns-in_default-clause-shut g c tells none = record { untaken = refl; only = reads_nothing (g.H.Host.state c.args.host.now) }

pub returns-in_default-clause-complete : goal.returns-in_default-clause-complete
returns-in_default-clause-complete g c old start room within none = absurd (no_words (command_of c.args.words.now) old (g.S.Source.state c.args.source.now).rest (sym c.command_of.ensures ∙ none_by c.command_of.result c.in_default.not-Some) room)

pub returns-in_default-clause-isolated : goal.returns-in_default-clause-isolated
returns-in_default-clause-isolated g c old start run = absurd (some_none Run (sym run ∙ sym c.command_of.ensures ∙ none_by c.command_of.result c.in_default.not-Some))

-- Want of memory at the start.

pub returns-in_default-new-clause-says : goal.returns-in_default-new-clause-says
returns-in_default-new-clause-says g c old start = says_nothing (command_of c.args.words.now) old _ _ _ start.silent start.value

pub returns-in_default-new-clause-images : goal.returns-in_default-new-clause-images
returns-in_default-new-clause-images g c old start = idle (command_of c.args.words.now) old (g.H.Host.state c.args.host.now) (g.S.Source.state c.args.source.now) start

pub returns-in_default-new-clause-prompt : goal.returns-in_default-new-clause-prompt
returns-in_default-new-clause-prompt g c old start = prompt_idle old _ _

pub returns-in_default-new-clause-limit : goal.returns-in_default-new-clause-limit
returns-in_default-new-clause-limit g c run tells = takes_none _ _

pub returns-in_default-new-clause-isolated : goal.returns-in_default-new-clause-isolated
returns-in_default-new-clause-isolated g c old start run =
    let script = (g.S.Source.state c.args.source.now).rest in
    let host = g.H.Host.state c.args.host.now in
    tells_isolated old script script (said_of host) (value_on host) (command_of c.args.words.now) NoMemory run (returns-in_default-new-clause-says g c old start)

pub returns-in_default-new-clause-shut : goal.returns-in_default-new-clause-shut
returns-in_default-new-clause-shut g c tells none = record { untaken = refl; only = reads_nothing (g.H.Host.state c.args.host.now) }

-- The logs of publications.

pub returns-in-Run-clause-logs : goal.returns-in-Run-clause-logs
returns-in-Run-clause-logs g c old start =
    let host = g.H.Host.state c.args.host.now in
    let source = g.S.Source.state c.args.source.now in
    let mid = g.H.Host.state c.open.new.host in
    let kept = (silent_only c.open.ensures.only).content start.host_tells in
    let first = opened_first (command_of c.args.words.now) old host source start Run mid c.in-Ok-open.session kept (c.in-Ok-open.ensures.stands old start.host_tells start.settled start.value) (c.open.ensures.value start.host_tells (start.settled 0)) in
    logs_on _ _ _ old (opened_logs host mid old c.open.ensures.only start.host_tells start.value)
    (c.run_script.ensures.logs old (c.open.ensures.cause.tells ∙ start.host_tells) (subst (λ (k : Counts). IsAfter Run old [] mid k c.in-Ok-open.session) (sym c.new-summary.ensures) first))

pub returns-in-Gen-clause-logs : goal.returns-in-Gen-clause-logs
returns-in-Gen-clause-logs g c old start =
    let host = g.H.Host.state c.args.host.now in
    let source = g.S.Source.state c.args.source.now in
    let mid = g.H.Host.state c.open.new.host in
    let kept = (silent_only c.open.ensures.only).content start.host_tells in
    let first = opened_first (command_of c.args.words.now) old host source start (Gen c.in-Gen.creates) mid c.in-Ok-open.session kept (c.in-Ok-open.ensures.stands old start.host_tells start.settled start.value) (c.open.ensures.value start.host_tells (start.settled 0)) in
    logs_on _ _ _ old (opened_logs host mid old c.open.ensures.only start.host_tells start.value) (c.run_generated.ensures.logs old (c.open.ensures.cause.tells ∙ start.host_tells) first)

pub returns-in-Err-clause-logs : goal.returns-in-Err-clause-logs
returns-in-Err-clause-logs g c old start = opened_logs (g.H.Host.state c.args.host.now) (g.H.Host.state c.open.new.host) old c.open.ensures.only start.host_tells start.value

pub returns-in_default-clause-logs : goal.returns-in_default-clause-logs
returns-in_default-clause-logs g c old start = logs_idle old (g.H.Host.state c.args.host.now)

pub returns-in_default-new-clause-logs : goal.returns-in_default-new-clause-logs
returns-in_default-new-clause-logs g c old start = logs_idle old (g.H.Host.state c.args.host.now)

-- The files that no job of the run has.

pub returns-in-Run-clause-others : goal.returns-in-Run-clause-others
returns-in-Run-clause-others g c old start =
    let host = g.H.Host.state c.args.host.now in
    let source = g.S.Source.state c.args.source.now in
    let mid = g.H.Host.state c.open.new.host in
    let kept = (silent_only c.open.ensures.only).content start.host_tells in
    let first = opened_first (command_of c.args.words.now) old host source start Run mid c.in-Ok-open.session kept (c.in-Ok-open.ensures.stands old start.host_tells start.settled start.value) (c.open.ensures.value start.host_tells (start.settled 0)) in
    others_on old (others_opened host mid old c.open.ensures.only start.host_tells)
    (c.run_script.ensures.others old (c.open.ensures.cause.tells ∙ start.host_tells) (subst (λ (k : Counts). IsAfter Run old [] mid k c.in-Ok-open.session) (sym c.new-summary.ensures) first))

pub returns-in-Gen-clause-others : goal.returns-in-Gen-clause-others
returns-in-Gen-clause-others g c old start =
    let host = g.H.Host.state c.args.host.now in
    let source = g.S.Source.state c.args.source.now in
    let mid = g.H.Host.state c.open.new.host in
    let kept = (silent_only c.open.ensures.only).content start.host_tells in
    let first = opened_first (command_of c.args.words.now) old host source start (Gen c.in-Gen.creates) mid c.in-Ok-open.session kept (c.in-Ok-open.ensures.stands old start.host_tells start.settled start.value) (c.open.ensures.value start.host_tells (start.settled 0)) in
    others_on old (others_opened host mid old c.open.ensures.only start.host_tells) (c.run_generated.ensures.others old (c.open.ensures.cause.tells ∙ start.host_tells) first)

pub returns-in-Err-clause-others : goal.returns-in-Err-clause-others
returns-in-Err-clause-others g c old start = others_opened (g.H.Host.state c.args.host.now) (g.H.Host.state c.open.new.host) old c.open.ensures.only start.host_tells

pub returns-in_default-clause-others : goal.returns-in_default-clause-others
returns-in_default-clause-others g c old start = others_idle old (g.H.Host.state c.args.host.now)

pub returns-in_default-new-clause-others : goal.returns-in_default-new-clause-others
returns-in_default-new-clause-others g c old start = others_idle old (g.H.Host.state c.args.host.now)

-- File 0 at the end.

pub returns-in-Run-clause-rests : goal.returns-in-Run-clause-rests
returns-in-Run-clause-rests g c tells =
    rests_opened c.run_script.result (g.H.Host.state c.args.host.now) (g.H.Host.state c.run_script.new.host) c.run_script.ensures.lines (c.run_script.ensures.rests (c.open.ensures.cause.tells ∙ tells))

pub returns-in-Gen-clause-rests : goal.returns-in-Gen-clause-rests
returns-in-Gen-clause-rests g c tells =
    rests_opened c.run_generated.result (g.H.Host.state c.args.host.now) (g.H.Host.state c.run_generated.new.host) c.run_generated.ensures.lines (c.run_generated.ensures.rests (c.open.ensures.cause.tells ∙ tells))

pub returns-in-Err-clause-rests : goal.returns-in-Err-clause-rests
returns-in-Err-clause-rests g c tells =
    let host = g.H.Host.state c.args.host.now in
    let mid = g.H.Host.state c.open.new.host in
    subst (λ (s : Status). Rests s host mid) (sym c.unopened.ensures)
    (rests_unopened c.in-Err.fault host mid tells (λ is. c.open.ensures.refused (c.in-Err.is ∙ ap Err is)) (λ place is. c.open.ensures.broken place (c.in-Err.is ∙ ap Err is)) (λ is. c.open.ensures.unwritten (c.in-Err.is ∙ ap Err is)))

pub returns-in_default-clause-rests : goal.returns-in_default-clause-rests
returns-in_default-clause-rests g c tells = file_idle 0 (g.H.Host.state c.args.host.now)

pub returns-in_default-new-clause-rests : goal.returns-in_default-new-clause-rests
returns-in_default-new-clause-rests g c tells = inr (file_idle 0 (g.H.Host.state c.args.host.now))
