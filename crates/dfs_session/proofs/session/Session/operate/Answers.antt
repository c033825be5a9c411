use Rattle.std.proofs.Common.{inl, ◌≡◌, ◌∙◌, ℕ, Option, Result, Err, refl, sym, ap, subst, map, arith, length}
use Rattle.std.proofs.lemmas.Result.{err_from_is_err_and}
use Rattle.std.specs.BTreeMap.{BTreeMap}
use Rattle.std.specs.Global.{Vec}
use Rattle.std.specs.Prelude.{◌<◌, ◌+◌, IfOk, IsSomeAnd}
use Rattle.dfs_host.specs.Fault.{HasFaultCause}
use Rattle.dfs_host.specs.declared.fault.Fault.{Fault}
use Rattle.dfs_host.specs.declared.fault.Fault.TheVariants.{Disk, LogFull}
use Rattle.dfs_host.proofs.Causes.{none_yet, none_by}
use Rattle.dfs_ops.specs.declared.OpReply.{OpReply}
use Rattle.dfs_reply.specs.declared.Reply.{Reply}
use Rattle.dfs_reply.specs.declared.Reply.TheVariants.{Error}
use Rattle.dfs_reply.specs.declared.Word.TheVariants as word
use Rattle.dfs_reply.specs.Text.{text}
use Rattle.dfs_script.specs.declared.JobWord.{JobWord}
use Rattle.dfs_job.specs.declared.job.Job.{Job as LiveJob}
use Rattle.dfs_job.specs.Job.{Job, after, does}
use Rattle.dfs_session.specs.Session.{of_live, operates, told}
use Rattle.dfs_session.specs.Worked.{IsShort, IsWorked, operating, with_op}
use Rattle.dfs_session.proofs.Changing.{answered_worked, changed_stands, fault_worked, found_job, no_job, past_of, was_live, was_sound}
use Rattle.dfs_session.proofs.Handed.{none_unless, told_no_job}
use Rattle.dfs_session.proofs.Selecting.{no_fault}
use Rattle.dfs_session.proofs.Working.{stays_in_memory}
use Rattle.dfs_session.proofs.Writing.{own_written}
use Rattle.dfs_host.proofs.Moments.{reads_nothing}
use Rattle.dfs_job.specs.Job.{namespace_of}
use Rattle.dfs_session.specs.Worked.{IsSeen}
use Rattle.dfs_session.proofs.Looking.{none_made, room_for}
use Rattle.dfs_host.specs.Host.{OnlyReads}
use Rattle.dfs_session.proofs.session.Session.operate.Goals as goal

pub op-requires-clause-sound : goal.op-requires-clause-sound
op-requires-clause-sound g c =
    let host = g.H.Host.state c.args.host.now in
    was_sound host host c.args.self.now c.args.word.now c.in-Some.job.now c.requires.sound (sym c.in-Some.ensures.value)

pub returns-in_default-clause-worked : goal.returns-in_default-clause-worked
returns-in_default-clause-worked g c =
    let session = c.args.self.now in
    let host = g.H.Host.state c.args.host.now in
    let w = c.args.word.now in
    let op = c.args.op.now in
    stays_in_memory host session c.get_mut.follows.lender-at-none (operating w op) (Error word.NoJob) c.text_of.result (ap (λ (m : BTreeMap JobWord LiveJob). m.entries) c.get_mut.follows.holds-at-none) refl c.requires.sound
    (λ s tells stands. ap (λ (o : Option Job). of_live o s (λ j. operates s w j (does j op))) (no_job host session s w stands (sym c.in_default.ensures.value)))
    c.text_of.ensures.text c.text_of.ensures.memory

pub returns-in_err-answer-clause-worked : goal.returns-in_err-answer-clause-worked
returns-in_err-answer-clause-worked g c =
    let session = c.args.self.now in
    let before = g.H.Host.state c.args.host.now in
    let after = g.H.Host.state c.op.new.host in
    let w = c.args.word.now in
    let op = c.args.op.now in
    let live = c.in-Some.job.now in
    let found = sym c.in-Some.ensures.value in
    let x = c.op.new.self in
    let fault = c.in_err-answer.field-0.0 in
    let was = c.in_err-answer.was in
    let p = err_from_is_err_and c.from_residual.result c.from_residual.ensures.1 in
    let same : c.from_residual.result ≡ Err fault = p.1 ∙ ap Err p.2 in
    subst (λ (r : Result (Vec ℕ) Fault). IsWorked (operating w op) before after session (record session { jobs = c.get_mut.follows.lender x }) r) (sym same)
    (fault_worked before after session w live c.requires.sound found c.op.ensures.only x (c.get_mut.follows.lender x) (c.get_mut.follows.holds x).0 (operating w op) fault refl (own_written session w live found)
    (subst (λ (r : Result OpReply Fault). HasFaultCause before after r) was c.op.ensures.cause) (λ is. inl (c.op.ensures.full.0 (was ∙ is))) (past_of before after session w live c.requires.sound found x c.op.ensures.settings c.op.ensures.past) (λ some. sym was ∙ c.op.ensures.full.1 some)
    (λ s tells stands is.
    let f = found_job before session s w live stands found in
    subst (λ (o : Option Job). IsShort (with_op op o)) (sym f.found) (c.op.ensures.short f.plain tells f.is (was ∙ ap Err is)))
    (λ s tells stands is. inl (c.op.ensures.full.0 (was ∙ ap Err is))))

pub returns-clause-worked : goal.returns-clause-worked
returns-clause-worked g c =
    let session = c.args.self.now in
    let before = g.H.Host.state c.args.host.now in
    let after_op = g.H.Host.state c.op.new.host in
    let w = c.args.word.now in
    let op = c.args.op.now in
    let live = c.in-Some.job.now in
    let found = sym c.in-Some.ensures.value in
    let x = c.op.new.self in
    let jobs = c.get_mut.follows.lender x in
    let set = (c.get_mut.follows.holds x).0 in
    let of = c.in_ok-answer.ensures in
    let answer = c.in_ok-answer.answer in
    let ok = no_fault c.op.result answer in
    answered_worked before after_op session w live c.requires.sound found c.op.ensures.only x jobs set (operating w op) (λ s f. operates s w f.plain (does f.plain op)) c.text_of-2.result (none_by (none_yet before) c.op.ensures.cause (ok Disk c.in_ok-answer.was))
    (none_unless x.layers.log.refused (λ some. ok LogFull c.in_ok-answer.was (c.op.ensures.full.1 some))) refl of.sound of.number (inl (ap (map (λ c. c.value)) c.op.ensures.basis))
    (λ s f. ap (λ (o : Option Job). of_live o s (λ j. operates s w j (does j op))) f.found) (λ s f. refl)
    (λ s f tells. subst (λ (a : OpReply). IfOk c.text_of-2.result (λ bytes. bytes.items ≡ text (told a))) (of.answer f.plain tells f.is) (subst (λ (r : Reply). IfOk c.text_of-2.result (λ bytes. bytes.items ≡ text r)) c.told.ensures c.text_of-2.ensures.text))
    (λ s f tells stands. changed_stands before after_op session w live c.requires.sound found c.op.ensures.only x jobs set s (after f.plain (does f.plain op)) tells stands (of.stands f.plain tells f.is)) c.text_of-2.ensures.memory (λ quiet. quiet) (own_written session w live found)

pub returns-in_default-clause-at_once : goal.returns-in_default-clause-at_once
returns-in_default-clause-at_once g c = λ s tells stands is. (c.text_of.ensures.memory, refl)

pub returns-in_err-answer-clause-at_once : goal.returns-in_err-answer-clause-at_once
returns-in_err-answer-clause-at_once g c = λ s tells stands is.
    let before = g.H.Host.state c.args.host.now in
    let session = c.args.self.now in
    let w = c.args.word.now in
    let live = c.in-Some.job.now in
    let found = sym c.in-Some.ensures.value in
    let f = found_job before session s w live stands found in
    let op = c.args.op.now in
    absurd (told_no_job (does f.plain op).answer (sym (ap (λ (o : Option Job). (of_live o s (λ j. operates s w j (does j op))).reply) f.found) ∙ is))

pub returns-clause-at_once : goal.returns-clause-at_once
returns-clause-at_once g c = λ s tells stands is.
    let before = g.H.Host.state c.args.host.now in
    let session = c.args.self.now in
    let w = c.args.word.now in
    let live = c.in-Some.job.now in
    let found = sym c.in-Some.ensures.value in
    let f = found_job before session s w live stands found in
    let op = c.args.op.now in
    absurd (told_no_job (does f.plain op).answer (sym (ap (λ (o : Option Job). (of_live o s (λ j. operates s w j (does j op))).reply) f.found) ∙ is))

pub returns-in_default-clause-looks : goal.returns-in_default-clause-looks
returns-in_default-clause-looks g c = λ s tells stands is. reads_nothing (g.H.Host.state c.args.host.now)

pub returns-in_err-answer-clause-looks : goal.returns-in_err-answer-clause-looks
returns-in_err-answer-clause-looks g c = λ s tells stands is.
    let before = g.H.Host.state c.args.host.now in
    let session = c.args.self.now in
    let w = c.args.word.now in
    let live = c.in-Some.job.now in
    let f = found_job before session s w live stands (sym c.in-Some.ensures.value) in
    let op = c.args.op.now in
    let none = none_made (namespace_of f.plain) f.plain.ids op (subst (λ (o : Option Job). IsSeen (of_live o s (λ j. operates s w j (does j op))).reply) f.found is) in
    subst (OnlyReads before) (sym (c.op.ensures.room f.plain tells f.is (omega (arith, ap length none, (was_live before before session w live c.requires.sound (sym c.in-Some.ensures.value)).fit.layers.room))).idle) (reads_nothing before)

pub returns-clause-looks : goal.returns-clause-looks
returns-clause-looks g c = λ s tells stands is.
    let before = g.H.Host.state c.args.host.now in
    let session = c.args.self.now in
    let w = c.args.word.now in
    let live = c.in-Some.job.now in
    let f = found_job before session s w live stands (sym c.in-Some.ensures.value) in
    let op = c.args.op.now in
    let none = none_made (namespace_of f.plain) f.plain.ids op (subst (λ (o : Option Job). IsSeen (of_live o s (λ j. operates s w j (does j op))).reply) f.found is) in
    subst (OnlyReads before) (sym (c.op.ensures.room f.plain tells f.is (omega (arith, ap length none, (was_live before before session w live c.requires.sound (sym c.in-Some.ensures.value)).fit.layers.room))).idle) (reads_nothing before)

pub returns-in_default-clause-idle : goal.returns-in_default-clause-idle
returns-in_default-clause-idle g c = λ s tells stands fits. refl

pub returns-in_err-answer-clause-idle : goal.returns-in_err-answer-clause-idle
returns-in_err-answer-clause-idle g c = λ s tells stands fits.
    let before = g.H.Host.state c.args.host.now in
    let session = c.args.self.now in
    let w = c.args.word.now in
    let live = c.in-Some.job.now in
    let f = found_job before session s w live stands (sym c.in-Some.ensures.value) in
    (c.op.ensures.room f.plain tells f.is (room_for before live f.plain c.args.op.now (was_live before before session w live c.requires.sound (sym c.in-Some.ensures.value)).fit f.is
    (subst (λ (o : Option Job). IsSomeAnd o (λ j. length j.layers.open_ + length (does j c.args.op.now).records < j.settings.buffer)) f.found fits))).idle

pub returns-clause-idle : goal.returns-clause-idle
returns-clause-idle g c = λ s tells stands fits.
    let before = g.H.Host.state c.args.host.now in
    let session = c.args.self.now in
    let w = c.args.word.now in
    let live = c.in-Some.job.now in
    let f = found_job before session s w live stands (sym c.in-Some.ensures.value) in
    (c.op.ensures.room f.plain tells f.is (room_for before live f.plain c.args.op.now (was_live before before session w live c.requires.sound (sym c.in-Some.ensures.value)).fit f.is
    (subst (λ (o : Option Job). IsSomeAnd o (λ j. length j.layers.open_ + length (does j c.args.op.now).records < j.settings.buffer)) f.found fits))).idle
