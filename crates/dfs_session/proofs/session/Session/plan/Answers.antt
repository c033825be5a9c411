use Rattle.std.proofs.Common.{inl, inr, ◌≡◌, ◌∙◌, ℕ, Option, Result, Err, refl, sym, ap, subst, map}
use Rattle.std.proofs.lemmas.Result.{err_from_is_err_and}
use Rattle.std.specs.BTreeMap.{BTreeMap}
use Rattle.std.specs.Global.{Vec}
use Rattle.std.specs.Prelude.{IfOk}
use Rattle.dfs_host.specs.Fault.{HasFaultCause}
use Rattle.dfs_host.specs.declared.fault.Fault.{Fault}
use Rattle.dfs_host.specs.declared.fault.Fault.TheVariants.{Disk, LogFull}
use Rattle.dfs_host.proofs.Causes.{none_yet, none_by}
use Rattle.dfs_reply.specs.declared.Reply.{Reply}
use Rattle.dfs_reply.specs.declared.Reply.TheVariants.{Error}
use Rattle.dfs_reply.specs.declared.Word.TheVariants as word
use Rattle.dfs_reply.specs.Text.{text}
use Rattle.dfs_script.specs.declared.JobWord.{JobWord}
use Rattle.dfs_job.specs.declared.job.Job.{Job as LiveJob}
use Rattle.dfs_job.specs.declared.answers.Planned.{Planned}
use Rattle.dfs_job.specs.Job.{Job, after_plan, plan_answer}
use Rattle.dfs_job.specs.Parted.{IsRefusedPlan}
use Rattle.dfs_job.proofs.Refused.{why_no_plan}
use Rattle.dfs_session.specs.Session.{of_live, plans_with, told_of_plan}
use Rattle.dfs_session.specs.Worked.{IsError, IsShort, IsWorked, planning, with_plan_made}
use Rattle.dfs_session.proofs.Changing.{answered_worked, changed_stands, fault_worked, found_job, no_job, parts_within, past_of, plan_short, was_live, was_sound}
use Rattle.dfs_session.proofs.Handed.{none_unless, plan_error}
use Rattle.dfs_session.proofs.Selecting.{no_fault}
use Rattle.dfs_session.proofs.Working.{stays_in_memory}
use Rattle.dfs_session.proofs.Writing.{own_written}
use Rattle.dfs_session.proofs.session.Session.plan.Goals as goal

pub plan-requires-clause-sound : goal.plan-requires-clause-sound
plan-requires-clause-sound g c =
    let host = g.H.Host.state c.args.host.now in
    was_sound host host c.args.self.now c.args.word.now c.in-Some.job.now c.requires.sound (sym c.in-Some.ensures.value)

pub plan-requires-clause-parts : goal.plan-requires-clause-parts
plan-requires-clause-parts g c = parts_within c.args.parts c.requires.parts

pub returns-in_default-clause-worked : goal.returns-in_default-clause-worked
returns-in_default-clause-worked g c =
    let session = c.args.self.now in
    let host = g.H.Host.state c.args.host.now in
    let w = c.args.word.now in
    stays_in_memory host session c.get_mut.follows.lender-at-none (planning w c.args.scope c.args.parts) (Error word.NoJob) c.text_of.result (ap (λ (m : BTreeMap JobWord LiveJob). m.entries) c.get_mut.follows.holds-at-none) refl c.requires.sound
    (λ s tells stands. ap (λ (o : Option Job). of_live o s (λ j. plans_with s w j c.args.scope c.args.parts)) (no_job host session s w stands (sym c.in_default.ensures.value)))
    c.text_of.ensures.text c.text_of.ensures.memory

pub returns-in_err-answer-clause-worked : goal.returns-in_err-answer-clause-worked
returns-in_err-answer-clause-worked g c =
    let session = c.args.self.now in
    let before = g.H.Host.state c.args.host.now in
    let after = g.H.Host.state c.plan.new.host in
    let w = c.args.word.now in
    let work = planning w c.args.scope c.args.parts in
    let live = c.in-Some.job.now in
    let found = sym c.in-Some.ensures.value in
    let x = c.plan.new.self in
    let fault = c.in_err-answer.field-0.0 in
    let was = c.in_err-answer.was in
    let p = err_from_is_err_and c.from_residual.result c.from_residual.ensures.1 in
    let same : c.from_residual.result ≡ Err fault = p.1 ∙ ap Err p.2 in
    subst (λ (r : Result (Vec ℕ) Fault). IsWorked work before after session (record session { jobs = c.get_mut.follows.lender x }) r) (sym same)
    (fault_worked before after session w live c.requires.sound found c.plan.ensures.only x (c.get_mut.follows.lender x) (c.get_mut.follows.holds x).0 work fault refl (own_written session w live found)
    (subst (λ (r : Result Planned Fault). HasFaultCause before after r) was c.plan.ensures.cause) (λ is. inl (c.plan.ensures.full.0 (was ∙ is))) (past_of before after session w live c.requires.sound found x c.plan.ensures.settings c.plan.ensures.past) (λ some. sym was ∙ c.plan.ensures.full.1 some)
    (λ s tells stands is.
    let f = found_job before session s w live stands found in
    subst (λ (o : Option Job). IsShort (with_plan_made c.args.scope c.args.parts o)) (sym f.found) (plan_short f.plain c.args.scope c.args.parts (c.plan.ensures.short f.plain tells f.is (was ∙ ap Err is))))
    (λ s tells stands is. inl (c.plan.ensures.full.0 (was ∙ ap Err is))))

pub returns-clause-worked : goal.returns-clause-worked
returns-clause-worked g c =
    let session = c.args.self.now in
    let before = g.H.Host.state c.args.host.now in
    let after = g.H.Host.state c.plan.new.host in
    let w = c.args.word.now in
    let scope = c.args.scope in
    let parts = c.args.parts in
    let live = c.in-Some.job.now in
    let found = sym c.in-Some.ensures.value in
    let x = c.plan.new.self in
    let jobs = c.get_mut.follows.lender x in
    let set = (c.get_mut.follows.holds x).0 in
    let of = c.in_ok-answer.ensures in
    let answer = c.in_ok-answer.answer in
    let ok = no_fault c.plan.result answer in
    answered_worked before after session w live c.requires.sound found c.plan.ensures.only x jobs set (planning w scope parts) (λ s f. plans_with s w f.plain scope parts) c.text_of-2.result
    (none_by (none_yet before) c.plan.ensures.cause (ok Disk c.in_ok-answer.was)) (none_unless x.layers.log.refused (λ some. ok LogFull c.in_ok-answer.was (c.plan.ensures.full.1 some))) refl of.sound (ap (λ (n : _). n.job) c.plan.ensures.number)
    (inl (ap (map (λ c. c.value)) c.plan.ensures.basis))
    (λ s f. ap (λ (o : Option Job). of_live o s (λ j. plans_with s w j scope parts)) f.found) (λ s f. refl)
    (λ s f tells. subst (λ (a : Planned). IfOk c.text_of-2.result (λ bytes. bytes.items ≡ text (told_of_plan a))) (of.answer f.plain tells f.is) (subst (λ (r : Reply). IfOk c.text_of-2.result (λ bytes. bytes.items ≡ text r)) c.told_of_plan.ensures c.text_of-2.ensures.text))
    (λ s f tells stands. changed_stands before after session w live c.requires.sound found c.plan.ensures.only x jobs set s (after_plan f.plain scope parts) tells stands (of.stands f.plain tells f.is)) c.text_of-2.ensures.memory (λ quiet. quiet) (own_written session w live found)

pub returns-in_default-clause-at_once : goal.returns-in_default-clause-at_once
returns-in_default-clause-at_once g c = λ s tells stands is. (c.text_of.ensures.memory, refl)

pub returns-in_err-answer-clause-at_once : goal.returns-in_err-answer-clause-at_once
returns-in_err-answer-clause-at_once g c = λ s tells stands is.
    let before = g.H.Host.state c.args.host.now in
    let session = c.args.self.now in
    let w = c.args.word.now in
    let live = c.in-Some.job.now in
    let found = sym c.in-Some.ensures.value in
    let f = found_job before session s w live stands found in
    let refused = plan_error (plan_answer f.plain) (subst IsError (ap (λ (o : Option Job). (of_live o s (λ j. plans_with s w j c.args.scope c.args.parts)).reply) f.found) is) in
    let fit = (was_live before before session w live c.requires.sound found).fit in
    elim (why_no_plan before live f.plain fit f.is refused) [
      | inl some ↦ absurd (cc (c.plan.ensures.busy.1 some, c.in_err-answer.was))
      | inr most ↦ absurd (cc (c.plan.ensures.most.1 most, c.in_err-answer.was))
    ]

pub returns-clause-at_once : goal.returns-clause-at_once
returns-clause-at_once g c = λ s tells stands is.
    let before = g.H.Host.state c.args.host.now in
    let session = c.args.self.now in
    let w = c.args.word.now in
    let live = c.in-Some.job.now in
    let found = sym c.in-Some.ensures.value in
    let f = found_job before session s w live stands found in
    let refused = plan_error (plan_answer f.plain) (subst IsError (ap (λ (o : Option Job). (of_live o s (λ j. plans_with s w j c.args.scope c.args.parts)).reply) f.found) is) in
    let of = c.in_ok-answer.ensures in
    (c.text_of-2.ensures.memory, (of.refused (subst IsRefusedPlan (sym (of.answer f.plain tells f.is)) refused)).1)
