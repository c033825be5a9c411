use Rattle.std.proofs.Common.{inl, inr, ◌≡◌, ◌∙◌, ℕ, Option, Result, Err, refl, sym, ap, subst}
use Rattle.std.proofs.lemmas.Result.{err_from_is_err_and}
use Rattle.std.specs.BTreeMap.{BTreeMap}
use Rattle.std.specs.Global.{Vec}
use Rattle.std.specs.Prelude.{IfOk}
use Rattle.dfs_host.specs.Fault.{HasFaultCause}
use Rattle.dfs_host.specs.declared.fault.Fault.{Fault}
use Rattle.dfs_host.specs.declared.fault.Fault.TheVariants.{Disk, LogFull}
use Rattle.dfs_host.proofs.Causes.{none_yet, none_by}
use Rattle.dfs_reply.specs.declared.Reply.{Reply}
use Rattle.dfs_reply.specs.declared.Reply.TheVariants.{Error}
use Rattle.dfs_reply.specs.declared.Word.TheVariants as word
use Rattle.dfs_reply.specs.Text.{text}
use Rattle.dfs_script.specs.declared.JobWord.{JobWord}
use Rattle.dfs_job.specs.declared.job.Job.{Job as LiveJob}
use Rattle.dfs_job.specs.declared.answers.JobPart.{JobPart}
use Rattle.dfs_job.specs.Job.{Job, after_part, part_answer}
use Rattle.dfs_job.specs.Parted.{IsRefusedPart}
use Rattle.dfs_job.proofs.Refused.{why_no_part}
use Rattle.dfs_job.specs.Stands.{merges_too_many}
use Rattle.dfs_session.specs.Session.{live_job, merges_with, of_live, told_of_part}
use Rattle.dfs_session.specs.Worked.{IsError, IsShort, IsWorked, PartPasses, merging}
use Rattle.dfs_session.proofs.Changing.{answered_worked, changed_stands, fault_worked, found_job, left_basis, no_job, part_passed, part_passes, past_of, so_of_job, was_live, was_sound}
use Rattle.dfs_session.proofs.Handed.{none_unless, part_error}
use Rattle.dfs_session.proofs.Selecting.{no_fault}
use Rattle.dfs_session.proofs.Working.{on_ok_by, stays_in_memory}
use Rattle.dfs_session.proofs.Writing.{own_written}
use Rattle.dfs_session.proofs.session.Session.part.Goals as goal

pub part-requires : goal.part-requires
part-requires g c =
    let host = g.H.Host.state c.args.host.now in
    record { sound = was_sound host host c.args.self.now c.args.word.now c.in-Some.job.now c.requires (sym c.in-Some.ensures.value) }

pub returns-in_default-clause-worked : goal.returns-in_default-clause-worked
returns-in_default-clause-worked g c =
    let session = c.args.self.now in
    let host = g.H.Host.state c.args.host.now in
    let w = c.args.word.now in
    stays_in_memory host session c.get_mut.follows.lender-at-none (merging w c.args.part) (Error word.NoJob) c.text_of.result (ap (λ (m : BTreeMap JobWord LiveJob). m.entries) c.get_mut.follows.holds-at-none) refl c.requires
    (λ s tells stands. ap (λ (o : Option Job). of_live o s (λ j. merges_with s w j c.args.part)) (no_job host session s w stands (sym c.in_default.ensures.value)))
    c.text_of.ensures.text c.text_of.ensures.memory

pub returns-in_err-answer-clause-worked : goal.returns-in_err-answer-clause-worked
returns-in_err-answer-clause-worked g c =
    let session = c.args.self.now in
    let before = g.H.Host.state c.args.host.now in
    let after = g.H.Host.state c.part.new.host in
    let w = c.args.word.now in
    let work = merging w c.args.part in
    let live = c.in-Some.job.now in
    let found = sym c.in-Some.ensures.value in
    let x = c.part.new.self in
    let fault = c.in_err-answer.field-0.0 in
    let was = c.in_err-answer.was in
    let p = err_from_is_err_and c.from_residual.result c.from_residual.ensures.1 in
    let same : c.from_residual.result ≡ Err fault = p.1 ∙ ap Err p.2 in
    subst (λ (r : Result (Vec ℕ) Fault). IsWorked work before after session (record session { jobs = c.get_mut.follows.lender x }) r) (sym same)
    (fault_worked before after session w live c.requires found c.part.ensures.only x (c.get_mut.follows.lender x) (c.get_mut.follows.holds x).0 work fault refl (own_written session w live found)
    (subst (λ (r : Result JobPart Fault). HasFaultCause before after r) was c.part.ensures.cause) (λ is. so_of_job session w live merges_too_many found (c.part.ensures.full (was ∙ is))) (past_of before after session w live c.requires found x c.part.ensures.settings c.part.ensures.past) (λ some. sym was ∙ c.part.ensures.refuses some)
    (λ s tells stands is.
    let f = found_job before session s w live stands found in
    subst IsShort (sym f.found) (c.part.ensures.short f.plain tells f.is (was ∙ ap Err is)))
    (λ s tells stands is. let f = found_job before session s w live stands found in part_passed before after session w live c.requires found s f c.args.part (c.part.ensures.passes f.plain tells f.is (was ∙ ap Err is))))

pub returns-clause-worked : goal.returns-clause-worked
returns-clause-worked g c =
    let session = c.args.self.now in
    let before = g.H.Host.state c.args.host.now in
    let after = g.H.Host.state c.part.new.host in
    let w = c.args.word.now in
    let part = c.args.part in
    let live = c.in-Some.job.now in
    let found = sym c.in-Some.ensures.value in
    let x = c.part.new.self in
    let jobs = c.get_mut.follows.lender x in
    let set = (c.get_mut.follows.holds x).0 in
    let of = c.in_ok-answer.ensures in
    let answer = c.in_ok-answer.answer in
    let ok = no_fault c.part.result answer in
    answered_worked before after session w live c.requires found c.part.ensures.only x jobs set (merging w part) (λ s f. merges_with s w f.plain part) c.text_of-2.result
    (none_by (none_yet before) c.part.ensures.cause (ok Disk c.in_ok-answer.was)) (none_unless x.layers.log.refused (λ some. ok LogFull c.in_ok-answer.was (c.part.ensures.refuses some))) refl of.sound (ap (λ (n : _). n.job) c.part.ensures.number)
    (left_basis live x c.part.ensures.basis)
    (λ s f. ap (λ (o : Option Job). of_live o s (λ j. merges_with s w j part)) f.found) (λ s f. refl)
    (λ s f tells. subst (λ (a : JobPart). IfOk c.text_of-2.result (λ bytes. bytes.items ≡ text (told_of_part a))) (of.answer f.plain tells f.is) (subst (λ (r : Reply). IfOk c.text_of-2.result (λ bytes. bytes.items ≡ text r)) c.told_of_part.ensures c.text_of-2.ensures.text))
    (λ s f tells stands. changed_stands before after session w live c.requires found c.part.ensures.only x jobs set s (after_part f.plain part) tells stands (of.stands f.plain tells f.is)) c.text_of-2.ensures.memory (λ quiet. quiet) (own_written session w live found)

pub returns-in_default-clause-too_many : goal.returns-in_default-clause-too_many
returns-in_default-clause-too_many g c = λ s tells stands many. absurd (subst (λ (o : Option LiveJob). PartPasses o (live_job s c.args.word.now) c.args.part) (sym c.in_default.ensures.value) many)

pub returns-clause-too_many : goal.returns-clause-too_many
returns-clause-too_many g c = λ s tells stands many.
    let before = g.H.Host.state c.args.host.now in
    let session = c.args.self.now in
    let w = c.args.word.now in
    let live = c.in-Some.job.now in
    let found = sym c.in-Some.ensures.value in
    let f = found_job before session s w live stands found in
    on_ok_by c.text_of-2.result ⊥ ⊥ (λ never. never) (absurd (c.in_ok-answer.ensures.too_many f.plain tells f.is (part_passes before before session w live c.requires found s f c.args.part many)))

pub returns-in_default-clause-at_once : goal.returns-in_default-clause-at_once
returns-in_default-clause-at_once g c = λ s tells stands is. (c.text_of.ensures.memory, refl)

pub returns-in_err-answer-clause-at_once : goal.returns-in_err-answer-clause-at_once
returns-in_err-answer-clause-at_once g c = λ s tells stands is.
    let before = g.H.Host.state c.args.host.now in
    let session = c.args.self.now in
    let w = c.args.word.now in
    let live = c.in-Some.job.now in
    let found = sym c.in-Some.ensures.value in
    let f = found_job before session s w live stands found in
    let refused = part_error (part_answer f.plain c.args.part) (subst IsError (ap (λ (o : Option Job). (of_live o s (λ j. merges_with s w j c.args.part)).reply) f.found) is) in
    let fit = (was_live before before session w live c.requires found).fit in
    let was = c.in_err-answer.was in
    elim (why_no_part before live f.plain c.args.part fit f.is refused) [
      | inl none ↦ absurd (cc (c.part.ensures.no_plan.1 none, was))
      | inr (inl past) ↦ absurd (cc (c.part.ensures.range.1 past, was))
      | inr (inr merged) ↦ absurd (cc (c.part.ensures.done.1 merged, was))
    ]

pub returns-clause-at_once : goal.returns-clause-at_once
returns-clause-at_once g c = λ s tells stands is.
    let before = g.H.Host.state c.args.host.now in
    let session = c.args.self.now in
    let w = c.args.word.now in
    let live = c.in-Some.job.now in
    let found = sym c.in-Some.ensures.value in
    let f = found_job before session s w live stands found in
    let refused = part_error (part_answer f.plain c.args.part) (subst IsError (ap (λ (o : Option Job). (of_live o s (λ j. merges_with s w j c.args.part)).reply) f.found) is) in
    let of = c.in_ok-answer.ensures in
    (c.text_of-2.ensures.memory, (of.refused (subst IsRefusedPart (sym (of.answer f.plain tells f.is)) refused)).1)
