use Rattle.std.proofs.Common.{◌∙◌, ◌+◌, Ok, Err, ap, sym, subst}
use Rattle.std.specs.Prelude.{IsErrOf}
use Rattle.dfs_host.specs.declared.fault.Fault.TheVariants.{LogFull}
use Rattle.std.proofs.lemmas.Result.{err_from_is_err_and}
use Rattle.dfs_host.specs.Host.{Only}
use Rattle.dfs_job.specs.Job.{merged_as}
use Rattle.dfs_job.specs.Parted.{IsRefusedPart}
use Rattle.dfs_job.specs.Stands.{JobStands}
use Rattle.dfs_job.proofs.Merges.{answered, done_of_plan, part_answers, part_full, part_never, part_passes, part_shorts, part_stands, range_of_plan, refused_stays, some_plan, with_state}
use Rattle.dfs_job.proofs.job.Job.merge.Goals as goal

pub returns-in_err-parted-clause-full : goal.returns-in_err-parted-clause-full
returns-in_err-parted-clause-full g c is =
    let p = err_from_is_err_and c.from_residual.result c.from_residual.ensures.1 in
    part_full c.args.self.now c.in-Some.plan c.requires.fit (sym c.take.ensures.value ∙ c.in-Some.is) (c.part.ensures.full (cc (is, c.in_err-parted.was, p.1, p.2)))

pub returns-in_err-parted-clause-short : goal.returns-in_err-parted-clause-short
returns-in_err-parted-clause-short g c = λ j tells stands is.
    let p = err_from_is_err_and c.from_residual.result c.from_residual.ensures.1 in
    let full : IsErrOf c.part.result LogFull = cc (is, c.in_err-parted.was, p.1, p.2) in
    part_shorts c.args.self.now c.in-Some.plan c.requires.fit (sym c.take.ensures.value ∙ c.in-Some.is) (g.H.Host.state c.args.host.now) j stands c.part.new.log.limit (c.part.new.log.len + c.part.new.log.refused) c.part.ensures.log_same.1
    (λ ds held. c.part.ensures.growth_of_all ds tells held) (λ ds held. c.part.ensures.overfull ds tells held full) c.part.ensures.over

pub returns-clause-answer : goal.returns-clause-answer
returns-clause-answer g c = λ j tells stands.
    c.answer_of.ensures
    ∙ part_answers c.args.self.now c.in-Some.plan c.requires.fit (sym c.take.ensures.value ∙ c.in-Some.is) (g.H.Host.state c.args.host.now) j stands c.part.new.self c.args.part c.part.result c.part.ensures.range c.part.ensures.done c.part.ensures.last c.part.ensures.merged
    c.in_ok-parted.parted c.in_ok-parted.was c.in_ok-parted.ensures.added

pub returns-clause-stands : goal.returns-clause-stands
returns-clause-stands g c = λ j tells stands.
    let of = c.in_ok-parted.ensures in
    subst (λ a. JobStands (g.H.Host.state c.part.new.host) (with_state c.args.self.now c.part.new.log c.in-Some.plan c.part.new.self) (merged_as a j c.args.part)) (sym c.answer_of.ensures)
    (part_stands c.args.self.now c.in-Some.plan c.requires.fit (sym c.take.ensures.value ∙ c.in-Some.is) (g.H.Host.state c.args.host.now) j stands c.part.new.self c.part.new.log (g.H.Host.state c.part.new.host) c.args.part c.in_ok-parted.parted tells
    (subst (λ n. Only n (g.H.Host.state c.args.host.now) (g.H.Host.state c.part.new.host)) c.requires.fit.file of.only) of.log_same.0 (of.log tells) (of.before tells) of.refused of.added (λ ds held. of.stands ds tells held) of.growth of.most_of_all)

pub returns-in_err-parted-clause-passes : goal.returns-in_err-parted-clause-passes
returns-in_err-parted-clause-passes g c = λ j tells stands is.
    let p = err_from_is_err_and c.from_residual.result c.from_residual.ensures.1 in
    part_passes c.args.self.now c.in-Some.plan c.requires.fit (sym c.take.ensures.value ∙ c.in-Some.is) (g.H.Host.state c.args.host.now) j stands c.args.part c.part.result c.in_err-parted.field-0.0 c.in_err-parted.was c.part.ensures.range c.part.ensures.done
    (λ ds held. c.part.ensures.passes ds tells held (cc (is, c.in_err-parted.was, p.1, p.2)))

pub returns-clause-too_many : goal.returns-clause-too_many
returns-clause-too_many g c = λ j tells stands many.
    part_never c.args.self.now c.in-Some.plan c.requires.fit (sym c.take.ensures.value ∙ c.in-Some.is) (g.H.Host.state c.args.host.now) j stands c.args.part c.in_ok-parted.parted c.part.result c.in_ok-parted.was c.part.ensures.range c.part.ensures.done
    (λ ds held past. c.in_ok-parted.ensures.too_many ds tells held past) many

pub returns-clause-range : goal.returns-clause-range
returns-clause-range g c =
    range_of_plan c.part.result (Ok c.answer_of.result) (ap Ok c.answer_of.ensures ∙ ap answered (sym c.in_ok-parted.was)) c.args.self.now.plan c.in-Some.plan (sym c.take.ensures.value ∙ c.in-Some.is) c.args.part c.part.ensures.range

pub returns-clause-done : goal.returns-clause-done
returns-clause-done g c =
    done_of_plan c.part.result (Ok c.answer_of.result) (ap Ok c.answer_of.ensures ∙ ap answered (sym c.in_ok-parted.was)) c.args.self.now.plan c.in-Some.plan (sym c.take.ensures.value ∙ c.in-Some.is) c.args.part c.part.ensures.done

pub returns-clause-planned : goal.returns-clause-planned
returns-clause-planned g c = some_plan c.part.result (Ok c.answer_of.result) (ap Ok c.answer_of.ensures ∙ ap answered (sym c.in_ok-parted.was))

pub returns-clause-refused : goal.returns-clause-refused
returns-clause-refused g c = λ is.
    refused_stays c.args.self.now c.in-Some.plan c.part.new.self c.part.new.log c.in_ok-parted.parted (sym c.take.ensures.value ∙ c.in-Some.is) c.requires.fit.live c.in_ok-parted.ensures.refused (subst IsRefusedPart c.answer_of.ensures is)

pub returns-in_err-parted-clause-range : goal.returns-in_err-parted-clause-range
returns-in_err-parted-clause-range g c =
    let p = err_from_is_err_and c.from_residual.result c.from_residual.ensures.1 in
    range_of_plan c.part.result c.from_residual.result (p.1 ∙ ap Err p.2 ∙ ap answered (sym c.in_err-parted.was)) c.args.self.now.plan c.in-Some.plan (sym c.take.ensures.value ∙ c.in-Some.is) c.args.part c.part.ensures.range

pub returns-in_err-parted-clause-done : goal.returns-in_err-parted-clause-done
returns-in_err-parted-clause-done g c =
    let p = err_from_is_err_and c.from_residual.result c.from_residual.ensures.1 in
    done_of_plan c.part.result c.from_residual.result (p.1 ∙ ap Err p.2 ∙ ap answered (sym c.in_err-parted.was)) c.args.self.now.plan c.in-Some.plan (sym c.take.ensures.value ∙ c.in-Some.is) c.args.part c.part.ensures.done
