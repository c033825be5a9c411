use Rattle.std.proofs.Common.{◌∙◌, ap, refl, sym, subst}
use Rattle.dfs_job.specs.Job.{after_part, merged_as, parted_as}
use Rattle.dfs_job.specs.declared.answers.JobPart.TheVariants.{Last}
use Rattle.dfs_job.specs.Stands.{JobStands}
use Rattle.dfs_job.proofs.Merges.{joined_marked, not_last}
use Rattle.dfs_job.proofs.job.Job.part.Goals as goal

pub returns-in_default-clause-stands : goal.returns-in_default-clause-stands
returns-in_default-clause-stands g c = λ j tells stands.
    let of = c.in_ok-answer.ensures in
    let answer = of.answer j tells stands in
    subst (JobStands (g.H.Host.state c.merge.new.host) c.merge.new.self)
    (not_last c.in_ok-answer.answer j c.args.part c.in_default.not-Last ∙ ap (λ a. parted_as a j c.args.part) answer) (of.stands j tells stands)

pub returns-in_default-clause-sound : goal.returns-in_default-clause-sound
returns-in_default-clause-sound g c =
    let of = c.in_ok-answer.ensures in
    record {
      fit = of.fit;
      stands = λ tells.
          let told = sym of.cause.tells ∙ tells in
          let one = c.requires.sound.stands told in
          record { plain = merged_as c.in_ok-answer.answer one.plain c.args.part; stands = of.stands one.plain told one.stands };
    }

pub returns-in_ok-join-clause-stands : goal.returns-in_ok-join-clause-stands
returns-in_ok-join-clause-stands g c = λ j tells stands.
    let of = c.in_ok-answer.ensures in
    let mid = g.H.Host.state c.merge.new.host in
    let now = subst (λ a. JobStands mid c.merge.new.self (merged_as a j c.args.part)) c.in-Last.is (of.stands j tells stands) in
    subst (JobStands mid c.join.new.self) (joined_marked j c.args.part j.plan refl ∙ ap (λ a. parted_as a j c.args.part) (sym c.in-Last.is ∙ of.answer j tells stands))
    (c.in_ok-join.ensures.stands mid (merged_as Last j c.args.part) (of.cause.tells ∙ tells) now)

pub returns-in_ok-join-clause-sound : goal.returns-in_ok-join-clause-sound
returns-in_ok-join-clause-sound g c = record {
  fit = c.in_ok-join.ensures.fit;
  stands = λ tells.
      let told = sym c.in_ok-answer.ensures.cause.tells ∙ tells in
      let one = c.requires.sound.stands told in
      record { plain = after_part one.plain c.args.part; stands = returns-in_ok-join-clause-stands g c one.plain told one.stands };
}
