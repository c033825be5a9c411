use Rattle.std.proofs.Common.{◌∙◌, Option, refl, sym, ap}
use Rattle.std.specs.BTreeMap.{is_at}
use Rattle.dfs_reply.specs.declared.Reply.TheVariants.{Error, Stats as StatsReply}
use Rattle.dfs_reply.specs.declared.Word.TheVariants as word
use Rattle.dfs_job.specs.Job.{Job, key_count, run_count}
use Rattle.dfs_session.specs.Session.{of_live, stays, tells_stats, word_cmp}
use Rattle.dfs_session.specs.Worked.{plain}
use Rattle.dfs_session.proofs.Changing.{found_job, no_job}
use Rattle.dfs_session.specs.Sound.{IsLive, jobs_of, listed_in}
use Rattle.dfs_session.proofs.Jobs.{all_found}
use Rattle.dfs_session.proofs.Working.{stays_in_memory}
use Rattle.dfs_session.proofs.session.Session.tell_stats.Goals as goal

pub returns-in_default-clause-worked : goal.returns-in_default-clause-worked
returns-in_default-clause-worked c =
    let session = c.args.self.now in
    let w = c.args.word.now in
    λ host sound.
    stays_in_memory host session session.jobs (plain (λ s. tells_stats s w)) (Error word.NoJob) c.text_of.result refl refl sound
    (λ s tells stands. ap (λ (o : Option Job). of_live o s (λ j. stays s (StatsReply (run_count j) (key_count j)))) (no_job host session s w stands (sym c.in_default.ensures.value)))
    c.text_of.ensures.text c.text_of.ensures.memory

pub returns-clause-worked : goal.returns-clause-worked
returns-clause-worked c =
    let session = c.args.self.now in
    let w = c.args.word.now in
    let live = c.in-Some.job.now in
    let stats = c.stats-stats.result in
    λ host sound.
    stays_in_memory host session session.jobs (plain (λ s. tells_stats s w)) (StatsReply stats.runs stats.records) c.text_of-2.result refl refl sound
    (λ s tells stands.
    let f = found_job host session s w live stands (sym c.in-Some.ensures.value) in
    ap (λ (o : Option Job). of_live o s (λ j. stays s (StatsReply (run_count j) (key_count j)))) f.found
    ∙ (λ i. stays s (StatsReply (sym (c.stats-stats.ensures.runs host f.plain f.is) i) (sym (c.stats-stats.ensures.records host f.plain f.is) i))))
    c.text_of-2.ensures.text c.text_of-2.ensures.memory

pub stats-stats-requires : goal.stats-stats-requires
stats-stats-requires c =
    let session = c.args.self.now in
    record { fit = (all_found (λ x. IsLive session.greatest (listed_in session) x) (is_at (word_cmp c.args.word.now)) (jobs_of session) c.in-Some.job.now c.requires.jobs (sym c.in-Some.ensures.value)).fit }
