use Rattle.std.proofs.Common.{◌∙◌, ◌++◌, ap, drop, false, map, refl, sym, subst, List, Global}
use Rattle.std.specs.declared.rc.Rc.{Rc}
use Rattle.dfs_host.specs.Host.{bytes_of}
use Rattle.dfs_table.specs.declared.run.Run.{Run}
use Rattle.dfs_job.specs.declared.job.Job.{Job as LiveJob}
use Rattle.dfs_job.specs.Job.{covered_changes, joined_as}
use Rattle.dfs_job.specs.Parted.{placed_run}
use Rattle.dfs_job.specs.Stands.{JobStands}
use Rattle.dfs_job.proofs.Joins.{join_stands, joined_len}
use Rattle.dfs_job.proofs.Merges.{compaction_stands, held}
use Rattle.dfs_job.proofs.job.Job.join.Goals as goal

pub returns-clause-stands : goal.returns-clause-stands
returns-clause-stands c = λ host j tells stands.
    let old = c.args.self.now in
    let u = c.in-Some.plan in
    let fit = c.requires.fit in
    let under = sym c.take.ensures.value ∙ c.in-Some.is in
    let of = held old u fit under host j stands in
    let new : LiveJob = record {
      ids = old.ids;
      layers = record { log = old.layers.log; buffer = old.layers.buffer; limit = old.layers.limit; runs = c.in-Ok.runs; basis = c.leave.new.basis };
      settings = old.settings;
      plans = old.plans;
      plan = c.take.new.self;
      spent = false;
    } in
    let run : Run = c.take-2.result in
    let stand = compaction_stands old u fit under host j of.0 stands of.1 in
    subst (λ q. JobStands host new (joined_as q j)) (sym of.1)
    (join_stands old new u run fit under refl refl refl refl refl refl c.take.ensures.after (c.in-Ok.ensures ∙ ap (λ (rs : List (Rc Run Global)). placed_run run ++ drop u.covered (map (λ r. r.value) rs)) c.deref.ensures.value) c.leave.ensures.left host j of.0 stands of.1
    c.take-2.ensures.tables (c.take-2.ensures.stored (bytes_of host) old.layers.log.file (covered_changes of.0 j) stand) (c.take-2.ensures.most (bytes_of host) old.layers.log.file (covered_changes of.0 j) stand))

pub returns-clause-runs : goal.returns-clause-runs
returns-clause-runs c =
    let old = c.args.self.now in
    let u = c.in-Some.plan in
    let run : Run = c.take-2.result in
    joined_len old.plan u run (map (λ r. r.value) old.layers.runs.items) (map (λ r. r.value) c.in-Ok.runs.items) (sym c.take.ensures.value ∙ c.in-Some.is) c.take-2.ensures.tables
    (c.in-Ok.ensures ∙ ap (λ (rs : List (Rc Run Global)). placed_run run ++ drop u.covered (map (λ r. r.value) rs)) c.deref.ensures.value)
