use Rattle.std.proofs.Common.{◌∙◌, ◌+◌, ◌≡◌, arith, length, refl}
use Rattle.std.proofs.lemmas.List.{length-map}
use Rattle.dfs_view.specs.Layers.{own_runs}
use Rattle.dfs_job.proofs.Plans.{covers_fit, covers_stands}
use Rattle.dfs_job.proofs.job.Job.cover.Goals as goal

pub returns-clause-fit : goal.returns-clause-fit
returns-clause-fit c =
    let old = c.args.self.now in
    let of = c.in-Ok-begin.ensures in
    let all : c.len.result ≡ length (own_runs old.layers) = omega (arith, c.len.ensures, length-map old.layers.runs.items (λ r. r.value)) in
    covers_fit old c.args.scope c.in-Ok-begin.compaction c.args.parts c.len.result c.requires.fit c.requires.none of.none (old.plans + 1) (omega (arith, c.requires.few)) all (of.sources ∙ c.in-Ok.ensures) of.parts c.requires.most of.live

pub returns-clause-stands : goal.returns-clause-stands
returns-clause-stands c = λ host j tells stands.
    let old = c.args.self.now in
    let all : c.len.result ≡ length (own_runs old.layers) = omega (arith, c.len.ensures, length-map old.layers.runs.items (λ r. r.value)) in
    covers_stands old c.args.scope c.in-Ok-begin.compaction c.args.parts c.len.result c.requires.fit c.requires.none c.in-Ok-begin.ensures.none host j (old.plans + 1) refl all stands
