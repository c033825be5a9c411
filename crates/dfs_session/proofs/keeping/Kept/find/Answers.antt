use Rattle.std.proofs.Common.{ap}
use Rattle.std.specs.Prelude.{option_map}
use Rattle.dfs_session.proofs.Uses.{first_use, no_use, not_some}
use Rattle.dfs_session.proofs.keeping.Kept.find.Goals as goal

pub returns-in-Some-clause-found : goal.returns-in-Some-clause-found
returns-in-Some-clause-found c =
    let first = first_use c.args.self.now.uses c.args.job c.range.result (c.range.ensures.in_range tt) (c.in-Some.field-0-0.now, c.in-Some.change.now) c.next.new.self c.in-Some.ensures.steps in
    (first.0, ap (option_map (λ r. r.value)) first.1)

pub returns-in-None-clause-none : goal.returns-in-None-clause-none
returns-in-None-clause-none c = λ kept.
    not_some (ap (option_map (λ r. r.value)) (no_use c.args.self.now.uses c.args.job c.range.result (c.range.ensures.in_range tt) c.in-None.ensures.steps.0 kept.0 kept.1)) kept.2
