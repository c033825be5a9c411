use Rattle.dfs_ops.proofs.Plans.{applied}
use Rattle.dfs_ops.proofs.applying.apply.Goals as goal

pub returns-clause-applied : goal.returns-clause-applied
returns-clause-applied g c =
    let planned = c.in_ok-plan.ensures in
    applied c.args.op.now c.in_ok-plan.plan g.met.S.Space.follows_on planned.planned planned.uses planned.reads.went_on c.carry_out.ensures.answer c.carry_out.ensures.carried
