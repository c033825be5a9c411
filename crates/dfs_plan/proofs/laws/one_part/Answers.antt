use Rattle.dfs_plan.proofs.PartsLaw.{one_part}
use Rattle.dfs_plan.proofs.laws.one_part.Goals as goal

pub returns : goal.returns
returns c = one_part
