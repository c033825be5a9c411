use Rattle.dfs_change.proofs.Meant.{nothing_behind}
use Rattle.dfs_change.proofs.laws.nothing_behind_means.Goals as goal

pub returns : goal.returns
returns c = nothing_behind
