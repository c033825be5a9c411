use Rattle.dfs_fence.proofs.Indexes.{one_list, short}
use Rattle.dfs_fence.proofs.laws.index_laws.Goals as goal

pub returns-clause-once : goal.returns-clause-once
returns-clause-once c = one_list

pub returns-clause-short : goal.returns-clause-short
returns-clause-short c = short
