use Rattle.dfs_block.proofs.Blocks.{one_list}
use Rattle.dfs_block.proofs.laws.one_list.Goals as goal

pub returns : goal.returns
returns c = one_list
