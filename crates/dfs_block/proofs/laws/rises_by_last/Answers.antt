use Rattle.dfs_block.proofs.Rising.{rises_by_last, last_more}
use Rattle.dfs_block.proofs.laws.rises_by_last.Goals as goal

pub returns-clause-rises : goal.returns-clause-rises
returns-clause-rises c = rises_by_last

pub returns-clause-last : goal.returns-clause-last
returns-clause-last c = last_more
