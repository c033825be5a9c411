use Rattle.dfs_record.specs.Lend.{key_of}
use Rattle.dfs_block.proofs.Rising.{lent_has, lent_not}
use Rattle.dfs_block.proofs.block.Block.find.Goals as goal

pub returns-clause-found : goal.returns-clause-found
returns-clause-found c = lent_has (key_of c.args.key) c.args.self.now c.value_of.result c.value_of.ensures.value

pub returns-clause-none : goal.returns-clause-none
returns-clause-none c = lent_not (key_of c.args.key) c.args.self.now c.value_of.result c.value_of.ensures.value
