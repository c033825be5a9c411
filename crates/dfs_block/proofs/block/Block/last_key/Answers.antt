use Rattle.dfs_record.specs.Lend.{key_of}
use Rattle.dfs_block.proofs.Rising.{last_valid}
use Rattle.dfs_block.proofs.block.Block.last_key.Goals as goal

pub returns-clause-valid : goal.returns-clause-valid
returns-clause-valid c = last_valid _ (key_of c.self.inside.last) c.self.invariant.are.valid c.self.invariant.last_is
