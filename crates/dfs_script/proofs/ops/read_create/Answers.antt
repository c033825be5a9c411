use Rattle.dfs_record.specs.Pieces.{words}
use Rattle.dfs_script.proofs.Counts.{no_create}
use Rattle.dfs_script.proofs.ops.read_create.Goals as goal

pub returns-in-None : goal.returns-in-None
returns-in-None c = no_create (words 32 c.args.rest.now) c.in-None.ensures
