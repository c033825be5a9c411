use Rattle.dfs_record.specs.Pieces.{words}
use Rattle.dfs_script.proofs.Counts.{no_one_path}
use Rattle.dfs_script.proofs.ops.read_one_path.Goals as goal

pub returns-in-None : goal.returns-in-None
returns-in-None c = no_one_path (words 32 c.args.rest.now) c.in-None.ensures
