use Rattle.dfs_record.specs.Pieces.{words}
use Rattle.dfs_script.proofs.Counts.{no_set}
use Rattle.dfs_script.proofs.settings.read_set.Goals as goal

pub returns-in-None : goal.returns-in-None
returns-in-None c = no_set (words 32 c.args.rest.now) c.in-None.ensures
