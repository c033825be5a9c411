use Rattle.dfs_script.proofs.Meanings.{means_one}
use Rattle.dfs_script.proofs.means_one.Goals as goal

pub returns : goal.returns
returns c = means_one
