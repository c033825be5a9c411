use Rattle.dfs_folder.proofs.FileNames.{names-apart}
use Rattle.dfs_folder.proofs.laws.own_names.Goals as goal

pub returns : goal.returns
returns c = names-apart
