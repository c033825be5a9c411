use Rattle.dfs_record.proofs.Maps.{same_map}
use Rattle.dfs_record.proofs.laws.equal_maps.Goals as goal

pub returns : goal.returns
returns c c' = same_map
