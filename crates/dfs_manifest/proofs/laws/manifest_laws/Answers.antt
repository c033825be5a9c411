use Rattle.dfs_manifest.proofs.Manifests.{one_list, short}
use Rattle.dfs_manifest.proofs.laws.manifest_laws.Goals as goal

pub returns-clause-once : goal.returns-clause-once
returns-clause-once c = one_list

pub returns-clause-short : goal.returns-clause-short
returns-clause-short c = short
