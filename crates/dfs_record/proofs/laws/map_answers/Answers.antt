use Rattle.dfs_record.proofs.Maps.{get-empty, get-insert, get-remove}
use Rattle.dfs_record.proofs.laws.map_answers.Goals as goal

pub returns-clause-empty : goal.returns-clause-empty
returns-clause-empty c c' = get-empty

pub returns-clause-inserted : goal.returns-clause-inserted
returns-clause-inserted c c' = get-insert

pub returns-clause-removed : goal.returns-clause-removed
returns-clause-removed c c' = get-remove
