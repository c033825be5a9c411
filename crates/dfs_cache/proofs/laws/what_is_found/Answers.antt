use Rattle.dfs_cache.proofs.Runs.{stays_found, is_forgotten, getting_changes_nothing}
use Rattle.dfs_cache.proofs.laws.what_is_found.Goals as goal

pub returns-clause-put : goal.returns-clause-put
returns-clause-put c = stays_found

pub returns-clause-got : goal.returns-clause-got
returns-clause-got c = getting_changes_nothing

pub returns-clause-forgotten : goal.returns-clause-forgotten
returns-clause-forgotten c = is_forgotten
