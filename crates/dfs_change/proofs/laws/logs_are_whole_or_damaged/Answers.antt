use Rattle.dfs_change.proofs.Meant.{damaged_logs, one_change_set, whole_logs_mean}
use Rattle.dfs_change.proofs.laws.logs_are_whole_or_damaged.Goals as goal

pub returns : goal.returns
returns c = record { whole = whole_logs_mean; damaged = damaged_logs; one = one_change_set }
