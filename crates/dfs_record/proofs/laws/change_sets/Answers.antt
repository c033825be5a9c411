use Rattle.dfs_record.proofs.Replays.{get-delta, rising_records, records_of-delta}
use Rattle.dfs_record.proofs.laws.change_sets.Goals as goal

pub returns-clause-last : goal.returns-clause-last
returns-clause-last c = get-delta

pub returns-clause-rise : goal.returns-clause-rise
returns-clause-rise c = rising_records

pub returns-clause-own : goal.returns-clause-own
returns-clause-own c = records_of-delta
