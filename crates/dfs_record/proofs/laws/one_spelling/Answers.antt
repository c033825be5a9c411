use Rattle.dfs_record.proofs.Lengths.{spelled_short}
use Rattle.dfs_record.proofs.Spellings.{one_spelling}
use Rattle.dfs_record.proofs.laws.one_spelling.Goals as goal

pub returns-clause-once : goal.returns-clause-once
returns-clause-once c = λ r valid bytes. ((λ spells. spells.1), (λ e. (valid, e)))

pub returns-clause-apart : goal.returns-clause-apart
returns-clause-apart c = one_spelling

pub returns-clause-short : goal.returns-clause-short
returns-clause-short c = spelled_short
