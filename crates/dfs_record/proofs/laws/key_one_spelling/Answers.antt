use Rattle.dfs_record.proofs.Spellings.{key_one_spelling}
use Rattle.dfs_record.proofs.laws.key_one_spelling.Goals as goal

pub returns-clause-once : goal.returns-clause-once
returns-clause-once c = λ key valid bytes. ((λ spells. spells.1), (λ e. (valid, e)))

pub returns-clause-apart : goal.returns-clause-apart
returns-clause-apart c = key_one_spelling
