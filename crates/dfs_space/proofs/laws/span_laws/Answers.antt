use Rattle.dfs_space.proofs.Spans.{first_is_least, next_is_least, in_span}
use Rattle.dfs_space.proofs.laws.span_laws.Goals as goal

pub returns-clause-first : goal.returns-clause-first
returns-clause-first c = first_is_least

pub returns-clause-next : goal.returns-clause-next
returns-clause-next c = next_is_least

pub returns-clause-span : goal.returns-clause-span
returns-clause-span c = in_span
