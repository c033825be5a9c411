use Rattle.std.proofs.Common.{inl, inr}
use Rattle.dfs_compact.proofs.Counting.{enough_by, more_by}
use Rattle.dfs_compact.proofs.sources.write_part.Goals as goal

pub returns-clause-enough : goal.returns-clause-enough
returns-clause-enough g c = enough_by _ c.write_tables.result c.write_tables.ensures.cut c.write_tables.ensures.count

pub returns-clause-full : goal.returns-clause-full
returns-clause-full g c is = elim (c.write_tables.ensures.full is) [ inl some ↦ inl some | inr many ↦ inr (more_by _ many c.in-Ok.ensures.few) ]
