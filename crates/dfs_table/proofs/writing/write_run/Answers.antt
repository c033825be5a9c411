use Rattle.std.proofs.Common.{inl, inr, arith}
use Rattle.dfs_table.proofs.Cutting.{needed_few}
use Rattle.dfs_table.proofs.writing.write_run.Goals as goal

pub returns-clause-full : goal.returns-clause-full
returns-clause-full g c = (
  λ is. elim (c.write_tables.ensures.full is) [
    | inl some ↦ some
    | inr many ↦ absurd (omega (arith, many, needed_few (g.R.Records.rest c.args.records), c.requires.few))
  ],
  c.write_tables.ensures.refused,
)
