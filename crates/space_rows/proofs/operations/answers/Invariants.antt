use Rattle.dfs_ops.specs.Op.{AreIds}
use Rattle.space_rows.proofs.operations.answers.Given as goal

abbrev pub invariant-loop-case : goal.invariant-loop-case
invariant-loop-case g l = AreIds l.ids
