use Rattle.std.specs.List.{AllByRecursion}
use Rattle.dfs_change.specs.Identities.{FitsJob}
use Rattle.change_rows.proofs.tests.long_files.Given as goal

abbrev pub invariant-loop-number : goal.invariant-loop-number
invariant-loop-number l = AllByRecursion (FitsJob 1) l.records.items
