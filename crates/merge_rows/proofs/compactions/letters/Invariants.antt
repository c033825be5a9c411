use Rattle.std.proofs.Common.{length}
use Rattle.dfs_table.specs.Cursors.{run_rest}
use Rattle.merge_rows.proofs.compactions.letters.Given as goal

abbrev pub decreases-loop-rec : goal.decreases-loop-rec
decreases-loop-rec l = length (run_rest l.records)
