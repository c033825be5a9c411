use Rattle.std.proofs.Common.{◌≡◌, length}
use Rattle.std.specs.List.{list_all}
use Rattle.dfs_block.specs.Left.{records_left}
use Rattle.dfs_table.specs.Identities.{is_within}
use Rattle.dfs_table.proofs.identities.are_within.Given as goal

abbrev pub invariant-loop-rec : goal.invariant-loop-rec
invariant-loop-rec l = list_all (is_within l.job) (records_left l.records.first l.records.left l.records.behind.now) ≡ list_all (is_within l.job) l.block

abbrev pub decreases-loop-rec : goal.decreases-loop-rec
decreases-loop-rec l = length (records_left l.records.first l.records.left l.records.behind.now)
