use Rattle.std.proofs.Common.{◌∷◌, [], sym, subst}
use Rattle.std.specs.List.{AllByRecursion}
use Rattle.dfs_table.proofs.Stays.{all_append}
use Rattle.dfs_change.specs.Identities.{FitsJob}
use Rattle.change_rows.proofs.tests.long_files.Goals as goal

pub loop-number-preserved : goal.loop-number-preserved
loop-number-preserved c = subst (AllByRecursion (FitsJob 1)) (sym c.in_ok-push.ensures.items) (all_append (FitsJob 1) c.loop-number.records.items (c.in_ok-rec.rec ∷ []) c.loop-number.invariant (c.in_ok-rec.ensures, tt))
