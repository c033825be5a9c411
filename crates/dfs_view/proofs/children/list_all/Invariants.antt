use Rattle.std.proofs.Common.{◌≡◌, ◌++◌, length}
use Rattle.dfs_view.specs.Children.{listed}
use Rattle.dfs_view.proofs.children.list_all.Given as goal

abbrev pub invariant-loop-rec : goal.invariant-loop-rec
invariant-loop-rec g l = (g.R.Records.unread l.records ≡ 0) × (l.listing ++ listed (g.R.Records.rest l.records) ≡ listed (g.R.Records.rest l.initial.records))

abbrev pub decreases-loop-rec : goal.decreases-loop-rec
decreases-loop-rec g l = length (g.R.Records.rest l.records)
