use Rattle.dfs_ops.proofs.Bounds.{makes_within, leaves_within, stays_within, leaves_empty}
use Rattle.dfs_ops.proofs.laws.records_within.Goals as goal

pub returns : goal.returns
returns c = record { made = makes_within; left = leaves_within; stays = stays_within; empty = leaves_empty }
