use Rattle.std.proofs.Common.{refl}
use Rattle.dfs_fence.proofs.fences.Fences.write.Goals as goal

pub returns-then-is_err-clause-index : goal.returns-then-is_err-clause-index
returns-then-is_err-clause-index c = record { some = c.requires; spelled = refl; fences = c.append-written.ensures.fences }

pub returns-else-is_err-clause-index : goal.returns-else-is_err-clause-index
returns-else-is_err-clause-index c = record { some = c.requires; spelled = refl; fences = c.append-written.ensures.fences }
