use Rattle.std.proofs.Common.{arith}
use Rattle.dfs_plan.proofs.Sorting.{sorted_back}
use Rattle.dfs_plan.proofs.plan.Plan.new.Goals as goal

pub invariant_of-result : goal.invariant_of-result
invariant_of-result c =
    record { sorted = sorted_back _ _ _ (omega (arith, c.sort.ensures.len, c.as_mut_slice.ensures.len)) (c.in_ok-sort.ensures.sorted); some = c.requires.some; most = c.requires.most }

pub returns-clause-sorted : goal.returns-clause-sorted
returns-clause-sorted c = sorted_back _ _ _ (omega (arith, c.sort.ensures.len, c.as_mut_slice.ensures.len)) (c.in_ok-sort.ensures.sorted)
