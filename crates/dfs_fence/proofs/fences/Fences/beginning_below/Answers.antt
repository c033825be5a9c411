use Rattle.std.proofs.Common.{sym, subst, ◌∙◌, rules, List, true, false, ◌≡◌}
use Rattle.std.specs.List.Sorted.{IsPartitionPoint}
use Rattle.std.proofs.lemmas.List.Sorted.{IsPartitionPoint-from_clause}
use Rattle.dfs_record.specs.Lend.{key_of}
use Rattle.dfs_fence.specs.declared.fence.Fence.{Fence}
use Rattle.dfs_fence.specs.Index.{AreFences}
use Rattle.dfs_fence.specs.Points.{begins_below}
use Rattle.dfs_fence.proofs.Finding.{begins_parted}
use Rattle.dfs_fence.proofs.fences.Fences.beginning_below.Goals as goal

pub returns-clause-point : goal.returns-clause-point
returns-clause-point c =
    let key = key_of c.args.key in
    let fences = c.as_slice-fences.result.now in
    let parted = begins_parted fences key (subst AreFences (sym c.as_slice-fences.ensures.value) c.self.invariant) in
    subst (λ (fs : List Fence). IsPartitionPoint (λ f. begins_below key f ≡ true) (λ f. begins_below key f ≡ false) fs c.partition_point.result) (c.as_slice-fences.ensures.value ∙ c.self.view_is)
    (IsPartitionPoint-from_clause (begins_below key) fences c.partition_point.result c.partition_point.ensures.partitioned parted (λ a r q k. search rules))
