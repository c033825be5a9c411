use Rattle.std.proofs.Common.{◌∙◌}
use Rattle.std.specs.Ordering.{ordering_then}
use Rattle.dfs_merge.specs.Sources.{sources}
use Rattle.dfs_merge.proofs.Firsts.{compare_is}
use Rattle.dfs_merge.proofs.rank.compare.Goals as goal

pub returns : goal.returns
returns g c =
    let ss = sources g.C.Records.rest g.C.Records.unread g.C.Records.bound c.args.sources.now in
    c.then.ensures ∙ (λ i. ordering_then (c.compare_heads-by_head.ensures i) (c.cmp.ensures i)) ∙ compare_is ss c.args.a c.args.b c.head_at.result c.head_at-2.result c.head_at.ensures c.head_at-2.ensures
