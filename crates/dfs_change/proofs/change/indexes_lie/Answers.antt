use Rattle.std.proofs.Common.{refl, arith}
use Rattle.dfs_change.proofs.Opened.{lie_all, lie_next, lies_not}
use Rattle.dfs_change.proofs.change.indexes_lie.Goals as goal

pub loop-index-preserved : goal.loop-index-preserved
loop-index-preserved c = lie_next c.args.manifest.now c.args.end c.loop-index.index c.table-at.result c.table-at.ensures c.loop-index.invariant (c.lies.ensures.0 c.if-not-lies.false)

pub returns-then-not-lies : goal.returns-then-not-lies
returns-then-not-lies c =
    ((λ yes. absurd cc), (λ all. absurd (lies_not c.args.manifest.now c.args.end c.loop-index.index c.table-at.result c.table-at.ensures (λ here. cc (c.lies.ensures.1 here, c.if-not-lies.true)) all)))

pub returns : goal.returns
returns c =
    ((λ _. lie_all c.args.manifest.now c.args.end c.loop-index.index (omega (arith, c.loop-index-test.false, c.count-index-end.ensures)) c.loop-index.invariant), (λ _. refl))
