use Rattle.std.proofs.Common.{refl}
use Rattle.dfs_fence.specs.Places.{BlockLies}
use Rattle.dfs_fence.specs.Reading.{fence_of}
use Rattle.dfs_fence.proofs.Placing.{all_passed, none_passed, not_all, not_stuck, one_passed}
use Rattle.dfs_fence.proofs.places.all_lie.Goals as goal

pub loop-turn-init : goal.loop-turn-init
loop-turn-init c fs are = none_passed (BlockLies c.args.end) c.args.count c.args.bytes.now fs are

pub loop-turn-preserved : goal.loop-turn-preserved
loop-turn-preserved c fs are =
    one_passed (BlockLies c.args.end) c.args.count c.args.bytes.now c.loop-turn-test.true (fence_of c.in-Some.fence) c.in-Some.behind.now c.in-Some.ensures fs are (c.loop-turn.invariant fs are)
    (c.lies.ensures.0 c.if-not-lies.false)

pub returns-in_default : goal.returns-in_default
returns-in_default c fs are = absurd (not_stuck (BlockLies c.args.end) c.args.count c.args.bytes.now c.loop-turn-test.true fs are (c.loop-turn.invariant fs are) c.in_default.ensures)

pub returns-then-not-lies : goal.returns-then-not-lies
returns-then-not-lies c fs are = (
  (λ yes. absurd cc),
  (λ all.
      absurd (not_all (BlockLies c.args.end) c.args.count c.args.bytes.now c.loop-turn-test.true (fence_of c.in-Some.fence) c.in-Some.behind.now c.in-Some.ensures fs are (c.loop-turn.invariant fs are)
      (λ here. cc (c.lies.ensures.1 here, c.if-not-lies.true)) all)),
)

pub returns : goal.returns
returns c fs are =
    ((λ _. all_passed (BlockLies c.args.end) c.args.count c.args.bytes.now c.loop-turn._turn c.loop-turn-test.false fs are (c.loop-turn.invariant fs are)), (λ _. refl))
