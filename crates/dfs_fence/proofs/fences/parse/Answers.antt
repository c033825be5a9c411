use Rattle.std.proofs.Common.{◌≡◌, ◌<◌, length, ap, sym, subst, ◌∙◌, ◌++◌, ◌∷◌, [], refl, arith}
use Rattle.dfs_fence.specs.declared.fence.Fence.{Fence}
use Rattle.dfs_fence.specs.Index.{IsFence}
use Rattle.dfs_fence.specs.Reading.{fence_of}
use Rattle.dfs_fence.proofs.Parsing.{begins, none_read, next_fields, next_fence, read_on, stuck, falls, left_over, on_err, read_all}
use Rattle.dfs_fence.proofs.fences.parse.Goals as goal

pub loop-turn-init : goal.loop-turn-init
loop-turn-init c = none_read c.args.bytes.now c.new-fences.result (λ i. omega (arith, c.type_inv.bytes i)) c.new-fences.ensures

pub returns-in_default-clause-none : goal.returns-in_default-clause-none
returns-in_default-clause-none c = ((λ _. stuck c.loop-turn.invariant c.args.count c.loop-turn-test.true c.in_default.ensures), (λ _. refl))

pub returns-then-not-may_follow-clause-none : goal.returns-then-not-may_follow-clause-none
returns-then-not-may_follow-clause-none c =
    ((λ _. falls c.loop-turn.invariant c.args.count c.loop-turn-test.true (fence_of c.in-Some.fence) c.in-Some.behind.now c.in-Some.ensures (sym c.may_follow.ensures ∙ c.if-not-may_follow.true)), (λ _. refl))

pub to_fence-requires-clause-first : goal.to_fence-requires-clause-first
to_fence-requires-clause-first c = (next_fields c.loop-turn.invariant (fence_of c.in-Some.fence) c.in-Some.behind.now c.in-Some.ensures).first

pub to_fence-requires-clause-last : goal.to_fence-requires-clause-last
to_fence-requires-clause-last c = (next_fields c.loop-turn.invariant (fence_of c.in-Some.fence) c.in-Some.behind.now c.in-Some.ensures).last

pub push-requires-clause-fence : goal.push-requires-clause-fence
push-requires-clause-fence c =
    subst IsFence (sym c.in_ok-to_fence.ensures) (next_fence c.loop-turn.invariant (fence_of c.in-Some.fence) c.in-Some.behind.now c.in-Some.ensures (sym c.may_follow.ensures ∙ c.if-not-may_follow.false))

pub loop-turn-preserved : goal.loop-turn-preserved
loop-turn-preserved c =
    read_on c.loop-turn.invariant (omega (arith, c.loop-turn-test.true, c.requires)) (fence_of c.in-Some.fence) c.in-Some.behind.now c.push.new.self c.in-Some.ensures (sym c.may_follow.ensures ∙ c.if-not-may_follow.false)
    (c.in_ok-push.ensures.pushed ∙ ap (λ (f : Fence). c.loop-turn.fences ++ f ∷ []) c.in_ok-to_fence.ensures)

pub returns-then-is_empty-clause-found : goal.returns-then-is_empty-clause-found
returns-then-is_empty-clause-found c =
    let none : length c.loop-turn.rest.now ≡ 0 = grind arith in
    read_all c.loop-turn.invariant c.args.count (omega (arith, c.loop-turn-test.false, c.loop-turn.auto._turn-end)) none

pub returns-then-is_empty-clause-none : goal.returns-then-is_empty-clause-none
returns-then-is_empty-clause-none c =
    let none : length c.loop-turn.rest.now ≡ 0 = grind arith in
    ((λ e. absurd cc), (λ no. absurd (no c.loop-turn.fences (read_all c.loop-turn.invariant c.args.count (omega (arith, c.loop-turn-test.false, c.loop-turn.auto._turn-end)) none))))

pub returns-else-is_empty-clause-none : goal.returns-else-is_empty-clause-none
returns-else-is_empty-clause-none c =
    let some : 0 < length c.loop-turn.rest.now = grind arith in
    ((λ _. left_over c.loop-turn.invariant c.args.count (omega (arith, c.loop-turn-test.false, c.loop-turn.auto._turn-end)) some), (λ _. refl))

pub returns-in_err-to_fence-clause-memory : goal.returns-in_err-to_fence-clause-memory
returns-in_err-to_fence-clause-memory c = on_err c.from_residual.result (begins c.loop-turn.invariant (fence_of c.in-Some.fence) c.in-Some.behind.now c.in-Some.ensures)

pub returns-in_err-push-clause-memory : goal.returns-in_err-push-clause-memory
returns-in_err-push-clause-memory c = on_err c.from_residual-in_err-push.result (begins c.loop-turn.invariant (fence_of c.in-Some.fence) c.in-Some.behind.now c.in-Some.ensures)
