use Rattle.std.proofs.Common.{◌≤◌, arith, ap, sym, subst, refl, ◌∙◌, drop, ℕ, List}
use Rattle.std.specs.Prelude.{option_map}
use Rattle.dfs_record.specs.Lend.{key_of}
use Rattle.dfs_block.specs.Block.{IsNoBlock}
use Rattle.dfs_block.specs.Front.{records_front}
use Rattle.dfs_block.specs.Read.{AreRecords}
use Rattle.dfs_block.proofs.Blocks.{front_all, held, inside, made, long}
use Rattle.dfs_block.proofs.Rising.{sought_valid}
use Rattle.dfs_block.proofs.block.Block.read_for.Goals as goal
use Rattle.dfs_block.proofs.block.Block.read_for.Goals.{After-from_residual-in_err-passed, Then-count-eq0}

pub returns-in_err-count-clause-only : goal.returns-in_err-count-clause-only
returns-in_err-count-clause-only c = λ rs is. absurd (omega (arith, c.in_err-count.ensures.none.0 refl, long c.args.bytes.now rs is))

pub returns-in_err-count-clause-none : goal.returns-in_err-count-clause-none
returns-in_err-count-clause-none c = ((λ _ rs is. absurd (omega (arith, c.in_err-count.ensures.none.0 refl, long c.args.bytes.now rs is))), (λ _. c.from_residual.ensures))

empty_block : (c : Then-count-eq0) → IsNoBlock c.args.bytes.now
empty_block c rs is =
    let are = inside c.in_ok-count.count c.args.bytes.now rs c.in_ok-count.ensures.exact is in
    omega (arith, c.if-count-eq0.true, are.number, is.some)

pub returns-then-count-eq0-clause-only : goal.returns-then-count-eq0-clause-only
returns-then-count-eq0-clause-only c = λ rs is. absurd (empty_block c rs is)

pub returns-then-count-eq0-clause-none : goal.returns-then-count-eq0-clause-none
returns-then-count-eq0-clause-none c = ((λ _. empty_block c), (λ _. refl))

no_block : (c : After-from_residual-in_err-passed) → IsNoBlock c.args.bytes.now
no_block c rs is =
    c.in_err-passed.ensures.none.0 refl rs
    (subst (λ (l : List ℕ). AreRecords c.in_ok-count.count l rs) (sym c.split_at.ensures.back) (inside c.in_ok-count.count c.args.bytes.now rs c.in_ok-count.ensures.exact is))

pub returns-in_err-passed-clause-only : goal.returns-in_err-passed-clause-only
returns-in_err-passed-clause-only c = λ rs is. absurd (no_block c rs is)

pub returns-in_err-passed-clause-none : goal.returns-in_err-passed-clause-none
returns-in_err-passed-clause-none c = ((λ _. no_block c), (λ _. c.from_residual-in_err-passed.ensures))

pub invariant_of-block : goal.invariant_of-block
invariant_of-block c = held c.in_ok-count.count c.split_at.result.1.now (key_of c.in_ok-passed.passed.0) (omega (arith, c.if-count-eq0.false)) c.in_ok-passed.ensures.found

pub returns-clause-found : goal.returns-clause-found
returns-clause-found c =
    let some : 1 ≤ c.in_ok-count.count = omega (arith, c.if-count-eq0.false) in
    let h = held c.in_ok-count.count c.split_at.result.1.now (key_of c.in_ok-passed.passed.0) some c.in_ok-passed.ensures.found in
    made c.in_ok-count.count c.args.bytes.now (records_front c.in_ok-count.count c.split_at.result.1.now) c.in_ok-count.ensures.spelled some (omega (arith, c.if-bytes-gt-MOST_BYTES.false))
    (subst (λ (l : List ℕ). AreRecords c.in_ok-count.count l (records_front c.in_ok-count.count c.split_at.result.1.now)) c.split_at.ensures.back h.are)

pub returns-clause-only : goal.returns-clause-only
returns-clause-only c = λ rs is.
    ap (records_front c.in_ok-count.count) c.split_at.ensures.back
    ∙ front_all c.in_ok-count.count (drop 2 c.args.bytes.now) rs (inside c.in_ok-count.count c.args.bytes.now rs c.in_ok-count.ensures.exact is)

pub returns-clause-valid : goal.returns-clause-valid
returns-clause-valid c =
    let h = held c.in_ok-count.count c.split_at.result.1.now (key_of c.in_ok-passed.passed.0) (omega (arith, c.if-count-eq0.false)) c.in_ok-passed.ensures.found in
    sought_valid (option_map key_of c.args.key) _ c.in_ok-passed.passed.1 h.are.valid c.in_ok-passed.ensures.value
