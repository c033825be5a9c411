use Rattle.std.proofs.Common.{◌≤◌, sym, subst, ◌∙◌, refl, arith, List, ℕ}
use Rattle.std.specs.Prelude.{IsSome, IsSomeAnd, IsTrue, nat_le}
use Rattle.std.proofs.lemmas.Result.{on_err_weaker}
use Rattle.std.proofs.lemmas.Bool.{leb-true}
use Rattle.dfs_fence.specs.declared.fence.Fence.{Fence}
use Rattle.dfs_fence.specs.Index.{IsIndex, IsNoIndex}
use Rattle.dfs_fence.specs.Reading.{fence_at}
use Rattle.dfs_fence.specs.Spelled.{AreSpelled}
use Rattle.dfs_record.specs.Name.{is_between}
use Rattle.dfs_record.proofs.Readings.{first_true}
use Rattle.dfs_fence.proofs.Indexes.{inside, made, long, found_of, only_of, none_of, count_fits}
use Rattle.dfs_fence.proofs.fences.Fences.read.Goals as goal
use Rattle.dfs_fence.proofs.fences.Fences.read.Goals.{In_default, Then-not-is_count, After-parse}

too_short : (c : In_default) → IsNoIndex c.args.bytes.now
too_short c fs is = omega (arith, c.in_default.ensures.none.0 refl, long c.args.bytes.now fs is)

pub returns-in_default-clause-only : goal.returns-in_default-clause-only
returns-in_default-clause-only c = λ fs is. absurd (too_short c fs is)

pub returns-in_default-clause-none : goal.returns-in_default-clause-none
returns-in_default-clause-none c = ((λ _. too_short c), (λ _. refl))

no_count : (c : Then-not-is_count) → IsNoIndex c.args.bytes.now
no_count c fs is = absurd (cc (count_fits c.in-Some.count c.args.bytes.now fs c.in-Some.ensures.exact is, c.is_count.ensures, c.if-not-is_count.true))

pub returns-then-not-is_count-clause-only : goal.returns-then-not-is_count-clause-only
returns-then-not-is_count-clause-only c = λ fs is. absurd (no_count c fs is)

pub returns-then-not-is_count-clause-none : goal.returns-then-not-is_count-clause-none
returns-then-not-is_count-clause-none c = ((λ _. no_count c), (λ _. refl))

from : (c : After-parse) (fs : List Fence) → IsIndex c.args.bytes.now fs → AreSpelled c.in-Some.count c.split_at.result.1.now fs
from c fs is = subst (λ (l : List ℕ). AreSpelled c.in-Some.count l fs) (sym c.split_at.ensures.back) (inside c.in-Some.count c.args.bytes.now fs c.in-Some.ensures.exact is)

to : (c : After-parse) (fs : List Fence) → AreSpelled c.in-Some.count c.split_at.result.1.now fs → IsIndex c.args.bytes.now fs
to c fs are =
    let some : 1 ≤ c.in-Some.count = leb-true 1 c.in-Some.count (first_true (nat_le 1 c.in-Some.count) (nat_le c.in-Some.count 4096) (sym c.is_count.ensures ∙ c.if-not-is_count.false)) in
    made c.in-Some.count c.args.bytes.now fs c.in-Some.ensures.spelled some (subst (λ (l : List ℕ). AreSpelled c.in-Some.count l fs) c.split_at.ensures.back are)

pub returns-clause-found : goal.returns-clause-found
returns-clause-found c = found_of c.in-Some.count c.args.bytes.now c.split_at.result.1.now c.parse.result c.parse.ensures.found (to c)

pub returns-clause-only : goal.returns-clause-only
returns-clause-only c = only_of c.in-Some.count c.args.bytes.now c.split_at.result.1.now c.parse.result c.parse.ensures.found c.parse.ensures.none (from c)

pub returns-clause-none : goal.returns-clause-none
returns-clause-none c = none_of c.in-Some.count c.args.bytes.now c.split_at.result.1.now c.parse.result c.parse.ensures.none (from c) (to c)

pub returns-clause-memory : goal.returns-clause-memory
returns-clause-memory c =
    on_err_weaker c.parse.result
    (λ there. record {
      count = subst (λ o. IsSomeAnd o (λ n. IsTrue (is_between 1 4096 n))) c.in-Some.ensures.exact (sym c.is_count.ensures ∙ c.if-not-is_count.false);
      fence = subst (λ (l : List ℕ). IsSome (fence_at l)) c.split_at.ensures.back there;
    })
    c.parse.ensures.memory
