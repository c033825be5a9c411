use Rattle.std.proofs.Common.{Some, ap, sym, ◌∙◌, refl, arith, ℕ}
use Rattle.std.specs.Ordering.{is_lt}
use Rattle.dfs_record.specs.declared.Key.{Key}
use Rattle.dfs_record.specs.Key.{key_cmp}
use Rattle.dfs_record.specs.Lend.{key_of}
use Rattle.dfs_fence.proofs.Orders.{less, not_below}
use Rattle.dfs_table.specs.Spans.{NoneSpans}
use Rattle.dfs_table.proofs.Searching.{begins_above, has_first, none_there, spans_there, stands_there}
use Rattle.dfs_table.proofs.run.Tables.find.Goals as goal
use Rattle.dfs_table.proofs.run.Tables.find.Goals.{Then-index-len, Then-is_lt}

all_below : (c : Then-index-len) → NoneSpans c.args.self.now (key_of c.args.key)
all_below c =
    none_there c.args.self.now (key_of c.args.key) c.ending_below-index.result c.ending_below-index.ensures.tables c.ending_below-index.ensures.point
    (omega (arith, c.if-index-len.true, c.len.ensures.len))

pub returns-then-index-len-clause-only : goal.returns-then-index-len-clause-only
returns-then-index-len-clause-only c = λ i at. absurd (all_below c i at)

pub returns-then-index-len-clause-none : goal.returns-then-index-len-clause-none
returns-then-index-len-clause-none c = ((λ _. all_below c), (λ _. refl))

pub get-requires-2 : goal.get-requires-2
get-requires-2 c = has_first c.args.self.now c.ending_below-index.result c.get.result.now c.ending_below-index.ensures.tables c.get.ensures.table

all_apart : (c : Then-is_lt) → NoneSpans c.args.self.now (key_of c.args.key)
all_apart c =
    begins_above c.args.self.now (key_of c.args.key) c.ending_below-index.result c.get.result.now c.get-2.result.now c.ending_below-index.ensures.tables c.ending_below-index.ensures.point c.get.ensures.table c.get-2.ensures.fence
    (less _ (ap (λ (k : Key). is_lt (key_cmp (key_of c.args.key) k)) (sym c.lend-first.ensures.value) ∙ ap is_lt (sym c.order.ensures) ∙ sym c.is_lt.ensures ∙ c.if-is_lt.true))

pub returns-then-is_lt-clause-only : goal.returns-then-is_lt-clause-only
returns-then-is_lt-clause-only c = λ i at. absurd (all_apart c i at)

pub returns-then-is_lt-clause-none : goal.returns-then-is_lt-clause-none
returns-then-is_lt-clause-none c = ((λ _. all_apart c), (λ _. refl))

pub returns-clause-found : goal.returns-clause-found
returns-clause-found c =
    spans_there c.args.self.now (key_of c.args.key) c.ending_below-index.result c.get.result.now c.get-2.result.now c.ending_below-index.ensures.tables c.ending_below-index.ensures.point c.get.ensures.table c.get-2.ensures.fence
    (not_below (key_of c.args.key) c.get-2.result.now.first (ap (λ (k : Key). is_lt (key_cmp (key_of c.args.key) k)) (sym c.lend-first.ensures.value) ∙ ap is_lt (sym c.order.ensures) ∙ sym c.is_lt.ensures ∙ c.if-is_lt.false))

pub returns-clause-only : goal.returns-clause-only
returns-clause-only c = λ i at. ap (λ (n : ℕ). Some n) (sym (stands_there c.args.self.now (key_of c.args.key) c.ending_below-index.result c.ending_below-index.ensures.tables c.ending_below-index.ensures.point i at))

pub returns-clause-none : goal.returns-clause-none
returns-clause-none c = ((λ e. absurd cc), (λ none. absurd (none c.ending_below-index.result (returns-clause-found c))))
