use Rattle.std.proofs.Common.{length, drop, arith, ap, sym, subst, ◌∙◌}
use Rattle.dfs_record.specs.Lend.{key_of, record_of}
use Rattle.dfs_record.specs.Delta.{last_value}
use Rattle.dfs_record.specs.Records.{KeysRise}
use Rattle.dfs_block.specs.Front.{records_front}
use Rattle.dfs_block.specs.Left.{records_left}
use Rattle.dfs_block.proofs.Rising.{value_less, value_equal, value_greater}
use Rattle.dfs_block.proofs.block.Block.value_of.Goals as goal

pub returns-in-Less-clause-value : goal.returns-in-Less-clause-value
returns-in-Less-clause-value c =
    let left = c.loop-records.records in
    let first = ap (λ f. records_left f left.left left.behind.now) c.in-Some.is in
    let q = key_of c.args.key in
    sym (
    sym c.loop-records.invariant
    ∙ ap (last_value q) first
    ∙ value_less q (record_of c.in-Some.rec) (records_front left.left left.behind.now) (subst KeysRise first left.rise) (sym c.order.ensures ∙ c.in-Less.is)
    )

pub returns-in-Equal-clause-value : goal.returns-in-Equal-clause-value
returns-in-Equal-clause-value c =
    let left = c.loop-records.records in
    let first = ap (λ f. records_left f left.left left.behind.now) c.in-Some.is in
    let q = key_of c.args.key in
    sym (
    sym c.loop-records.invariant
    ∙ ap (last_value q) first
    ∙ value_equal q (record_of c.in-Some.rec) (records_front left.left left.behind.now) (subst KeysRise first left.rise) (sym c.order.ensures ∙ c.in-Equal.is)
    )

pub loop-records-preserved : goal.loop-records-preserved
loop-records-preserved c =
    let left = c.loop-records.records in
    let first = ap (λ f. records_left f left.left left.behind.now) c.in-Some.is in
    let q = key_of c.args.key in
    ap (last_value q) (c.advance.ensures.rest ∙ ap (drop 1) first)
    ∙ sym (value_greater q (record_of c.in-Some.rec) (records_front left.left left.behind.now) (sym c.order.ensures ∙ c.in-Greater.is))
    ∙ ap (last_value q) (sym first)
    ∙ c.loop-records.invariant

pub loop-records-smaller : goal.loop-records-smaller
loop-records-smaller c =
    let left = c.loop-records.records in
    let first = ap (λ f. records_left f left.left left.behind.now) c.in-Some.is in
    omega (arith, ap length first, ap length (c.advance.ensures.rest ∙ ap (drop 1) first))
