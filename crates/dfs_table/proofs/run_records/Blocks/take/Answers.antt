use Rattle.std.proofs.Common.{sym, ◌∙◌, ◌+◌, ◌∷◌, ap, arith, drop, length, refl}
use Rattle.std.specs.Prelude.{map}
use Rattle.std.proofs.lemmas.Option.{slice_get_read}
use Rattle.dfs_fence.specs.Ranges.{is_below}
use Rattle.dfs_table.specs.RunRecords.{blocks_left, counted, up_to}
use Rattle.dfs_table.proofs.Running.{no_block, taken_block}
use Rattle.dfs_table.proofs.run_records.Blocks.take.Goals as goal

pub returns-then-not-is_below-clause-none : goal.returns-then-not-is_below-clause-none
returns-then-not-is_below-clause-none c = λ none.
    let new = c.pass_ended.new.self in
    let f = c.get-fence.result.now in
    let first = slice_get_read new.tables.now (length new.tables.now) 0 c.table-item.result refl (omega (arith, c.in-len1-up.len_at_least)) c.table-item.is in
    (λ i. map counted (up_to (sym c.pass_ended.ensures.high i) (sym c.pass_ended.ensures.same i)))
    ∙ no_block new.high new.bytes.now f new.tables.now new.next c.table-item.result first c.get-fence.ensures.fence (ap (is_below f.first) (sym c.as_ref.ensures.value) ∙ sym c.is_below.ensures ∙ c.if-not-is_below.true)

pub returns-clause-some : goal.returns-clause-some
returns-clause-some c =
    let new = c.pass_ended.new.self in
    let f = c.get-fence.result.now in
    let first = slice_get_read new.tables.now (length new.tables.now) 0 c.table-item.result refl (omega (arith, c.in-len1-up.len_at_least)) c.table-item.is in
    let records = c.cut-2.ensures.behind ∙ ap (drop 2) c.cut.ensures.front in
    (λ i. map counted (up_to (sym c.pass_ended.ensures.high i) (sym c.pass_ended.ensures.same i)))
    ∙ taken_block new.high new.bytes.now f new.tables.now new.next c.table-item.result first c.get-fence.ensures.fence (ap (is_below f.first) (sym c.as_ref.ensures.value) ∙ sym c.is_below.ensures ∙ c.if-not-is_below.false)
    ∙ (λ i. (f.count, sym records i) ∷ blocks_left new.high new.tables.now (new.next + 1) (sym c.cut.ensures.behind i))
