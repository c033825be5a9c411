use Rattle.std.proofs.Common.{◌∷◌, [], ap, arith, length, refl}
use Rattle.std.proofs.lemmas.List.{length-append}
use Rattle.dfs_table.specs.Writer.{WriterState}
use Rattle.dfs_table.proofs.Appends.{goes_on}
use Rattle.dfs_table.proofs.Lengths.{block_cost, index_cost}
use Rattle.dfs_table.proofs.Steps.{added_block, added_block_before, after_block, after_both, block_owed, ready_after_block, ready_after_table, rises_after_block, same_after_block, same_after_both, table_owed}
use Rattle.dfs_table.proofs.writer.TableWriter.next_block.Goals as goal

pub returns-in_err-close_block-clause-growth_at_most : goal.returns-in_err-close_block-clause-growth_at_most
returns-in_err-close_block-clause-growth_at_most g c = omega (arith, c.close_block.ensures.growth, block_cost c.args.self.now.records c.close_block.ensures.block)

-- ---- the table has room for another block

pub returns-then-len-lt-MOST_BLOCKS-clause-pushed : goal.returns-then-len-lt-MOST_BLOCKS-clause-pushed
returns-then-len-lt-MOST_BLOCKS-clause-pushed g c =
    let ensured = c.in_ok-close_block.ensures in same_after_block c.requires.log c.requires.stands ensured.closes ensured.appended

pub returns-then-len-lt-MOST_BLOCKS-clause-stands : goal.returns-then-len-lt-MOST_BLOCKS-clause-stands
returns-then-len-lt-MOST_BLOCKS-clause-stands g c =
    let ensured = c.in_ok-close_block.ensures in after_block c.requires.log c.requires.stands ensured.closes ensured.appended

pub returns-then-len-lt-MOST_BLOCKS-clause-ready : goal.returns-then-len-lt-MOST_BLOCKS-clause-ready
returns-then-len-lt-MOST_BLOCKS-clause-ready g c =
    let ensured = c.in_ok-close_block.ensures in
    ready_after_block ensured.closes c.requires.sound c.requires.some ensured.same.0
    (omega (arith, c.if-len-lt-MOST_BLOCKS.true, c.len.ensures.len, ap (λ (w : WriterState). length w.fences) c.self.view_is))

pub returns-then-len-lt-MOST_BLOCKS-clause-block : goal.returns-then-len-lt-MOST_BLOCKS-clause-block
returns-then-len-lt-MOST_BLOCKS-clause-block g c = added_block c.in_ok-close_block.ensures.closes

pub returns-then-len-lt-MOST_BLOCKS-clause-growth : goal.returns-then-len-lt-MOST_BLOCKS-clause-growth
returns-then-len-lt-MOST_BLOCKS-clause-growth g c =
    let ensured = c.in_ok-close_block.ensures in omega (arith, block_owed ensured.closes, ap (λ l. l.len) ensured.appended.longer)

pub returns-then-len-lt-MOST_BLOCKS-clause-growth_at_most : goal.returns-then-len-lt-MOST_BLOCKS-clause-growth_at_most
returns-then-len-lt-MOST_BLOCKS-clause-growth_at_most g c = omega (arith, c.close_block.ensures.growth, block_cost c.args.self.now.records c.close_block.ensures.block)

-- ---- the table is closed

pub close_table-requires-clause-rise : goal.close_table-requires-clause-rise
close_table-requires-clause-rise g c = rises_after_block c.in_ok-close_block.ensures.closes c.requires.sound

pub returns-in_err-close_table-clause-growth_at_most : goal.returns-in_err-close_table-clause-growth_at_most
returns-in_err-close_table-clause-growth_at_most g c =
    let ensured = c.in_ok-close_block.ensures in
    omega (arith, c.close_table.ensures.growth, index_cost c.close_block.new.self.fences c.close_table.ensures.index, block_owed ensured.closes, ap (λ l. l.len) ensured.appended.longer)

pub returns-in_err-close_table-clause-left : goal.returns-in_err-close_table-clause-left
returns-in_err-close_table-clause-left g c = goes_on c.requires.log c.close_block.ensures.left c.in_ok-close_block.ensures.appended c.close_table.ensures.left

pub returns-then-may_begin-clause-pushed : goal.returns-then-may_begin-clause-pushed
returns-then-may_begin-clause-pushed g c =
    let first = c.in_ok-close_block.ensures in let then = c.in_ok-close_table.ensures in
    same_after_both c.requires.log c.requires.stands c.close_block.ensures.left first.closes first.appended then.closes then.appended

pub returns-then-may_begin-clause-stands : goal.returns-then-may_begin-clause-stands
returns-then-may_begin-clause-stands g c =
    let first = c.in_ok-close_block.ensures in let then = c.in_ok-close_table.ensures in
    after_both c.requires.log c.requires.stands c.close_block.ensures.left first.closes first.appended then.closes then.appended

pub returns-then-may_begin-clause-ready : goal.returns-then-may_begin-clause-ready
returns-then-may_begin-clause-ready g c =
    let first = c.in_ok-close_block.ensures.closes in
    ready_after_table first c.requires.sound c.in_ok-close_table.ensures.closes
    (omega (
      arith,
      c.if-len-lt-MOST_BLOCKS.false,
      c.len.ensures.len,
      ap (λ (w : WriterState). length w.fences) c.self.view_is,
      ap length first.fences,
      length-append c.args.self.now.fences (first.fence ∷ []),
      c.requires.sound.few,
    ))
    (c.if-may_begin.ensures.0 refl)

pub returns-then-may_begin-clause-block : goal.returns-then-may_begin-clause-block
returns-then-may_begin-clause-block g c = added_block_before c.in_ok-close_block.ensures.closes c.in_ok-close_table.ensures.closes (ap (λ l. l.len) c.in_ok-close_block.ensures.appended.longer)

pub returns-then-may_begin-clause-growth : goal.returns-then-may_begin-clause-growth
returns-then-may_begin-clause-growth g c =
    let first = c.in_ok-close_block.ensures in let then = c.in_ok-close_table.ensures in
    omega (arith, block_owed first.closes, ap (λ l. l.len) first.appended.longer, table_owed then.closes, ap (λ l. l.len) then.appended.longer)

pub returns-then-may_begin-clause-growth_at_most : goal.returns-then-may_begin-clause-growth_at_most
returns-then-may_begin-clause-growth_at_most g c =
    let ensured = c.in_ok-close_block.ensures in
    omega (arith, c.close_table.ensures.growth, index_cost c.close_block.new.self.fences c.close_table.ensures.index, block_owed ensured.closes, ap (λ l. l.len) ensured.appended.longer)

pub returns-then-may_begin-clause-left : goal.returns-then-may_begin-clause-left
returns-then-may_begin-clause-left g c = goes_on c.requires.log c.close_block.ensures.left c.in_ok-close_block.ensures.appended c.close_table.ensures.left

pub returns-else-may_begin-clause-growth_at_most : goal.returns-else-may_begin-clause-growth_at_most
returns-else-may_begin-clause-growth_at_most g c =
    let ensured = c.in_ok-close_block.ensures in
    omega (arith, c.close_table.ensures.growth, index_cost c.close_block.new.self.fences c.close_table.ensures.index, block_owed ensured.closes, ap (λ l. l.len) ensured.appended.longer)

pub returns-else-may_begin-clause-left : goal.returns-else-may_begin-clause-left
returns-else-may_begin-clause-left g c = goes_on c.requires.log c.close_block.ensures.left c.in_ok-close_block.ensures.appended c.close_table.ensures.left
