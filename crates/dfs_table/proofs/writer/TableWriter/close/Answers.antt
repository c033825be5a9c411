use Rattle.std.proofs.Common.{◌∙◌, ◌++◌, sym, ap, subst, arith}
use Rattle.std.proofs.lemmas.List.{append-nil}
use Rattle.dfs_fence.specs.Index.{AreApart}
use Rattle.dfs_table.specs.Tables.{all_fences}
use Rattle.dfs_table.proofs.Appends.{goes_on}
use Rattle.dfs_table.proofs.Closing.{table_fences}
use Rattle.dfs_table.proofs.Lengths.{block_cost, index_cost}
use Rattle.dfs_table.proofs.Steps.{added_table, after_both, block_owed, rises_after_block, same_after_both}
use Rattle.dfs_table.proofs.writer.TableWriter.close.Goals as goal

pub returns-in_err-close_block-clause-growth : goal.returns-in_err-close_block-clause-growth
returns-in_err-close_block-clause-growth g c = omega (arith, c.close_block.ensures.growth, block_cost c.args.self.now.records c.close_block.ensures.block)

pub close_table-requires-clause-rise : goal.close_table-requires-clause-rise
close_table-requires-clause-rise g c = rises_after_block c.in_ok-close_block.ensures.closes c.requires.sound

pub returns-in_err-close_table-clause-growth : goal.returns-in_err-close_table-clause-growth
returns-in_err-close_table-clause-growth g c =
    let ensured = c.in_ok-close_block.ensures in
    omega (arith, c.close_table.ensures.growth, index_cost c.close_block.new.self.fences c.close_table.ensures.index, block_owed ensured.closes, ap (λ l. l.len) ensured.appended.longer)

pub returns-in_err-close_table-clause-left : goal.returns-in_err-close_table-clause-left
returns-in_err-close_table-clause-left g c = goes_on c.requires.log c.close_block.ensures.left c.in_ok-close_block.ensures.appended c.close_table.ensures.left

pub returns-clause-pushed : goal.returns-clause-pushed
returns-clause-pushed g c =
    let first = c.in_ok-close_block.ensures in let then = c.in_ok-close_table.ensures in
    same_after_both c.requires.log c.requires.stands c.close_block.ensures.left first.closes first.appended then.closes then.appended

pub returns-clause-stands : goal.returns-clause-stands
returns-clause-stands g c =
    let first = c.in_ok-close_block.ensures in let then = c.in_ok-close_table.ensures in
    after_both c.requires.log c.requires.stands c.close_block.ensures.left first.closes first.appended then.closes then.appended

pub returns-clause-rise : goal.returns-clause-rise
returns-clause-rise g c =
    let first = c.in_ok-close_block.ensures in let then = c.in_ok-close_table.ensures in
    let all = table_fences c.close_block.new.log.file c.close_block.new.log.len c.close_block.new.self c.close_table.new.self then.closes in
    subst AreApart (sym all ∙ ap (λ fs. all_fences c.close_table.new.self.closed ++ fs) then.closes.fences ∙ append-nil (all_fences c.close_table.new.self.closed)) (rises_after_block first.closes c.requires.sound)

pub returns-clause-last : goal.returns-clause-last
returns-clause-last g c = λ _. added_table c.in_ok-close_block.ensures.closes c.in_ok-close_table.ensures.closes (ap (λ l. l.len) c.in_ok-close_block.ensures.appended.longer)

pub returns-clause-growth : goal.returns-clause-growth
returns-clause-growth g c =
    let ensured = c.in_ok-close_block.ensures in
    omega (arith, c.close_table.ensures.growth, index_cost c.close_block.new.self.fences c.close_table.ensures.index, block_owed ensured.closes, ap (λ l. l.len) ensured.appended.longer)

pub returns-clause-left : goal.returns-clause-left
returns-clause-left g c = goes_on c.requires.log c.close_block.ensures.left c.in_ok-close_block.ensures.appended c.close_table.ensures.left
