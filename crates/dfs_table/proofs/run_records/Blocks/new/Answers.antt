use Rattle.std.proofs.Common.{sym, ◌∙◌, ◌≤◌, ap, length, subst}
use Rattle.std.specs.Prelude.{option_copied}
use Rattle.dfs_table.specs.RunRecords.{blocks_left, records_in}
use Rattle.dfs_table.specs.Counts.{count_of}
use Rattle.dfs_table.specs.Tables.{all_fences}
use Rattle.dfs_table.proofs.Few.{left_few}
use Rattle.dfs_table.proofs.Running.{begun, none_between}
use Rattle.dfs_table.proofs.run_records.Blocks.new.Goals as goal

pub returns-then-not-has_room-clause-blocks : goal.returns-then-not-has_room-clause-blocks
returns-then-not-has_room-clause-blocks c = λ file each.
    sym (none_between file (option_copied c.args.low) (option_copied c.args.high) c.args.run.now.tables (sym c.has_room.ensures ∙ c.if-not-has_room.true))

pub returns-clause-blocks : goal.returns-clause-blocks
returns-clause-blocks c = λ file each.
    let tables = c.from-tables.ensures.tables in
    ap (λ high. records_in (blocks_left high c.from-tables.result.now c.first_block-next.result.0 c.first_block-next.result.1.now)) c.in_ok-end.ensures
    ∙ begun file (option_copied c.args.low) (option_copied c.args.high) c.args.run.now.tables tables.0 tables.1 (sym c.has_room.ensures ∙ c.if-not-has_room.false) c.from-tables.ensures.rise each c.from-tables.result.now tables.2
    c.first_block-next.result.0 c.first_block-next.result.1.now (c.first_block-next.ensures file)

pub returns-clause-few : goal.returns-clause-few
returns-clause-few c =
    let tables = c.from-tables.ensures.tables in
    let high = c.in_ok-end.end in
    let first = c.first_block-next.result in
    subst (λ ts. length (records_in (blocks_left high ts first.0 first.1.now)) ≤ count_of (all_fences c.args.run.now.tables)) (sym tables.2)
    (left_few high c.args.run.now.tables tables.0 first.0 first.1.now)
