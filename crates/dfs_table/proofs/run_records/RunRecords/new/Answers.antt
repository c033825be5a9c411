use Rattle.std.proofs.Common.{sym, ◌∙◌, ap, ◌++◌, arith, length, List, []}
use Rattle.std.specs.Prelude.{option_copied}
use Rattle.dfs_record.specs.declared.Record.{Record}
use Rattle.dfs_block.proofs.Spelled.{front_zero}
use Rattle.dfs_table.specs.RunRecords.{records_in, blocks_left}
use Rattle.dfs_table.proofs.Few.{rest_few}
use Rattle.dfs_table.proofs.Running.{begun_rest, meeting_rises}
use Rattle.dfs_table.proofs.run_records.RunRecords.new.Goals as goal

pub returns-clause-rest : goal.returns-clause-rest
returns-clause-rest c = λ file each.
    let blocks = c.in_ok-blocks.blocks in
    begun_rest c.take-records.result _ _ _ c.take-records.ensures.taken
    (ap (λ l. l ++ records_in (blocks_left blocks.high blocks.tables.now blocks.next blocks.bytes.now)) (front_zero _) ∙ c.in_ok-blocks.ensures.blocks file each)
    (meeting_rises (option_copied c.args.low) (option_copied c.args.high) file c.args.run.now.tables c.new.ensures.tables each)

pub returns-clause-comes : goal.returns-clause-comes
returns-clause-comes c = λ files number each l.
    let e = returns-clause-rest c (files number) each in
    (λ h. h ∙ e, λ h. h ∙ sym e)

pub returns-clause-few : goal.returns-clause-few
returns-clause-few c =
    let blocks = c.in_ok-blocks.blocks in
    let coming = records_in (blocks_left blocks.high blocks.tables.now blocks.next blocks.bytes.now) in
    omega (
      arith,
      rest_few c.take-records.result _ _ c.take-records.ensures.taken,
      ap (λ (l : List Record). length (l ++ coming)) (front_zero []),
      c.in_ok-blocks.ensures.few,
    )
