use Rattle.std.proofs.Common.{◌∙◌, ap}
use Rattle.std.specs.Prelude.{Some, option_copied}
use Rattle.dfs_record.specs.Delta.{records_of}
use Rattle.dfs_cursor.specs.Ranges.{part}
use Rattle.dfs_view.proofs.Parts.{part_from}
use Rattle.dfs_view.proofs.sources.part_of_buffer.Goals as goal

pub returns-clause-rest : goal.returns-clause-rest
returns-clause-rest c =
    c.new.ensures.rest ∙ ap (part (Some c.args.low.now) (option_copied c.args.high)) c.records_from-records.ensures.rest ∙ part_from c.args.low.now (option_copied c.args.high) (records_of c.args.buffer.now.held)
