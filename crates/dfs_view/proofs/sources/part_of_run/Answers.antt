use Rattle.std.proofs.Common.{◌∙◌, ap}
use Rattle.std.specs.Prelude.{Some, option_copied}
use Rattle.dfs_host.specs.Host.{bytes_of}
use Rattle.dfs_cursor.specs.Ranges.{part}
use Rattle.dfs_view.proofs.Parts.{part_of_run}
use Rattle.dfs_view.proofs.sources.part_of_run.Goals as goal

pub returns-clause-rest : goal.returns-clause-rest
returns-clause-rest c = λ host file lies.
    c.new-2.ensures.rest
    ∙ ap (part (Some c.args.low.now) (option_copied c.args.high)) (c.in_ok-records.ensures.rest (bytes_of host file) lies.each)
    ∙ part_of_run host file c.args.run.now (Some c.args.low.now) (option_copied c.args.high) lies
