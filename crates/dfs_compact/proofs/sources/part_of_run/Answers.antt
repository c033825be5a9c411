use Rattle.std.proofs.Common.{◌∙◌, ap, sym, subst, arith, length}
use Rattle.std.specs.Prelude.{option_copied}
use Rattle.std.specs.List.{AllByRecursion}
use Rattle.dfs_cursor.specs.Ranges.{is_within, part}
use Rattle.dfs_table.specs.Writer.{KeyPasses}
use Rattle.dfs_table.specs.Cursors.{run_rest}
use Rattle.dfs_compact.proofs.Ranges.{all_within, part_few, part_of_source}
use Rattle.dfs_compact.proofs.sources.part_of_run.Goals as goal

pub returns-clause-rest : goal.returns-clause-rest
returns-clause-rest c = λ files d source.
    c.new-2.ensures.rest
    ∙ ap (part (option_copied c.args.low) (option_copied c.args.high)) (c.in_ok-records.ensures.rest (files source.file) source.stored.each)
    ∙ part_of_source files c.args.run.now d (option_copied c.args.low) (option_copied c.args.high) source

pub returns-clause-few : goal.returns-clause-few
returns-clause-few c = omega (arith, ap length c.new-2.ensures.rest, part_few (option_copied c.args.low) (option_copied c.args.high) (run_rest c.in_ok-records.records), c.in_ok-records.ensures.few)

pub returns-clause-within : goal.returns-clause-within
returns-clause-within c = subst (AllByRecursion (KeyPasses (is_within (option_copied c.args.low) (option_copied c.args.high)))) (sym c.new-2.ensures.rest) (all_within (option_copied c.args.low) (option_copied c.args.high) (run_rest c.in_ok-records.records))
