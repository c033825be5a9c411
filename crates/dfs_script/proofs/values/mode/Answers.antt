use Rattle.std.proofs.Common.{sym, ◌∙◌, arith}
use Rattle.dfs_script.proofs.Worth.{mode_fits, mode_is_there}
use Rattle.dfs_script.proofs.values.mode.Goals as goal

pub returns-else-value-lt65536 : goal.returns-else-value-lt65536
returns-else-value-lt65536 c =
    let fits = mode_fits c.args.word.now c.in-Some.value (sym c.has_length.ensures ∙ c.if-has_length.true) (sym c.has_octal_digits.ensures ∙ c.if-has_octal_digits.true) (sym c.in-Some.is ∙ c.value_of.ensures) in
    absurd (omega (arith, fits))

pub returns-in-None : goal.returns-in-None
returns-in-None c = absurd (mode_is_there c.args.word.now (sym c.has_length.ensures ∙ c.if-has_length.true) (sym c.has_octal_digits.ensures ∙ c.if-has_octal_digits.true) (sym c.in-None.is ∙ c.value_of.ensures))
