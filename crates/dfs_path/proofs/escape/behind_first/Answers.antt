use Rattle.std.proofs.Common.{sym, ◌∙◌, arith}
use Rattle.dfs_path.proofs.Escapes.{cut_behind_plain, cut_behind_escape}
use Rattle.dfs_path.proofs.escape.behind_first.Goals as goal

pub returns-then-is_hex_digit-2 : goal.returns-then-is_hex_digit-2
returns-then-is_hex_digit-2 c =
    cut_behind_escape c.args.word.now (omega arith) (cc)
    (sym c.is_hex_digit.ensures ∙ c.if-is_hex_digit.true)
    (sym c.is_hex_digit-then-is_hex_digit.ensures ∙ c.if-is_hex_digit-2.true)

pub returns-then-is_plain : goal.returns-then-is_plain
returns-then-is_plain c = cut_behind_plain c.args.word.now c.requires (sym c.is_plain.ensures ∙ c.if-is_plain.true)
