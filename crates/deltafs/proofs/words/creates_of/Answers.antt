use Rattle.std.proofs.Common.{◌≡◌, true, sym, ap, ◌∙◌}
use Rattle.std.specs.List.{list_all}
use Rattle.dfs_record.specs.Name.{is_digit}
use Rattle.deltafs.proofs.Numbers.{parsed, unparsed, creates_some, creates_above, creates_none}
use Rattle.deltafs.proofs.words.creates_of.Goals as goal

pub returns-in-Ok : goal.returns-in-Ok
returns-in-Ok c =
    let word = c.args.word.now in
    let digits : list_all is_digit word ≡ true = ap (list_all is_digit) (sym c.as_bytes.ensures.value) ∙ sym c.has_digits.ensures ∙ c.if-not-has_digits.false in
    sym (creates_some word c.in-Ok.creates c.if-word-gt-MOST_DIGITS.false digits (parsed word c.parse.result c.parse.ensures.value.0 digits c.in-Ok.creates c.in-Ok.is) c.if-creates-le-MOST_CREATES.true)

pub returns-in_default : goal.returns-in_default
returns-in_default c =
    let word = c.args.word.now in
    let digits : list_all is_digit word ≡ true = ap (list_all is_digit) (sym c.as_bytes.ensures.value) ∙ sym c.has_digits.ensures ∙ c.if-not-has_digits.false in
    sym (creates_above word c.in-Ok.creates c.if-word-gt-MOST_DIGITS.false digits (parsed word c.parse.result c.parse.ensures.value.0 digits c.in-Ok.creates c.in-Ok.is) c.if-creates-le-MOST_CREATES.false)

pub returns-in_default-2 : goal.returns-in_default-2
returns-in_default-2 c =
    let word = c.args.word.now in
    let digits : list_all is_digit word ≡ true = ap (list_all is_digit) (sym c.as_bytes.ensures.value) ∙ sym c.has_digits.ensures ∙ c.if-not-has_digits.false in
    sym (creates_none word (unparsed word c.parse.result c.parse.ensures.value.0 digits c.in_default.field-0 c.in_default.is))
