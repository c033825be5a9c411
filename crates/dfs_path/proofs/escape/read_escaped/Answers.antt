use Rattle.std.proofs.Common.{◌++◌, refl, sym, ◌∙◌, ap, arith}
use Rattle.std.proofs.lemmas.List.Elements.{All-from_get_or}
use Rattle.percent_encoding.proofs.PercentLemmas.{IsByte}
use Rattle.dfs_path.proofs.Escapes.{none_of}
use Rattle.dfs_path.proofs.Printed.{decoded}
use Rattle.dfs_path.proofs.escape.read_escaped.Goals as goal

pub returns-then-not-is_escaped-clause-bad : goal.returns-then-not-is_escaped-clause-bad
returns-then-not-is_escaped-clause-bad c = (λ _. none_of _ (sym c.is_escaped.ensures ∙ c.if-not-is_escaped.true), λ _. refl)

pub returns-in-Ok-clause-means : goal.returns-in-Ok-clause-means
returns-in-Ok-clause-means c =
    let small = All-from_get_or IsByte c.args.word.now 0 (λ i within. omega (arith, c.type_inv.word i)) in
    (_, decoded c.args.word.now small (sym c.is_escaped.ensures ∙ c.if-not-is_escaped.false), c.in-Ok.ensures.ok ∙ ap (λ bytes. c.args.out.now.items ++ bytes) c.percent_decode.ensures.bytes)
