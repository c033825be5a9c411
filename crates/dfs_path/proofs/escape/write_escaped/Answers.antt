use Rattle.std.proofs.Common.{◌++◌, sym, ◌∙◌, ap, arith}
use Rattle.std.proofs.lemmas.List.{append-nil}
use Rattle.std.proofs.lemmas.List.Elements.{All-from_get_or}
use Rattle.percent_encoding.proofs.PercentLemmas.{IsByte}
use Rattle.dfs_path.proofs.Printed.{encoded}
use Rattle.dfs_path.proofs.escape.write_escaped.Goals as goal

pub returns-clause-ok : goal.returns-clause-ok
returns-clause-ok c =
    let small = All-from_get_or IsByte c.args.bytes.now 0 (λ i within. omega (arith, c.type_inv.bytes i)) in
    sym (append-nil c.loop-piece.out.items) ∙ ap (λ rest. c.loop-piece.out.items ++ rest) (sym c.in-None.ensures.steps)
    ∙ c.loop-piece.invariant.2 ∙ ap (λ printed. c.args.out.now.items ++ printed) (encoded c.args.bytes.now small)
