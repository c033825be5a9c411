use Rattle.std.proofs.Common.{◌<◌, subst, sym, ◌∙◌, ap, arith}
use Rattle.dfs_path.proofs.Joined.{joined, names_of, stops_long, left, less_left}
use Rattle.dfs_path.proofs.Cuts.{pieces_behind}
use Rattle.dfs_path.proofs.components.read_names.Goals as goal

pub returns-then-len-ge-MOST_NAMES-clause-bad : goal.returns-then-len-ge-MOST_NAMES-clause-bad
returns-then-len-ge-MOST_NAMES-clause-bad c _ =
    sym c.loop-rest.invariant.read ∙ ap (λ rest. joined c.loop-rest.names.items (names_of (pieces_behind 47 rest))) c.in-Some.is
    ∙ stops_long c.loop-rest.names.items c.in-Some.text.now (omega arith)

pub loop-rest-smaller : goal.loop-rest-smaller
loop-rest-smaller c =
    subst (λ rest. left c.cut.result.1 < left rest) (sym c.in-Some.is) (less_left c.in-Some.text.now c.cut.result.0.now c.cut.result.1 c.cut.ensures)
