use Rattle.std.proofs.Common.{◌≡◌, ◌++◌, take}
use Rattle.percent_encoding.specs.Iter.{encoded_text}
use Rattle.percent_encoding.specs.Percent.{percent_encode}
use Rattle.dfs_path.specs.declared.escape.TheConstants.{ESCAPED}
use Rattle.dfs_path.proofs.escape.write_escaped.Given as goal

abbrev pub invariant-loop-piece : goal.invariant-loop-piece
invariant-loop-piece l =
    (goal.iterator-loop-piece).can_next l.piece-iterator ×
    (goal.iterator-loop-piece).is_finite l.piece-iterator ×
    (l.out.items ++ encoded_text l.piece-iterator ≡ l.fn.out.items ++ percent_encode ESCAPED l.bytes) ×
    (take l.before l.out.items ≡ l.fn.out.items)
