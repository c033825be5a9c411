use Rattle.std.proofs.Common.{◌≡◌, is_some, length}
use Rattle.dfs_path.specs.Escape.{unescaped}
use Rattle.dfs_path.proofs.escape.is_escaped.Given as goal

abbrev pub invariant-loop-rest : goal.invariant-loop-rest
invariant-loop-rest l = is_some (unescaped l.word) ≡ is_some (unescaped l.rest)

abbrev pub decreases-loop-rest : goal.decreases-loop-rest
decreases-loop-rest l = length l.rest
