use Rattle.dfs_fence.proofs.Parsing.{HasRead}
use Rattle.dfs_fence.proofs.fences.parse.Given as goal

abbrev pub invariant-loop-turn : goal.invariant-loop-turn
invariant-loop-turn l = HasRead l.bytes l.rest l._turn l.fences
