use Rattle.std.proofs.Common.{◌≡◌, ◌≤◌, length}
use Rattle.dfs_record.specs.Pieces.{words}
use Rattle.dfs_script.proofs.words.next_word.Given as goal

abbrev pub invariant-loop-behind : goal.invariant-loop-behind
invariant-loop-behind l = (words 32 l.line ≡ words 32 l.rest) × (length l.rest ≤ length l.line)

abbrev pub decreases-loop-behind : goal.decreases-loop-behind
decreases-loop-behind l = length l.rest
