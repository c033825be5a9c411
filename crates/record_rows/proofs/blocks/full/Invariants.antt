use Rattle.std.proofs.Common.{◌≡◌}
use Rattle.dfs_block.specs.Block.{last_key}
use Rattle.record_rows.proofs.blocks.full.Given as goal

abbrev pub invariant-loop-letter : goal.invariant-loop-letter
invariant-loop-letter g l = last_key l.builder ≡ l.last
