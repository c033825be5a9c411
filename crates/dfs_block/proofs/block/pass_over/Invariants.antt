use Rattle.std.specs.Prelude.{option_map}
use Rattle.dfs_record.specs.Lend.{key_of, value_of}
use Rattle.dfs_block.proofs.Reading.{HasSought}
use Rattle.dfs_block.proofs.block.pass_over.Given as goal

abbrev pub invariant-loop-turn : goal.invariant-loop-turn
invariant-loop-turn l = HasSought l.bytes l.rest l._turn (option_map key_of l.last) (option_map key_of l.fn.key) (option_map value_of l.value)
