use Rattle.std.specs.Prelude.{option_map}
use Rattle.dfs_mem.specs.MemHost.{state_of}
use Rattle.dfs_record.specs.Lend.{key_of}
use Rattle.change_rows.proofs.Pushing.{IsPushing}
use Rattle.change_rows.proofs.tests.publish.Given as goal

abbrev pub invariant-loop-index : goal.invariant-loop-index
invariant-loop-index g l = IsPushing (state_of l.host) l.log l.writer (option_map key_of l.last)
