use Rattle.dfs_mem.specs.MemHost.{state_of}
use Rattle.dfs_session.specs.Sound.{IsSound}
use Rattle.deltafs.proofs.session_tests.expect_lines.Given as goal

abbrev pub invariant-loop-index : goal.invariant-loop-index
invariant-loop-index g l = IsSound (state_of l.host) l.session
