use Rattle.dfs_mem.specs.MemHost.{state_of}
use Rattle.dfs_session.specs.Sound.{IsSound}
use Rattle.deltafs.proofs.session_tests.orders_and_repeats_of_names_in_use.Given as goal

abbrev pub invariant-loop-index : goal.invariant-loop-index
invariant-loop-index g l = IsSound (state_of l.host) l.session
