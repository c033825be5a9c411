use Rattle.std.proofs.Common.{length}
use Rattle.std.specs.Prelude.{option_copied}
use Rattle.dfs_cursor.specs.Ranges.{HasPassed}
use Rattle.dfs_cursor.proofs.ranges.pass_below.Given as goal

abbrev pub invariant-loop-inner : goal.invariant-loop-inner
invariant-loop-inner g l = HasPassed g.C.Records.rest g.C.Records.unread g.C.Records.bound g.C.Records.Comes (option_copied l.low) (option_copied l.high) l.initial.inner l.inner

abbrev pub decreases-loop-inner : goal.decreases-loop-inner
decreases-loop-inner g l = length (g.C.Records.rest l.inner)
