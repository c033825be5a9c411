use Rattle.std.specs.Prelude.{option_copied}
use Rattle.dfs_cursor.proofs.Parts.{one_passed}
use Rattle.dfs_cursor.proofs.ranges.pass_below.Goals as goal

pub loop-inner-preserved : goal.loop-inner-preserved
loop-inner-preserved g c =
    one_passed g.C.Records.rest g.C.Records.unread g.C.Records.bound g.C.Records.Comes (option_copied c.args.low) (option_copied c.args.high) c.args.inner.now c.loop-inner.inner c.advance.new.self c.loop-inner.invariant
    c.loop-inner-test.ensures c.advance.ensures.rest c.advance.ensures.unread c.advance.ensures.bound c.advance.ensures.comes (g.met.C.Records.comes_begins c.loop-inner.inner)
