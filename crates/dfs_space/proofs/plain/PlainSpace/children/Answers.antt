use Rattle.std.proofs.Common.{arith}
use Rattle.dfs_space.proofs.Entries.{range_is, all_listed}
use Rattle.dfs_space.proofs.plain.PlainSpace.children.Goals as goal

pub returns : goal.returns
returns c =
    let dir = c.args.dir in
    let m = c.args.self.now in
    all_listed dir m _ _
    (range_is dir m _ _ c.in_ok-span.span (omega arith, omega arith) c.self.invariant c.range.ensures.ordered c.self.view_is c.in_ok-span.ensures (c.range.ensures.between tt))
    c.listed.ensures
