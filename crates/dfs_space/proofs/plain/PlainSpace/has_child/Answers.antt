use Rattle.std.proofs.Common.{◌∙◌, arith}
use Rattle.dfs_space.proofs.Entries.{range_is, any_first}
use Rattle.dfs_space.proofs.plain.PlainSpace.has_child.Goals as goal

pub returns : goal.returns
returns c =
    let dir = c.args.dir in
    let m = c.args.self.now in
    c.is_some.ensures
    ∙ any_first dir m _ _ _
    (range_is dir m _ _ c.in_ok-span.span (omega arith, omega arith) c.self.invariant c.range.ensures.ordered c.self.view_is c.in_ok-span.ensures (c.range.ensures.between tt))
    c.next.ensures.steps
