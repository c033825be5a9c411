use Rattle.std.proofs.Common.{◌+◌, ◌-◌, arith}
use Rattle.dfs_gen.specs.Script.{group_count}
use Rattle.dfs_gen.proofs.Lines.{group_more}
use Rattle.dfs_gen.proofs.line.Line.after_group.Goals as goal

pub returns-then-group-last_group-clause-lines : goal.returns-then-group-last_group-clause-lines
returns-then-group-last_group-clause-lines c =
    let next = c.args.group + 1 in
    group_more c.args.creates next (group_count c.args.creates - next) (group_count c.args.creates - (next + 1)) (omega arith)
