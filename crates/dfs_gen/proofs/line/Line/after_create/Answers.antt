use Rattle.std.proofs.Common.{◌+◌, ◌/◌, refl, arith}
use Rattle.dfs_gen.proofs.Lines.{create_more}
use Rattle.dfs_gen.proofs.line.Line.after_create.Goals as goal

pub returns-then-next-ne0-clause-lines : goal.returns-then-next-ne0-clause-lines
returns-then-next-ne0-clause-lines c =
    create_more c.args.creates (c.args.number / 1000) (c.args.number + 1) (c.args.number + 1 + 1) (omega arith) (omega arith) refl
