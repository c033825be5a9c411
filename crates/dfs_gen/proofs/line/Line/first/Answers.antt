use Rattle.std.proofs.Common.{sym, arith}
use Rattle.dfs_gen.proofs.Lines.{first_group}
use Rattle.dfs_gen.proofs.line.Line.first.Goals as goal

pub returns-else-creates-eq0-clause-lines : goal.returns-else-creates-eq0-clause-lines
returns-else-creates-eq0-clause-lines c = sym (first_group c.args.creates (omega arith))
