use Rattle.dfs_registry.proofs.Pieces.{open_where_one, shut_where_short}
use Rattle.dfs_registry.proofs.gate.is_open.Goals as goal

pub returns-then-piece-gt-GATE_LEN-clause-answer : goal.returns-then-piece-gt-GATE_LEN-clause-answer
returns-then-piece-gt-GATE_LEN-clause-answer c = open_where_one c.args.piece.now c.if-piece-gt-GATE_LEN.true

pub returns-else-piece-gt-GATE_LEN-clause-answer : goal.returns-else-piece-gt-GATE_LEN-clause-answer
returns-else-piece-gt-GATE_LEN-clause-answer c = shut_where_short c.args.piece.now c.if-piece-gt-GATE_LEN.false
