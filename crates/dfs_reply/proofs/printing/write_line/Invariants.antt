use Rattle.std.proofs.Common.{◌≡◌, ◌++◌, take, flat_map}
use Rattle.dfs_reply.specs.Piece.{piece_text}
use Rattle.dfs_reply.proofs.Lines.{behind}
use Rattle.dfs_reply.proofs.printing.write_line.Given as goal

-- the first word stands, and behind it those before the index
abbrev pub invariant-loop-piece : goal.invariant-loop-piece
invariant-loop-piece l = l.out.items ≡ l.fn.out.items ++ (piece_text l.fn.first ++ flat_map behind (take l.piece-index l.others))
