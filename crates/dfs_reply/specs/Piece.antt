-- The words of which a line is written.
use Rattle.std.specs.Prelude.{◌≡◌, ℕ, List, ◌++◌, take, length, decimal, codes}
use Rattle.dfs_path.specs.Escape.{escaped}
use Rattle.dfs_reply.specs.Text.{octal}
use Rattle.dfs_reply.specs.declared.printing.Piece.{Piece}
use Rattle.dfs_reply.specs.declared.printing.Piece.TheVariants.{Text, Number, Mode, Identity, Escaped}

-- the bytes of a word
abbrev pub piece_text : Piece → List ℕ
piece_text (Text bytes) = bytes.now
piece_text (Number n) = decimal n
piece_text (Mode mode) = octal mode
piece_text (Identity id) = decimal id.job ++ codes "." ++ decimal id.counter
piece_text (Escaped bytes) = escaped bytes.now

-- the new bytes begin with the old ones
abbrev pub Keeps : List ℕ → List ℕ → Type 0
Keeps old new = take (length old) new ≡ old
