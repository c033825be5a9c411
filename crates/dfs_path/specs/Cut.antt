-- Bytes cut at their first separator.
use Rattle.std.specs.Prelude.{◌≡◌, ◌<◌, ℕ, List, [], ◌∷◌, length, Option, MatchOption}
use Rattle.std.specs.Borrow.{Bor}
use Rattle.dfs_record.specs.Pieces.{pieces}

-- The first piece, and the bytes that the other pieces are cut from. With no separator there is one piece.
abbrev pub IsCut : ℕ → List ℕ → List ℕ → Option (Bor (List ℕ)) → Type 0
IsCut separator bytes first behind =
    MatchOption behind (pieces separator bytes ≡ first ∷ []) (λ rest. (pieces separator bytes ≡ first ∷ pieces separator rest.now) × (length rest.now < length bytes))
