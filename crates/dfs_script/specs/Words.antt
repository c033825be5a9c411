-- The first word of a line.
use Rattle.std.specs.Prelude.{◌≡◌, ◌<◌, ℕ, List, ◌∷◌, length}
use Rattle.dfs_record.specs.Pieces.{words}

-- The line's words are this one and those of the rest, which is shorter.
abbrev pub BeginsWith : List ℕ → List ℕ → List ℕ → Type 0
BeginsWith line word rest = (words 32 line ≡ word ∷ words 32 rest) × (length rest < length line)
