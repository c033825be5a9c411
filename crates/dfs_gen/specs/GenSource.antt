-- A source of a generated script. It is seen as the bytes to come.
use Rattle.std.specs.Prelude.{ℕ, ◌≤◌, true, List, drop, length, flat_map, Option, Some, None}
use Rattle.dfs_host.specs.Source.{SourceState}
use Rattle.dfs_gen.specs.declared.line.Line.{Line}
use Rattle.dfs_gen.specs.Script.{ended}
use Rattle.dfs_gen.specs.Line.{IsLine, line_text, lines_left}

-- it tells, and no take of it fails
abbrev pub source_of : List ℕ → SourceState
source_of rest = record { tells = true; rest = rest; faults = 0 }

-- the bytes to come where so many of the next line were given
abbrev pub bytes_left : ℕ → Option Line → ℕ → List ℕ
bytes_left creates line given = drop given (flat_map ended (lines_left creates line))

-- the next line is of the script, and its LF was not given yet
abbrev pub IsWithin : ℕ → Option Line → ℕ → Type 0
IsWithin creates None given = Unit {0}
IsWithin creates (Some line) given = IsLine creates line × (given ≤ length (line_text creates line))
