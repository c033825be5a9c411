-- What a line means, as a relation: a command of the grammar, too long a line, or a fault of syntax.
use Rattle.std.specs.Prelude.{◌≡◌, ℕ, ◌<◌, ◌≤◌, List, length, Result, Ok, Err, IsTrue, IsFalse, ◌⊎◌, ◌↔◌}
use Rattle.dfs_record.specs.Pieces.{words}
use Rattle.dfs_script.specs.declared.Line.{Line}
use Rattle.dfs_script.specs.declared.Line.TheVariants.{Nothing}
use Rattle.dfs_script.specs.declared.LineFault.{LineFault}
use Rattle.dfs_script.specs.declared.LineFault.TheVariants.{Long, Syntax, NoMemory}
use Rattle.dfs_script.specs.Grammar.{IsForm}
use Rattle.dfs_script.specs.Line.{without_cr, is_comment, is_printable, meaning}

-- A comment says nothing. Another text has printable bytes alone, and its words have the form of the command.
abbrev pub Says : List ℕ → Line → Type 0
Says text command = (IsTrue (is_comment text) × (command ≡ Nothing)) ⊎ (IsFalse (is_comment text) × IsTrue (is_printable text) × IsForm (words 32 text) command)

-- A text of more than 8,192 bytes is too long. Another one says a command, or is a fault of syntax.
abbrev pub TextMeans : List ℕ → Result Line LineFault → Type 0
TextMeans text (Ok command) = (length text ≤ 8192) × Says text command
TextMeans text (Err Long) = 8192 < length text
TextMeans text (Err Syntax) = (length text ≤ 8192) × ((command : Line) → ¬ (Says text command))
TextMeans text (Err NoMemory) = ⊥

-- One CR at the end is no part of a line.
abbrev pub Means : List ℕ → Result Line LineFault → Type 0
Means line answer = TextMeans (without_cr line) answer

-- each line means one thing, and its meaning is what is read
abbrev pub MeansOne : Type 0
MeansOne = (line : List ℕ) (answer : Result Line LineFault) → (meaning line ≡ answer) ↔ Means line answer
