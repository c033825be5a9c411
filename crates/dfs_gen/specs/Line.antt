-- A line of the script of so many creates, and what follows it.
use Rattle.std.specs.Prelude.{ℕ, ◌+◌, ◌-◌, ◌*◌, ◌/◌, ◌<◌, min, List, [], ◌∷◌, ◌++◌, drop, map, flat_map, codes, slice_index_or, Option, Some, None}
use Rattle.std.specs.List.{range_with_len}
use Rattle.dfs_gen.specs.declared.line.Line.{Line}
use Rattle.dfs_gen.specs.declared.line.Line.TheVariants.{Begin, MakeDir, Create, Merge, Publish, ReaderBegin, ReaderList, ReaderDrop}
use Rattle.dfs_gen.specs.Script.{group_count, begin_line, mkdir_line, create_line, merge_lines, publish_line, group_lines, reader_begin_line, reader_list_line, reader_lines}

-- the script has this line
abbrev pub IsLine : ℕ → Line → Type 0
IsLine creates (Begin g) = 1000 * g < creates
IsLine creates (MakeDir g) = 1000 * g < creates
IsLine creates (Create i) = i < creates
IsLine creates (Merge g step) = (1000 * g < creates) × (step < 5)
IsLine creates (Publish g) = 1000 * g < creates
IsLine creates ReaderBegin = Unit {0}
IsLine creates ReaderList = Unit {0}
IsLine creates ReaderDrop = Unit {0}

-- its text, without LF
abbrev pub line_text : ℕ → Line → List ℕ
line_text creates (Begin g) = begin_line g
line_text creates (MakeDir g) = mkdir_line g
line_text creates (Create i) = create_line i
line_text creates (Merge g step) = slice_index_or merge_lines step []
line_text creates (Publish g) = publish_line g
line_text creates ReaderBegin = reader_begin_line creates
line_text creates ReaderList = reader_list_line creates
line_text creates ReaderDrop = codes "z drop"

-- the lines behind a group
abbrev pub lines_after : ℕ → ℕ → List (List ℕ)
lines_after creates g = flat_map (group_lines creates) (range_with_len (g + 1) (group_count creates - (g + 1))) ++ reader_lines creates

-- where the creates of a group end
abbrev pub group_end : ℕ → ℕ → ℕ
group_end creates g = min creates (1000 * g + 1000)

-- the creates of group g from number i on, and the lines behind them
abbrev pub lines_from_create : ℕ → ℕ → ℕ → List (List ℕ)
lines_from_create creates g i = map create_line (range_with_len i (group_end creates g - i)) ++ (merge_lines ++ publish_line g ∷ lines_after creates g)

-- the lines behind this one
abbrev pub lines_behind : ℕ → Line → List (List ℕ)
lines_behind creates (Begin g) = mkdir_line g ∷ lines_from_create creates g (1000 * g)
lines_behind creates (MakeDir g) = lines_from_create creates g (1000 * g)
lines_behind creates (Create i) = lines_from_create creates (i / 1000) (i + 1)
lines_behind creates (Merge g step) = drop (step + 1) merge_lines ++ publish_line g ∷ lines_after creates g
lines_behind creates (Publish g) = lines_after creates g
lines_behind creates ReaderBegin = reader_list_line creates ∷ codes "z drop" ∷ []
lines_behind creates ReaderList = codes "z drop" ∷ []
lines_behind creates ReaderDrop = []

-- this line, where there is one, and those behind it
abbrev pub lines_left : ℕ → Option Line → List (List ℕ)
lines_left creates None = []
lines_left creates (Some line) = line_text creates line ∷ lines_behind creates line

abbrev pub IsLineLeft : ℕ → Option Line → Type 0
IsLineLeft creates None = Unit {0}
IsLineLeft creates (Some line) = IsLine creates line
