-- The script of the generated workload with so many creates, as the list of its lines and as their bytes.
use Rattle.std.specs.Prelude.{ℕ, ◌+◌, ◌-◌, ◌/◌, ◌%◌, ◌==◌, if◌then◌else◌, List, [], ◌∷◌, ◌++◌, map, filter, flat_map, codes, decimal}
use Rattle.std.specs.List.{range_with_len}

-- The creates are numbered from 0 on and cut into groups of 1,000.
abbrev pub group_count : ℕ → ℕ
group_count creates = (creates + 999) / 1000

-- the creates of group g
abbrev pub numbers_of : ℕ → ℕ → List ℕ
numbers_of creates g = filter (λ i. i / 1000 == g) (range_with_len 0 creates)

-- a group's job begins from what the group before published
abbrev pub begin_line : ℕ → List ℕ
begin_line g = if g == 0 then codes "begin w" else codes "begin w g" ++ decimal (g - 1)

abbrev pub mkdir_line : ℕ → List ℕ
mkdir_line g = codes "w mkdir /d" ++ decimal (g % 7) ++ codes " 755 " ++ decimal g

abbrev pub create_line : ℕ → List ℕ
create_line i = codes "w create /d" ++ decimal (i / 1000 % 7) ++ codes "/f" ++ decimal (i % 500) ++ codes " 644 " ++ decimal i ++ codes " " ++ decimal i ++ codes " r" ++ decimal i

-- all changes of the group are merged, in four parts
abbrev pub merge_lines : List (List ℕ)
merge_lines = codes "w plan all 4" ∷ codes "w part 3" ∷ codes "w part 1" ∷ codes "w part 0" ∷ codes "w part 2" ∷ []

abbrev pub publish_line : ℕ → List ℕ
publish_line g = codes "w publish g" ++ decimal g

abbrev pub group_lines : ℕ → ℕ → List (List ℕ)
group_lines creates g = begin_line g ∷ mkdir_line g ∷ (map create_line (numbers_of creates g) ++ (merge_lines ++ publish_line g ∷ []))

-- A last job lists the directory of the last group, or the root where there is none.
abbrev pub last_group : ℕ → ℕ
last_group creates = (creates - 1) / 1000

abbrev pub reader_begin_line : ℕ → List ℕ
reader_begin_line creates = if creates == 0 then codes "begin z" else codes "begin z g" ++ decimal (last_group creates)

abbrev pub reader_list_line : ℕ → List ℕ
reader_list_line creates = if creates == 0 then codes "z list /" else codes "z list /d" ++ decimal (last_group creates % 7)

abbrev pub reader_lines : ℕ → List (List ℕ)
reader_lines creates = reader_begin_line creates ∷ reader_list_line creates ∷ codes "z drop" ∷ []

abbrev pub script_lines : ℕ → List (List ℕ)
script_lines creates = flat_map (group_lines creates) (range_with_len 0 (group_count creates)) ++ reader_lines creates

-- a line with LF behind it
abbrev pub ended : List ℕ → List ℕ
ended line = line ++ 10 ∷ []

-- the whole script; its callers need not see into it
unfoldable pub script : ℕ → List ℕ
script creates = flat_map ended (script_lines creates)
