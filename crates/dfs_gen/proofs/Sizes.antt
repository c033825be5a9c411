-- How long a script is at most.
use Rattle.std.proofs.Common.{◌≡◌, ℕ, zero, suc, ◌+◌, ◌-◌, ◌*◌, ◌/◌, ◌%◌, ◌^◌, ◌<◌, ◌≤◌, Bool, true, false, List, [], ◌∷◌, ◌++◌, length, map, refl, sym, ap, ◌∙◌, subst, arith, length-append}
use Rattle.std.specs.Prelude.{flat_map, codes, decimal, ◌==◌, if◌then◌else◌}
use Rattle.std.specs.List.{range_with_len}
use Rattle.std.proofs.lemmas.Fmt.{length-decimal-le}
use Rattle.std.proofs.lemmas.Grind.{flat_map-append}
use Rattle.dfs_gen.specs.Script.{ended, group_count, group_lines, numbers_of, begin_line, mkdir_line, create_line, merge_lines, publish_line, last_group, reader_lines, reader_begin_line, reader_list_line, script_lines, script}
use Rattle.dfs_gen.specs.Line.{group_end}
use Rattle.dfs_gen.proofs.Lines.{numbers_are}

-- the bytes of lines
abbrev size : List (List ℕ) → ℕ
size lines = length (flat_map ended lines)

size-append : (xs ys : List (List ℕ)) → size (xs ++ ys) ≡ size xs + size ys
size-append xs ys = ap length (flat_map-append ended xs ys) ∙ length-append (flat_map ended xs) (flat_map ended ys)

size-cons : (x : List ℕ) (ys : List (List ℕ)) → size (x ∷ ys) ≡ length x + 1 + size ys
size-cons x ys = omega (arith, length-append (ended x) (flat_map ended ys), length-append x (10 ∷ []))

digits_most : (n : ℕ) → n < 2 ^ 64 → length (decimal n) ≤ 20
digits_most n below = length-decimal-le 20 n (omega arith) (omega (arith, below)) below

create_most : (i : ℕ) → i < 2 ^ 64 → length (create_line i) ≤ 127
create_most i below =
    simp length-append (omega (arith, digits_most i below, digits_most (i % 500) (omega (arith, below)), digits_most (i / 1000 % 7) (omega (arith, below))))

creates_most : (first count : ℕ) → first + count < 2 ^ 64 → size (map create_line (range_with_len first count)) ≤ 128 * count
creates_most first zero below = omega arith
creates_most first (suc count) below =
    omega (arith, size-cons (create_line first) (map create_line (range_with_len (first + 1) count)), create_most first (omega (arith, below)), creates_most (first + 1) count (omega (arith, below)))

begin_most : (g : ℕ) (b : Bool) → g < 2 ^ 64 → length (if b then codes "begin w" else codes "begin w g" ++ decimal (g - 1)) ≤ 127
begin_most g true below = omega arith
begin_most g false below = omega (arith, length-append (codes "begin w g") (decimal (g - 1)), digits_most (g - 1) (omega (arith, below)))

mkdir_most : (g : ℕ) → g < 2 ^ 64 → length (mkdir_line g) ≤ 127
mkdir_most g below = simp length-append (omega (arith, digits_most g below, digits_most (g % 7) (omega (arith, below))))

publish_most : (g : ℕ) → g < 2 ^ 64 → length (publish_line g) ≤ 127
publish_most g below = omega (arith, length-append (codes "w publish g") (decimal g), digits_most g below)

-- a group has at most 1,008 lines
group_most : (creates g : ℕ) → 1000 * g + 1000 < 2 ^ 64 → size (group_lines creates g) ≤ 129024
group_most creates g below =
    let number = group_end creates g - 1000 * g in
    let made = map create_line (range_with_len (1000 * g) number) in
    let others = merge_lines ++ publish_line g ∷ [] in
    let behind : size (map create_line (numbers_of creates g) ++ others) ≡ size made + size others =
    ap (λ (l : List ℕ). size (map create_line l ++ others)) (numbers_are creates g) ∙ size-append made others in
    omega (
      arith,
      size-cons (begin_line g) (mkdir_line g ∷ (map create_line (numbers_of creates g) ++ others)),
      size-cons (mkdir_line g) (map create_line (numbers_of creates g) ++ others),
      behind,
      begin_most g (g == 0) (omega (arith, below)),
      mkdir_most g (omega (arith, below)),
      creates_most (1000 * g) number (omega (arith, below)),
      size-append merge_lines (publish_line g ∷ []),
      size-cons (publish_line g) [],
      publish_most g (omega (arith, below)),
    )

groups_most : (creates first count : ℕ) → 1000 * (first + count) + 1000 < 2 ^ 64 → size (flat_map (group_lines creates) (range_with_len first count)) ≤ 129024 * count
groups_most creates first zero below = omega arith
groups_most creates first (suc count) below =
    omega (
      arith,
      size-append (group_lines creates first) (flat_map (group_lines creates) (range_with_len (first + 1) count)),
      group_most creates first (omega (arith, below)),
      groups_most creates (first + 1) count (omega (arith, below)),
    )

reader_begin_most : (creates : ℕ) (b : Bool) → creates < 2 ^ 64 → length (if b then codes "begin z" else codes "begin z g" ++ decimal (last_group creates)) ≤ 127
reader_begin_most creates true below = omega arith
reader_begin_most creates false below = omega (arith, length-append (codes "begin z g") (decimal (last_group creates)), digits_most (last_group creates) (omega (arith, below)))

reader_list_most : (creates : ℕ) (b : Bool) → creates < 2 ^ 64 → length (if b then codes "z list /" else codes "z list /d" ++ decimal (last_group creates % 7)) ≤ 127
reader_list_most creates true below = omega arith
reader_list_most creates false below = omega (arith, length-append (codes "z list /d") (decimal (last_group creates % 7)), digits_most (last_group creates % 7) (omega (arith, below)))

-- so a script has far fewer than 2 ^ 64 bytes
pub script_most : (creates : ℕ) → creates < 2 ^ 32 → length (script creates) < 2 ^ 64 - 1
unfolding script
script_most creates below =
    let groups = flat_map (group_lines creates) (range_with_len 0 (group_count creates)) in
    omega (
      arith,
      size-append groups (reader_lines creates),
      groups_most creates 0 (group_count creates) (omega (arith, below)),
      size-cons (reader_begin_line creates) (reader_list_line creates ∷ codes "z drop" ∷ []),
      size-cons (reader_list_line creates) (codes "z drop" ∷ []),
      reader_begin_most creates (creates == 0) (omega (arith, below)),
      reader_list_most creates (creates == 0) (omega (arith, below)),
    )
