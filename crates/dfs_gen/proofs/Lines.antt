-- How the lines of a script go on.
use Rattle.std.proofs.Common.{◌≡◌, ◌≢◌, ℕ, zero, suc, ◌+◌, ◌-◌, ◌*◌, ◌/◌, ◌<◌, ◌≤◌, min, max, Bool, true, false, cond, List, [], ◌∷◌, ◌++◌, drop, map, filter, get_or, refl, sym, ap, ◌∙◌, ⊎_elim, arith, append_assoc, add-one, drop-cons, eqb-true}
use Rattle.std.specs.Prelude.{flat_map, ◌==◌}
use Rattle.std.specs.List.{range_with_len}
use Rattle.std.proofs.lemmas.Bool.{eqb-false, cases_lt}
use Rattle.dfs_gen.specs.Script.{group_count, numbers_of, begin_line, mkdir_line, create_line, merge_lines, publish_line, group_lines, reader_lines}
use Rattle.dfs_gen.specs.Line.{group_end, lines_from_create, lines_after}

range_more : (first count left : ℕ) → count ≡ left + 1 → range_with_len first count ≡ first ∷ range_with_len (first + 1) left
range_more first count left is = ap (range_with_len first) (is ∙ add-one left)

none : (first count : ℕ) → count ≡ 0 → range_with_len first count ≡ []
none first count is = ap (range_with_len first) is

same_range : (a b m n : ℕ) → a ≡ b → m ≡ n → range_with_len a m ≡ range_with_len b n
same_range a b m n p q = cc

-- one number before those that fall to a group
one_before : (g a k : ℕ) (rest : List ℕ) → rest ≡ range_with_len (max (a + 1) (1000 * g)) (min (a + 1 + k) (1000 * g + 1000) - max (a + 1) (1000 * g))
    → (b : Bool) → (a / 1000 == g) ≡ b
    → cond b (a ∷ rest) rest ≡ range_with_len (max a (1000 * g)) (min (a + suc k) (1000 * g + 1000) - max a (1000 * g))
one_before g a k rest behind true is =
    let of : a / 1000 ≡ g = eqb-true _ _ is in
    let left = min (a + 1 + k) (1000 * g + 1000) - max (a + 1) (1000 * g) in
    let first : max (a + 1) (1000 * g) ≡ a + 1 = omega arith in
    ap (λ l. a ∷ l) (behind ∙ ap (λ m. range_with_len m left) first)
    ∙ sym (range_more a (min (a + suc k) (1000 * g + 1000) - a) left (omega arith))
    ∙ same_range _ _ _ _ (omega arith) (omega arith)
one_before g a k rest behind false is =
    let other : a / 1000 ≢ g = eqb-false _ _ is in
    behind ∙ ⊎_elim
    (λ (low : a < 1000 * g). same_range _ _ _ _ (omega arith) (omega arith))
    (λ (high : 1000 * g ≤ a). none _ _ (omega arith) ∙ sym (none _ _ (omega arith)))
    (cases_lt a (1000 * g))

-- Of so many numbers in a row those fall to a group that lie between its ends.
range_of_group : (g a k : ℕ)
    → filter (λ i. i / 1000 == g) (range_with_len a k) ≡ range_with_len (max a (1000 * g)) (min (a + k) (1000 * g + 1000) - max a (1000 * g))
range_of_group g a zero = sym (none _ _ (omega arith))
range_of_group g a (suc k) = one_before g a k _ (range_of_group g (a + 1) k) (a / 1000 == g) refl

pub numbers_are : (creates g : ℕ) → numbers_of creates g ≡ range_with_len (1000 * g) (group_end creates g - 1000 * g)
numbers_are creates g = range_of_group g 0 creates ∙ same_range _ _ _ _ (omega arith) (omega arith)

-- the create at the front of those of its group
pub create_more : (creates g i j : ℕ) → i < group_end creates g → i / 1000 ≡ g → j ≡ i + 1 → lines_from_create creates g i ≡ create_line i ∷ lines_from_create creates (i / 1000) j
create_more creates g i j below of is =
    ap (λ (l : List ℕ). map create_line l ++ (merge_lines ++ publish_line g ∷ lines_after creates g)) (range_more i (group_end creates g - i) (group_end creates g - (i + 1)) (omega arith))
    ∙ ap (λ k. create_line i ∷ lines_from_create creates k (i + 1)) (sym of)
    ∙ ap (λ k. create_line i ∷ lines_from_create creates (i / 1000) k) (sym is)

-- a line that merges, and the next one
pub merge_more : (step : ℕ) → step < 5 → drop step merge_lines ≡ get_or merge_lines step [] ∷ drop (step + 1) merge_lines
merge_more step below = rw (add-one, drop-cons merge_lines step []) refl

regrouped : (x y : List (List ℕ)) (z : List ℕ) (v w : List (List ℕ)) → ((x ++ (y ++ z ∷ [])) ++ v) ++ w ≡ x ++ (y ++ z ∷ (v ++ w))
regrouped x y z v w = simp append_assoc

-- a group, and those behind it
pub group_more : (creates g count left : ℕ) → count ≡ left + 1
    → flat_map (group_lines creates) (range_with_len g count) ++ reader_lines creates
    ≡ begin_line g ∷ mkdir_line g ∷ (map create_line (range_with_len (1000 * g) (group_end creates g - 1000 * g))
    ++ (merge_lines ++ publish_line g ∷ (flat_map (group_lines creates) (range_with_len (g + 1) left) ++ reader_lines creates)))
group_more creates g count left is =
    let others = flat_map (group_lines creates) (range_with_len (g + 1) left) in
    ap (λ (l : List ℕ). flat_map (group_lines creates) l ++ reader_lines creates) (range_more g count left is)
    ∙ ap (λ (l : List ℕ). begin_line g ∷ mkdir_line g ∷ ((map create_line l ++ (merge_lines ++ publish_line g ∷ [])) ++ others) ++ reader_lines creates) (numbers_are creates g)
    ∙ ap (λ (l : List (List ℕ)). begin_line g ∷ mkdir_line g ∷ l) (regrouped _ merge_lines (publish_line g) others (reader_lines creates))

pub first_group : (creates : ℕ) → 0 < creates
    → flat_map (group_lines creates) (range_with_len 0 (group_count creates)) ++ reader_lines creates
    ≡ begin_line 0 ∷ mkdir_line 0 ∷ lines_from_create creates 0 (1000 * 0)
first_group creates some = group_more creates 0 (group_count creates) (group_count creates - (0 + 1)) (omega arith)
