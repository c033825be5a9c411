-- The names of a path, component by component.
use Rattle.std.proofs.Common.{◌≡◌, ◌≤◌, ◌<◌, ◌+◌, ℕ, Bool, true, false, cond, List, ◌∷◌, ◌++◌, length, refl, ap, ◌∙◌, arith, length-append}
use Rattle.std.specs.Prelude.{◌&&◌, nat_le, map, sum_by, Option, Some, None, option_map, option_and_then}
use Rattle.std.specs.Borrow.{Bor}
use Rattle.std.specs.List.{list_all}
use Rattle.std.proofs.lemmas.Bool.{leb-true}
use mathlib.Core.Bool.{true≢false}
use Rattle.dfs_record.specs.declared.Name.{Name}
use Rattle.dfs_record.specs.Name.{is_name}
use Rattle.dfs_record.specs.Pieces.{pieces, each, passing}
use Rattle.dfs_path.specs.Cut.{IsCut}
use Rattle.dfs_path.specs.Path.{component_len, is_path, name_of}
use Rattle.dfs_path.proofs.Cuts.{some_piece}

-- the path of the names that were read and of those still to come
abbrev pub joined : List Name → Option (List Name) → Option (List Name)
joined done more = option_and_then (λ names. passing (is_path (done ++ names)) (done ++ names)) more

abbrev pub names_of : List (List ℕ) → Option (List Name)
names_of components = each (map name_of components)

and_false : (a b c : Bool) → b ≡ false → (a && b && c) ≡ false
and_false true false c h = refl
and_false false false c h = refl
and_false a true c h = absurd (true≢false h)

not_le : (a b : ℕ) → b < a → nat_le a b ≡ false
not_le a b h = by (nat_le a b) refl
  where
    by : (t : Bool) → nat_le a b ≡ t → t ≡ false
    by false e = refl
    by true e = let less : a ≤ b = leb-true a b e in absurd (omega arith)

-- more than 64 names are no path
long_path : (names : List Name) → 64 < length names → is_path names ≡ false
long_path names h = and_false (list_all is_name names) (nat_le (length names) 64) (nat_le (sum_by component_len names) 4096) (not_le (length names) 64 h)

too_many : (done : List Name) (component : List ℕ) (components : List (List ℕ)) → 64 ≤ length done → joined done (names_of (component ∷ components)) ≡ None
too_many done component components h = by (name_of component) (names_of components)
  where
    by : (first : Option Name) (more : Option (List Name)) → joined done (option_and_then (λ x. option_map (λ names. x ∷ names) more) first) ≡ None
    by None more = refl
    by (Some name) None = refl
    by (Some name) (Some names) =
        ap (λ t. cond t (Some (done ++ name ∷ names)) None) (long_path (done ++ name ∷ names) (omega (arith, length-append done (name ∷ names))))

-- where 64 names were read, more components make no path
pub stops_long : (done : List Name) (text : List ℕ) → 64 ≤ length done → joined done (names_of (pieces 47 text)) ≡ None
stops_long done text h =
    let s = some_piece 47 text in
    ap (λ ps. joined done (names_of ps)) s.2 ∙ too_many done s.0 s.1 h

-- how many bytes are left to read
abbrev pub left : Option (Bor (List ℕ)) → ℕ
left None = 0
left (Some text) = 1 + length text.now

pub less_left : (text component : List ℕ) (behind : Option (Bor (List ℕ))) → IsCut 47 text component behind → left behind < 1 + length text
less_left text component None cut = omega arith
less_left text component (Some rest) cut = omega (arith, cut.1)
