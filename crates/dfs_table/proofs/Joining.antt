-- Fences behind those of other tables.
use Rattle.std.proofs.Common.{◌≡◌, ◌≤◌, ◌+◌, ◌-◌, ◌++◌, ◌∷◌, [], Bool, true, List, length, ◌∙◌, sym, ap, subst, arith, take, slice_get, refl}
use Rattle.std.specs.Prelude.{Some, IsTrue, ◌↔◌}
use Rattle.std.proofs.lemmas.Grind.{flat_map-append}
use Rattle.std.proofs.lemmas.List.{append-nil, take_all}
use Rattle.std.proofs.lemmas.Option.{slice_get_within}
use Rattle.dfs_fence.specs.declared.fence.Fence.{Fence}
use Rattle.dfs_fence.specs.Index.{AreApart, IsAboveLast, last_end}
use Rattle.dfs_fence.specs.Reading.{is_above}
use Rattle.dfs_fence.proofs.Apart.{above_last, above_of, last_is}
use Rattle.dfs_fence.proofs.Spelled.{some_is}
use Rattle.dfs_table.specs.declared.table.Table.{Table}
use Rattle.dfs_table.specs.Tables.{all_fences}
use Rattle.dfs_table.proofs.Counting.{take_next}

last_behind_all : (xs ys : List Fence) → 1 ≤ length ys → last_end (xs ++ ys) ≡ last_end ys
last_behind_all xs [] some = absurd (omega (arith, some))
last_behind_all [] (y ∷ ys) some = refl
last_behind_all (x ∷ []) (y ∷ ys) some = refl
last_behind_all (x ∷ z ∷ xs) (y ∷ ys) some = last_behind_all (z ∷ xs) (y ∷ ys) some

pub fences_more : (ts : List Table) (t : Table) → all_fences (ts ++ t ∷ []) ≡ all_fences ts ++ t.fences
fences_more ts t = flat_map-append (λ (t : Table). t.fences) ts (t ∷ []) ∙ ap (λ l. all_fences ts ++ l) (append-nil t.fences)

pub last_of_all : (ts : List Table) (t : Table) (f : Fence) → slice_get ts (length ts - 1) ≡ Some t → slice_get t.fences (length t.fences - 1) ≡ Some f → last_end (all_fences ts) ≡ Some f.last
last_of_all ts t f last_table last_fence =
    let n = length ts - 1 in
    let all : take (n + 1) ts ≡ ts = take_all (n + 1) ts (omega (arith, slice_get_within ts n t last_table)) in
    let split : ts ≡ take n ts ++ t ∷ [] = sym all ∙ take_next ts n t last_table in
    ap (λ l. last_end (all_fences l)) split ∙ ap last_end (fences_more (take n ts) t)
    ∙ last_behind_all (all_fences (take n ts)) t.fences (omega (arith, slice_get_within t.fences (length t.fences - 1) f last_fence)) ∙ last_is t.fences f last_fence

apart_join : (xs ys : List Fence) (y : Fence) → AreApart xs → AreApart (y ∷ ys) → IsAboveLast (last_end xs) y.first → AreApart (xs ++ y ∷ ys)
apart_join [] ys y a b above = b
apart_join (x ∷ []) ys y a b above = (above, b)
apart_join (x ∷ z ∷ xs) ys y a b above = (a.0, apart_join (z ∷ xs) ys y a.1 b above)

-- fences whose first one is this are apart from others exactly where it is above the last of those
pub joins : (xs ys : List Fence) (y : Fence) → slice_get ys 0 ≡ Some y → AreApart xs → AreApart ys → IsTrue (is_above (last_end xs) y.first) ↔ AreApart (xs ++ ys)
joins xs [] y first a b = absurd cc
joins xs (z ∷ ys) y first a b =
    let same : z ≡ y = some_is z y first in (
      (λ above. apart_join xs ys z a b (above_of (last_end xs) z.first (subst (λ (f : Fence). is_above (last_end xs) f.first ≡ true) (sym same) above))),
      (λ apart. subst (λ (f : Fence). is_above (last_end xs) f.first ≡ true) same (above_last xs z ys apart)),
    )

pub takes_by : (ts : List Table) (t : Table) (f : Fence) (b : Bool) → slice_get t.fences 0 ≡ Some f → AreApart (all_fences ts) → AreApart t.fences → b ≡ is_above (last_end (all_fences ts)) f.first
    → IsTrue b ↔ AreApart (all_fences (ts ++ t ∷ []))
takes_by ts t f b first rise apart same =
    let exact = joins (all_fences ts) t.fences f first rise apart in
    let more = fences_more ts t in
    ((λ is. subst AreApart (sym more) (exact.0 (sym same ∙ is))), (λ all. same ∙ exact.1 (subst AreApart more all)))
