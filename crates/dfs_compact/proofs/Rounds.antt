-- One round of a loop over the sources, or over their blocks.
use Rattle.std.proofs.Common.{◌≡◌, ◌≤◌, ◌<◌, ◌+◌, ℕ, zero, suc, List, [], ◌∷◌, ◌++◌, length, take, map, get_or, refl, sym, ap, subst, ◌∙◌, arith, append-nil, append_assoc}
use Rattle.std.specs.Prelude.{Some, slice_get}
use Rattle.std.specs.List.{sum_by}
use Rattle.std.proofs.lemmas.Grind.{flat_map-append}
use Rattle.std.proofs.lemmas.List.{map-append, take_more}
use Rattle.std.proofs.lemmas.List.Sums.{sum_by-append, sum_by-cons}
use Rattle.dfs_record.specs.Delta.{Delta}
use Rattle.dfs_record.specs.Records.{Files}
use Rattle.dfs_fence.specs.declared.fence.Fence.{Fence}
use Rattle.dfs_table.specs.declared.run.Run.{Run}
use Rattle.dfs_table.specs.declared.table.Table.{Table}
use Rattle.dfs_table.specs.Counts.{count_of}
use Rattle.dfs_table.specs.Tables.{all_fences}
use Rattle.dfs_table.proofs.Counting.{take_next}
use Rattle.dfs_compact.specs.Parts.{AreSources, IsSource, count_all, fences_in, first_keys}

pub one_further : {A : Type 0} (xs : List A) (i : ℕ) (x : A) → i < length xs → x ≡ get_or xs i x → take (i + 1) xs ≡ take i xs ++ x ∷ []
one_further xs i x lt is = take_more xs i x lt ∙ ap (λ y. take i xs ++ y ∷ []) (sym is)

pub map_at : {A B : Type 0} (f : A → B) (xs : List A) (i : ℕ) (x : A) → slice_get xs i ≡ Some x → map f (take (i + 1) xs) ≡ map f (take i xs) ++ f x ∷ []
map_at f xs i x at = ap (map f) (take_next xs i x at) ∙ map-append f (take i xs) (x ∷ [])

-- the first keys of one more table
pub keys_of_table : (ts : List Table) (i : ℕ) (t : Table) → slice_get ts i ≡ Some t → map (λ (f : Fence). f.first) (all_fences (take (i + 1) ts)) ≡ map (λ (f : Fence). f.first) (all_fences (take i ts)) ++ map (λ (f : Fence). f.first) t.fences
keys_of_table ts i t at =
    ap (λ l. map (λ (f : Fence). f.first) (all_fences l)) (take_next ts i t at)
    ∙ ap (map (λ (f : Fence). f.first)) (flat_map-append (λ (t : Table). t.fences) (take i ts) (t ∷ []) ∙ ap (λ l. all_fences (take i ts) ++ l) (append-nil t.fences))
    ∙ map-append (λ (f : Fence). f.first) (all_fences (take i ts)) t.fences

-- what was added to what was there
pub added : {A : Type 0} (start more last new old : List A) → new ≡ old ++ last → old ≡ start ++ more → new ≡ start ++ (more ++ last)
added start more last new old is so_far = is ∙ ap (λ l. l ++ last) so_far ∙ append_assoc start more last

module _ {X : Type 0} (v : X → Run) where
  fences_further : (xs : List X) (i : ℕ) (x : X) → i < length xs → x ≡ get_or xs i x → fences_in (map v (take (i + 1) xs)) ≡ fences_in (map v (take i xs)) ++ all_fences (v x).tables
  fences_further xs i x lt is =
      ap (λ l. fences_in (map v l)) (one_further xs i x lt is)
      ∙ ap fences_in (map-append v (take i xs) (x ∷ []))
      ∙ flat_map-append (λ (r : Run). all_fences r.tables) (map v (take i xs)) (v x ∷ [])
      ∙ ap (λ l. fences_in (map v (take i xs)) ++ l) (append-nil (all_fences (v x).tables))

  -- the first keys of one more source
  pub keys_further : (xs : List X) (i : ℕ) (x : X) → i < length xs → x ≡ get_or xs i x → first_keys (map v (take (i + 1) xs)) ≡ first_keys (map v (take i xs)) ++ map (λ (f : Fence). f.first) (all_fences (v x).tables)
  keys_further xs i x lt is = ap (map (λ (f : Fence). f.first)) (fences_further xs i x lt is) ∙ map-append (λ (f : Fence). f.first) (fences_in (map v (take i xs))) (all_fences (v x).tables)

  -- and its records
  pub count_further : (xs : List X) (i : ℕ) (x : X) → i < length xs → x ≡ get_or xs i x → count_all (map v (take (i + 1) xs)) ≡ count_all (map v (take i xs)) + count_of (all_fences (v x).tables)
  count_further xs i x lt is = ap count_of (fences_further xs i x lt is) ∙ sum_by-append (λ (f : Fence). f.count) (fences_in (map v (take i xs))) (all_fences (v x).tables)

  -- the change set of one source
  at_suc : (files : Files) (xs : List X) (ds : List Delta) (i : ℕ) (x : X) → AreSources files (map v xs) ds → i < length xs → x ≡ get_or xs i x → (d : Delta) × (take (suc i) ds ≡ take i ds ++ d ∷ []) × IsSource files (v x) d
  at_suc files [] ds i x are lt is = absurd (omega (arith, lt))
  at_suc files (y ∷ xs) [] i x are lt is = absurd are
  at_suc files (y ∷ xs) (d ∷ ds) zero x are lt is = (d, refl, subst (λ z. IsSource files (v z) d) (sym is) are.0)
  at_suc files (y ∷ xs) (d ∷ ds) (suc i) x are lt is =
      let h = at_suc files xs ds i x are.1 (omega (arith, lt)) is in
      (h.0, ap (λ l. d ∷ l) h.1, h.2)

  pub source_further : (files : Files) (xs : List X) (ds : List Delta) (i : ℕ) (x : X) → AreSources files (map v xs) ds → i < length xs → x ≡ get_or xs i x → (d : Delta) × (take (i + 1) ds ≡ take i ds ++ d ∷ []) × IsSource files (v x) d
  source_further files xs ds i x are lt is =
      let h = at_suc files xs ds i x are lt is in
      let next : i + 1 ≡ suc i = omega arith in
      (h.0, ap (λ n. take n ds) next ∙ h.1, h.2)

  pub as_many : (files : Files) (xs : List X) (ds : List Delta) → AreSources files (map v xs) ds → length ds ≡ length xs
  as_many files [] [] are = refl
  as_many files [] (d ∷ ds) are = absurd are
  as_many files (x ∷ xs) [] are = absurd are
  as_many files (x ∷ xs) (d ∷ ds) are = ap suc (as_many files xs ds are.1)

  -- one more part beside those of the sources before it
  pub rests_further : {S B : Type 0} (rest : S → B) (old new : List S) (s : S) (g : Delta → B) (files : Files) (xs : List X) (ds : List Delta) (i : ℕ) (x : X) → new ≡ old ++ s ∷ []
      → ((d : Delta) → IsSource files (v x) d → rest s ≡ g d) → AreSources files (map v xs) ds → i < length xs → x ≡ get_or xs i x → map rest old ≡ map g (take i ds) → map rest new ≡ map g (take (i + 1) ds)
  rests_further rest old new s g files xs ds i x pushed here are lt is so_far =
      let d = source_further files xs ds i x are lt is in
      ap (map rest) pushed ∙ map-append rest old (s ∷ []) ∙ (λ k. so_far k ++ here d.0 d.2 k ∷ []) ∙ sym (map-append g (take i ds) (d.0 ∷ [])) ∙ ap (map g) (sym d.1)

pub sum_of_run : {S : Type 0} (f : S → ℕ) (old new : List S) (s : S) (count : ℕ) (r run : Run) → new ≡ old ++ s ∷ [] → sum_by f old ≤ count → f s ≤ count_of (all_fences r.tables) → r ≡ run → sum_by f new ≤ count + count_of (all_fences run.tables)
sum_of_run f old new s count r run pushed so_far here same =
    omega (arith, ap (sum_by f) pushed, sum_by-append f old (s ∷ []), sum_by-cons f s [], so_far, here, ap (λ (x : Run). count_of (all_fences x.tables)) same)
