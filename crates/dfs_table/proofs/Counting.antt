-- How many records there are.
use Rattle.std.proofs.Common.{◌≡◌, ◌<◌, ◌+◌, ◌^◌, ◌++◌, ◌∷◌, [], ℕ, List, ◌∙◌, ap, subst, take, slice_get, Some}
use Rattle.std.proofs.lemmas.Grind.{flat_map-append}
use Rattle.std.proofs.lemmas.List.{append-nil, take_more}
use Rattle.std.proofs.lemmas.List.Sums.{sum_by-append, sum_by_more}
use Rattle.std.proofs.lemmas.Option.{get_or_from_slice_get, slice_get_within}
use Rattle.dfs_fence.specs.declared.fence.Fence.{Fence}
use Rattle.dfs_fence.specs.Index.{AreFences, IsFence}
use Rattle.dfs_fence.proofs.Apart.{each_at}
use Rattle.dfs_table.specs.declared.table.Table.{Table}
use Rattle.dfs_table.specs.Counts.{count_of}
use Rattle.dfs_table.specs.Tables.{all_fences}

pub fence_count_fits : (fs : List Fence) (i : ℕ) (f : Fence) → AreFences fs → slice_get fs i ≡ Some f → f.count < 2 ^ 16
fence_count_fits fs i f are is = (subst IsFence (get_or_from_slice_get fs i f f is) (each_at fs are.each i f (slice_get_within fs i f is))).fields.count

pub count_more : (fs : List Fence) (i : ℕ) (f : Fence) → slice_get fs i ≡ Some f → count_of (take (i + 1) fs) ≡ count_of (take i fs) + f.count
count_more fs i f is = sum_by_more (λ (f : Fence). f.count) fs i f (slice_get_within fs i f is) ∙ ap (λ (g : Fence). count_of (take i fs) + g.count) (get_or_from_slice_get fs i f f is)

pub take_next : {X : Type 0} (xs : List X) (i : ℕ) (x : X) → slice_get xs i ≡ Some x → take (i + 1) xs ≡ take i xs ++ x ∷ []
take_next xs i x is = take_more xs i x (slice_get_within xs i x is) ∙ ap (λ y. take i xs ++ y ∷ []) (get_or_from_slice_get xs i x x is)

pub count_table_more : (ts : List Table) (i : ℕ) (t : Table) → slice_get ts i ≡ Some t → count_of (all_fences (take (i + 1) ts)) ≡ count_of (all_fences (take i ts)) + count_of t.fences
count_table_more ts i t is =
    ap (λ l. count_of (all_fences l)) (take_next ts i t is)
    ∙ ap count_of (flat_map-append (λ (t : Table). t.fences) (take i ts) (t ∷ []) ∙ ap (λ l. all_fences (take i ts) ++ l) (append-nil t.fences))
    ∙ sum_by-append (λ (f : Fence). f.count) (all_fences (take i ts)) t.fences
