-- Where the blocks begin.
use Rattle.std.proofs.Common.{◌≡◌, ◌+◌, ◌++◌, ◌∷◌, [], ℕ, List, ◌∙◌, sym, ap, drop, slice_get, Some}
use Rattle.std.proofs.lemmas.List.{append_assoc, drop_more}
use Rattle.std.proofs.lemmas.Option.{get_or_from_slice_get, slice_get_within}
use Rattle.dfs_fence.specs.declared.fence.Fence.{Fence}
use Rattle.dfs_table.specs.Starts.{starts_from}

-- the next block begins at the place, and those behind it where it ends
pub starts_more : (starts : List ℕ) (place i : ℕ) (fs : List Fence) (f : Fence) → slice_get fs i ≡ Some f → starts ++ starts_from place (drop i fs) ≡ starts_from 0 fs
    → (starts ++ place ∷ []) ++ starts_from (place + f.len) (drop (i + 1) fs) ≡ starts_from 0 fs
starts_more starts place i fs f is so_far =
    append_assoc starts (place ∷ []) (starts_from (place + f.len) (drop (i + 1) fs))
    ∙ ap (λ l. starts ++ starts_from place l) (sym (drop_more fs i f (slice_get_within fs i f is) ∙ ap (λ g. g ∷ drop (i + 1) fs) (get_or_from_slice_get fs i f f is)))
    ∙ so_far
