-- The counts of some replies, reply by reply.
use Rattle.std.proofs.Common.{◌≡◌, ℕ, ◌+◌, cond, List, [], ◌∷◌, ◌++◌, length, sym, ap, ◌∙◌, arith, append_assoc}
use Rattle.std.specs.Prelude.{fold, sum_by}
use Rattle.std.proofs.lemmas.Grind.{fold-append}
use mathlib.Core.List.{append-nil}
use Rattle.dfs_gen.specs.Summary.{Counts, capped, is_said, is_ok, is_error, counts_of, counted}

-- a capped sum, counted on
capped-add : (n m : ℕ) → capped (n + m) ≡ capped (capped n + m)
capped-add n m = omega arith

capped_sum-push : (f : List ℕ → ℕ) (replies : List (List ℕ)) (reply : List ℕ) → capped (sum_by f (replies ++ reply ∷ [])) ≡ capped (capped (sum_by f replies) + f reply)
capped_sum-push f replies reply =
    ap capped (fold-append (λ a x. a + f x) 0 replies (reply ∷ [])) ∙ capped-add (sum_by f replies) (f reply)

-- one reply more
pub counts_of-push : (replies : List (List ℕ)) (reply : List ℕ) → counts_of (replies ++ reply ∷ []) ≡ counted (counts_of replies) reply
counts_of-push replies reply =
    let said = capped_sum-push (λ r. cond (is_said r) 1 0) replies reply in
    let ok = capped_sum-push (λ r. cond (is_ok r) 1 0) replies reply in
    let error = capped_sum-push (λ r. cond (is_error r) 1 0) replies reply in
    let bytes = capped_sum-push length replies reply in
    cc

counted_on : (before replies : List (List ℕ)) → counts_of (before ++ replies) ≡ fold counted (counts_of before) replies
counted_on before [] = ap counts_of (append-nil before)
counted_on before (reply ∷ replies) =
    ap counts_of (sym (append_assoc before (reply ∷ []) replies))
    ∙ counted_on (before ++ reply ∷ []) replies
    ∙ ap (λ (counts : Counts). fold counted counts replies) (counts_of-push before reply)

-- all of them, one after the other
pub counts_of-fold : (replies : List (List ℕ)) → counts_of replies ≡ fold counted (counts_of []) replies
counts_of-fold = counted_on []
