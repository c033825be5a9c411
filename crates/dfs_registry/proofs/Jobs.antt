-- The greatest job.
use Rattle.std.proofs.Common.{◌≡◌, ℕ, ◌+◌, ◌<◌, ◌≤◌, max, List, [], ◌∷◌, ◌++◌, refl, arith}
use Rattle.std.proofs.lemmas.Bool.{and_parts, and_from, or_from, leb-true, le-leb, ne_eqb}
use Rattle.std.specs.Prelude.{false, IsTrue}
use Rattle.dfs_record.specs.Name.{is_between}
use Rattle.dfs_registry.specs.declared.listed.Listed.{Listed}
use Rattle.dfs_registry.specs.Body.{greatest_job, lists_job}
use Rattle.dfs_registry.specs.Reading.{MayFollow}

pub greatest-push : (bs : List Listed) (b : Listed) → greatest_job (bs ++ b ∷ []) ≡ max (greatest_job bs) b.job
greatest-push [] b = omega arith
greatest-push (x ∷ bs) b = omega (arith, greatest-push bs b)

pub greatest_fits : (before bs : List Listed) → MayFollow before bs → greatest_job bs ≤ 4294967294
greatest_fits before [] apart = omega arith
greatest_fits before (b ∷ bs) (is, (new, apart)) =
    let high : b.job ≤ 4294967294 = leb-true b.job 4294967294 ((and_parts _ _ (and_parts _ _ is.listable).1).1) in
    omega (arith, high, greatest_fits (before ++ b ∷ []) bs apart)

pub greater_unlisted : (bs : List Listed) (job : ℕ) → greatest_job bs < job → lists_job bs job ≡ false
greater_unlisted [] job greater = refl
greater_unlisted (b ∷ bs) job greater =
    let other : b.job ≡ job → ⊥ = λ is. absurd (omega arith) in
    or_from _ _ (ne_eqb b.job job other) (greater_unlisted bs job (omega arith))

pub one_more_unlisted : (bs : List Listed) (greatest : ℕ) → greatest ≡ greatest_job bs → lists_job bs (greatest + 1) ≡ false
one_more_unlisted bs greatest is = greater_unlisted bs (greatest + 1) (omega arith)

pub one_more_between : (bs : List Listed) (greatest : ℕ) → MayFollow [] bs → greatest ≡ greatest_job bs → (greatest ≡ 4294967294 → ⊥) → IsTrue (is_between 1 4294967294 (greatest + 1))
one_more_between bs greatest apart is other =
    let fits : greatest_job bs ≤ 4294967294 = greatest_fits [] bs apart in
    and_from _ _ (le-leb 1 (greatest + 1) (omega arith)) (le-leb (greatest + 1) 4294967294 (omega (arith, fits, is, other)))
