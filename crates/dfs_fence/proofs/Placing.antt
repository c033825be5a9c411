-- Fences that are read one after the other, without memory.
use Rattle.std.proofs.Common.{◌≡◌, ℕ, zero, suc, ◌+◌, ◌<◌, ◌≤◌, List, [], ◌∷◌, ◌++◌, length, take, drop, get_or, sym, ap, subst, ◌∙◌, add-one, drop-cons, arith}
use Rattle.std.specs.Prelude.{Some, None}
use Rattle.std.specs.List.{AllByRecursion, flat_map}
use Rattle.std.proofs.lemmas.List.{take_all, take_more}
use Rattle.dfs_fence.specs.declared.fence.Fence.{Fence}
use Rattle.dfs_fence.specs.Index.{IsFence, fence_bytes}
use Rattle.dfs_fence.specs.Reading.{fence_at}
use Rattle.dfs_fence.specs.Spelled.{AreSpelled}
use Rattle.dfs_fence.proofs.Fields.{fences}
use Rattle.dfs_fence.proofs.Spelled.{all_more, some_is}

pub all_at : (P : Fence → Type 0) (fs : List Fence) → AllByRecursion P fs → (i : ℕ) (d : Fence) → i < length fs → P (get_or fs i d)
all_at P [] all i d below = absurd (omega (arith, below))
all_at P (f ∷ fs) all zero d below = all.0
all_at P (f ∷ fs) all (suc i) d below = all_at P fs all.1 i d (omega (arith, below))

-- what has been read of so many fences, and what is left
pub record HasPassed (P : Fence → Type 0) (rest : List ℕ) (turn : ℕ) (fs : List Fence) : Type 0 where
  pub text : rest ≡ flat_map fence_bytes (drop turn fs)
  pub all : AllByRecursion P (take turn fs)

-- the fence that stands at the front of what is left
there : (count : ℕ) (bytes rest : List ℕ) (turn : ℕ) (fs : List Fence) (d : Fence) → AreSpelled count bytes fs → turn < count → rest ≡ flat_map fence_bytes (drop turn fs)
    → fence_at rest ≡ Some (get_or fs turn d, flat_map fence_bytes (drop (turn + 1) fs))
there count bytes rest turn fs d are below text =
    let below' : turn < length fs = omega (arith, below, are.number) in
    let f = get_or fs turn d in
    let front : rest ≡ fence_bytes f ++ flat_map fence_bytes (drop (turn + 1) fs) =
    text ∙ ap (flat_map fence_bytes) (drop-cons fs turn d below') ∙ ap (λ n. fence_bytes f ++ flat_map fence_bytes (drop n fs)) (sym (add-one turn)) in
    ap fence_at front ∙ fences.again f (flat_map fence_bytes (drop (turn + 1) fs)) (all_at IsFence fs are.fences.each turn d below').fields

module _ (P : Fence → Type 0) (count : ℕ) (bytes : List ℕ) where
  pub none_passed : (fs : List Fence) → AreSpelled count bytes fs → HasPassed P bytes 0 fs
  none_passed fs are = record { text = are.spelled; all = tt }

  module _ {rest : List ℕ} {turn : ℕ} (below : turn < count) where
    -- where fences are spelled, one is read
    pub not_stuck : (fs : List Fence) → AreSpelled count bytes fs → HasPassed P rest turn fs → fence_at rest ≡ None → ⊥
    not_stuck [] are h none = omega (arith, below, are.number)
    not_stuck (f ∷ fs) are h none = absurd (cc (there count bytes rest turn (f ∷ fs) f are below h.text, none))

    module _ (f : Fence) (behind : List ℕ) (read : fence_at rest ≡ Some (f, behind)) (fs : List Fence) (are : AreSpelled count bytes fs) (h : HasPassed P rest turn fs) where
      both : ◌≡◌ {A = Fence × List ℕ} (f, behind) (get_or fs turn f, flat_map fence_bytes (drop (turn + 1) fs))
      both = some_is (f, behind) (get_or fs turn f, flat_map fence_bytes (drop (turn + 1) fs)) (sym read ∙ there count bytes rest turn fs f are below h.text)

      pub one_passed : P f → HasPassed P behind (turn + 1) fs
      one_passed here =
          let same : f ≡ get_or fs turn f = ap (λ (p : Fence × List ℕ). p.0) both in
          record {
            text = ap (λ (p : Fence × List ℕ). p.1) both;
            all = subst (AllByRecursion P) (sym (take_more fs turn f (omega (arith, below, are.number)))) (all_more P (take turn fs) (get_or fs turn f) h.all (subst P same here));
          }

      pub not_all : ¬ (P f) → AllByRecursion P fs → ⊥
      not_all out all = out (subst P (sym (ap (λ (p : Fence × List ℕ). p.0) both)) (all_at P fs all turn f (omega (arith, below, are.number))))

  pub all_passed : {rest : List ℕ} (turn : ℕ) → count ≤ turn → (fs : List Fence) → AreSpelled count bytes fs → HasPassed P rest turn fs → AllByRecursion P fs
  all_passed turn end fs are h = subst (AllByRecursion P) (take_all turn fs (omega (arith, end, are.number))) h.all
