-- What a reader of fences makes of those that it has read and of the bytes that are left.
use Rattle.std.proofs.Common.{◌≡◌, ℕ, ◌+◌, ◌<◌, ◌≤◌, true, false, List, [], ◌∷◌, ◌++◌, length, refl, sym, ap, subst, ◌∙◌, append_assoc, arith, length-append}
use Rattle.std.specs.Prelude.{IsSome, OnErr, Result, Ok, Err, Some, None}
use Rattle.std.specs.List.{AllByRecursion, flat_map}
use Rattle.std.proofs.lemmas.List.{append-nil, nil_from_length}
use Rattle.dfs_record.proofs.Readings.{IsBytes, first_true, second_true}
use Rattle.dfs_fence.specs.declared.fence.Fence.{Fence}
use Rattle.dfs_fence.specs.Index.{HasFields, IsFence, AreApart, AreFences, fence_bytes, last_end}
use Rattle.dfs_fence.specs.Reading.{fence_at, is_above, may_follow}
use Rattle.dfs_fence.specs.Spelled.{AreSpelled, NoneSpelled}
use Rattle.dfs_fence.proofs.Apart.{above_of, follows, fences_more}
use Rattle.dfs_fence.proofs.Fields.{fences}
use Rattle.dfs_fence.proofs.Indexes.{all_fields}
use Rattle.dfs_fence.proofs.Spelled.{some_is, flat_more, behind_front}

pub on_err : {T E P : Type 0} (r : Result T E) → P → OnErr r P
on_err (Ok x) p = tt
on_err (Err e) p = p

-- so many fences of the bytes are read, and the rest is left
pub record HasRead (bytes rest : List ℕ) (turn : ℕ) (fs : List Fence) : Type 0 where
  pub fences : AreFences fs
  pub number : length fs ≡ turn
  pub text : flat_map fence_bytes fs ++ rest ≡ bytes
  pub fits : IsBytes rest

pub none_read : (bytes : List ℕ) (fs : List Fence) → IsBytes bytes → fs ≡ [] → HasRead bytes bytes 0 fs
none_read bytes fs fits is =
    subst (HasRead bytes bytes 0) (sym is) (record { fences = record { few = omega arith; each = tt; apart = tt }; number = refl; text = refl; fits = fits })

pub all_of : (front more : List Fence) → AllByRecursion IsFence (front ++ more) → AllByRecursion IsFence more
all_of [] more all = all
all_of (f ∷ front) more all = all_of front more all.1

-- where so many fences are spelled, those behind the front are spelled in the rest
pub record Stand (rest : List ℕ) (turn : ℕ) (fs : List Fence) (count : ℕ) : Type 0 where
  pub more : List Fence
  pub fields : AllByRecursion HasFields more
  pub each : AllByRecursion IsFence more
  pub apart : AreApart (fs ++ more)
  pub number : turn + length more ≡ count
  pub text : rest ≡ flat_map fence_bytes more

module _ {bytes rest : List ℕ} {turn : ℕ} {fs : List Fence} where
  pub next_fields : HasRead bytes rest turn fs → (f : Fence) (behind : List ℕ) → fence_at rest ≡ Some (f, behind) → HasFields f
  next_fields h f behind e = (fences.takes rest f behind h.fits e).0

  pub next_fence : HasRead bytes rest turn fs → (f : Fence) (behind : List ℕ) → fence_at rest ≡ Some (f, behind) → may_follow (last_end fs) f.first f.last ≡ true → IsFence f
  next_fence h f behind e next = record { fields = next_fields h f behind e; order = first_true _ (is_above (last_end fs) f.first) next }

  pub read_on : HasRead bytes rest turn fs → turn < 4096 → (f : Fence) (behind : List ℕ) (new : List Fence) → fence_at rest ≡ Some (f, behind) → may_follow (last_end fs) f.first f.last ≡ true → new ≡ fs ++ f ∷ [] → HasRead bytes behind (turn + 1) new
  read_on h few f behind new e next is =
      let t = fences.takes rest f behind h.fits e in
      subst (HasRead bytes behind (turn + 1)) (sym is) (record {
        fences = fences_more fs f h.fences (omega (arith, few, h.number)) (next_fence h f behind e next) (above_of (last_end fs) f.first (second_true _ _ next));
        number = omega (arith, length-append fs (f ∷ []), h.number);
        text =
            ap (λ (l : List ℕ). l ++ behind) (flat_more fence_bytes fs f)
            ∙ append_assoc (flat_map fence_bytes fs) (fence_bytes f) behind
            ∙ ap (λ (l : List ℕ). flat_map fence_bytes fs ++ l) (sym t.1.parts)
            ∙ h.text;
        fits = t.1.rest_fits;
      })

  -- a fence at the front of what is left, and so one at the front of all
  pub begins : HasRead bytes rest turn fs → (f : Fence) (behind : List ℕ) → fence_at rest ≡ Some (f, behind) → IsSome (fence_at bytes)
  begins h f behind e = by_case fs (all_fields fs h.fences.each) h.text
    where
      by_case : (gs : List Fence) → AllByRecursion HasFields gs → flat_map fence_bytes gs ++ rest ≡ bytes → IsSome (fence_at bytes)
      by_case [] fields text = subst (λ (l : List ℕ). IsSome (fence_at l)) text (subst IsSome (sym e) refl)
      by_case (g ∷ gs) fields text =
          let there : fence_at (fence_bytes g ++ (flat_map fence_bytes gs ++ rest)) ≡ Some (g, flat_map fence_bytes gs ++ rest) = fences.again g (flat_map fence_bytes gs ++ rest) fields.0 in
          subst (λ (l : List ℕ). IsSome (fence_at l)) (sym (append_assoc (fence_bytes g) (flat_map fence_bytes gs) rest) ∙ text) (subst IsSome (sym there) refl)

  stands : HasRead bytes rest turn fs → (count : ℕ) → turn ≤ count → (gs : List Fence) → AreSpelled count bytes gs → Stand rest turn fs count
  stands h count le gs are =
      let t = behind_front HasFields fence_bytes fence_at fences fs gs rest (all_fields fs h.fences.each) (all_fields gs are.fences.each) (omega (arith, le, h.number, are.number)) (h.text ∙ are.spelled) in
      record {
        more = t.0;
        fields = t.1.1.0;
        each = all_of fs t.0 (subst (AllByRecursion IsFence) t.1.0 are.fences.each);
        apart = subst AreApart t.1.0 are.fences.apart;
        number = omega (arith, ap length t.1.0, length-append fs t.0, h.number, are.number);
        text = t.1.1.1;
      }

  pub stuck : HasRead bytes rest turn fs → (count : ℕ) → turn < count → fence_at rest ≡ None → NoneSpelled count bytes
  stuck h count below none gs are = by_case s.more s.fields s.number s.text
    where
      s : Stand rest turn fs count
      s = stands h count (omega (arith, below)) gs are

      by_case : (more : List Fence) → AllByRecursion HasFields more → turn + length more ≡ count → rest ≡ flat_map fence_bytes more → ⊥
      by_case [] fields number text = absurd (omega (arith, below, number))
      by_case (x ∷ more) fields number text =
          let there : fence_at rest ≡ Some (x, flat_map fence_bytes more) = ap fence_at text ∙ fences.again x (flat_map fence_bytes more) fields.0 in
          absurd (cc (there, none))

  pub falls : HasRead bytes rest turn fs → (count : ℕ) → turn < count → (f : Fence) (behind : List ℕ) → fence_at rest ≡ Some (f, behind) → may_follow (last_end fs) f.first f.last ≡ false → NoneSpelled count bytes
  falls h count below f behind e not gs are = by_case s.more s.fields s.each s.apart s.number s.text
    where
      s : Stand rest turn fs count
      s = stands h count (omega (arith, below)) gs are

      by_case : (more : List Fence) → AllByRecursion HasFields more → AllByRecursion IsFence more → AreApart (fs ++ more) → turn + length more ≡ count → rest ≡ flat_map fence_bytes more → ⊥
      by_case [] fields each apart number text = absurd (omega (arith, below, number))
      by_case (x ∷ more) fields each apart number text =
          let there : fence_at rest ≡ Some (x, flat_map fence_bytes more) = ap fence_at text ∙ fences.again x (flat_map fence_bytes more) fields.0 in
          let same : f ≡ x = ap (λ (p : Fence × List ℕ). p.0) (some_is (f, behind) (x, flat_map fence_bytes more) (sym e ∙ there)) in
          let is_not : may_follow (last_end fs) x.first x.last ≡ false = ap (λ (y : Fence). may_follow (last_end fs) y.first y.last) (sym same) ∙ not in
          let is : may_follow (last_end fs) x.first x.last ≡ true = follows fs x more apart each.0 in
          absurd (cc (is, is_not))

  pub left_over : HasRead bytes rest turn fs → (count : ℕ) → turn ≡ count → 0 < length rest → NoneSpelled count bytes
  left_over h count end some gs are = by_case s.more s.number s.text
    where
      s : Stand rest turn fs count
      s = stands h count (omega (arith, end)) gs are

      by_case : (more : List Fence) → turn + length more ≡ count → rest ≡ flat_map fence_bytes more → ⊥
      by_case [] number text = absurd (omega (arith, some, ap length text))
      by_case (x ∷ more) number text = absurd (omega (arith, end, number))

  pub read_all : HasRead bytes rest turn fs → (count : ℕ) → turn ≡ count → length rest ≡ 0 → AreSpelled count bytes fs
  read_all h count end none = record {
    number = h.number ∙ end;
    spelled = sym h.text ∙ ap (λ (l : List ℕ). flat_map fence_bytes fs ++ l) (nil_from_length rest none) ∙ append-nil (flat_map fence_bytes fs);
    fences = h.fences;
  }
