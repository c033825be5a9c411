-- What is kept of the begins: one more, and one less.
use Rattle.std.proofs.Common.{◌≡◌, ◌≢◌, ◌∙◌, inl, inr, ⊎_elim, ℕ, zero, suc, ◌≤◌, Bool, true, false, cond, List, [], ◌∷◌, ◌++◌, Option, Some, None, refl, sym, ap, subst, arith}
use Rattle.std.proofs.lemmas.Bool.{eqb-true, eqb-false}
use Rattle.std.proofs.lemmas.Bool.Decides.{nat_tests}
use Rattle.std.proofs.lemmas.List.Elements.{Contains-push}
use Rattle.std.proofs.lemmas.Map.Lookups.{exact_pairs}
use Rattle.std.specs.Prelude.{◌⊎◌, IfSome, IsSome, is_some, nat_eq, option_map, slice_get}
use Rattle.std.specs.BTreeMap.{BTreeMap, get, is_at}
use Rattle.std.specs.BTreeMap.Range.{IsEntryInRange, IsRangeOf}
use Rattle.std.specs.declared.ops.Bound.TheVariants.{Included}
use Rattle.std.specs.FinMap.{nat_cmp-IsAntisymmetric}
use Rattle.std.specs.List.{AllByRecursion, Contains}
use Rattle.std.specs.Ordering.{is_eq, is_gt, nat_cmp, ordering_then}
use Rattle.std.specs.declared.cmp.Ordering.{Ordering}
use Rattle.std.specs.declared.cmp.Ordering.TheVariants.{Less, Equal, Greater}
use Rattle.dfs_table.proofs.Stays.{all_append}
use Rattle.dfs_change.specs.declared.change.Change.{Change}
use Rattle.dfs_session.specs.declared.keeping.Kept.{Kept}
use Rattle.dfs_session.specs.declared.keeping.Use.{Use}
use Rattle.dfs_session.specs.Kept.{IsIndexed, begin_in, kept_at, use_cmp, use_of}
use Rattle.dfs_session.proofs.Lists.{mapped}

pub same_or_not : (a b : ℕ) → (a ≡ b) ⊎ (a ≢ b)
same_or_not a b = by (nat_eq a b) refl
  where
    by : (same : Bool) → nat_eq a b ≡ same → (a ≡ b) ⊎ (a ≢ b)
    by true is = inl (eqb-true a b is)
    by false is = inr (eqb-false a b is)

-- uses that compare alike are one
uses_exact : (a b : Use) → use_cmp a b ≡ Equal → a ≡ b
uses_exact a b is = ap (λ (p : ℕ × ℕ). record { change = p.0; job = p.1 }) (exact_pairs nat_cmp nat_cmp nat_cmp-IsAntisymmetric nat_cmp-IsAntisymmetric (a.change, a.job) (b.change, b.job) is)

-- ---- elements

pub all_at : {X : Type 0} (P : X → Type 0) (xs : List X) (x : X) → AllByRecursion P xs → Contains xs x → P x
all_at P [] x all (k, below, at) = absurd (omega (arith, below))
all_at P (y ∷ xs) x all (zero, below, at) = subst P at all.0
all_at P (y ∷ xs) x all (suc k, below, at) = all_at P xs x all.1 (k, omega (arith, below), at)

contains_push : {X : Type 0} (xs : List X) (x y : X) → Contains xs y → Contains (xs ++ x ∷ []) y
contains_push [] x y (k, below, at) = absurd (omega (arith, below))
contains_push (z ∷ xs) x y (zero, below, at) = (zero, omega arith, at)
contains_push (z ∷ xs) x y (suc k, below, at) = let rest = contains_push xs x y (k, omega (arith, below), at) in (suc rest.0, omega (arith, rest.1), rest.2)

first_or_later : {X : Type 0} (x : X) (xs : List X) (y : X) → Contains (x ∷ xs) y → (x ≡ y) ⊎ Contains xs y
first_or_later x xs y (zero, below, at) = inl at
first_or_later x xs y (suc k, below, at) = inr (k, omega (arith, below), at)

-- ---- an entry more or less

pub other_uses : {V : Type 0} (value : V → Change) (k : Use) (w : Option V) (old now : Use → Option V) → ((u : Use) → now u ≡ cond (is_at (use_cmp k) u) w (old u)) → (u : Use) → (u ≡ k) ⊎ (option_map value (now u) ≡ option_map value (old u))
other_uses value k w old now is u = by (use_cmp k u) refl
  where
    by : (o : Ordering) → use_cmp k u ≡ o → (u ≡ k) ⊎ (option_map value (now u) ≡ option_map value (old u))
    by Equal same = inl (sym (uses_exact k u same))
    by Less other = inr (ap (option_map value) (is u ∙ ap (λ (o : Ordering). cond (is_eq o) w (old u)) other))
    by Greater other = inr (ap (option_map value) (is u ∙ ap (λ (o : Ordering). cond (is_eq o) w (old u)) other))

pub other_begins : {V : Type 0} (job : ℕ) (w : Option V) (old now : ℕ → Option V) → ((n : ℕ) → now n ≡ cond (is_at (nat_cmp job) n) w (old n)) → (other : ℕ) → other ≢ job → now other ≡ old other
other_begins job w old now is other apart = by (nat_cmp job other) refl
  where
    by : (o : Ordering) → nat_cmp job other ≡ o → now other ≡ old other
    by Equal same = absurd (apart (sym (nat_cmp-IsAntisymmetric job other same)))
    by Less less = is other ∙ ap (λ (o : Ordering). cond (is_eq o) w (old other)) less
    by Greater greater = is other ∙ ap (λ (o : Ordering). cond (is_eq o) w (old other)) greater

-- ---- the first use of a publication

of_made : (made change user : ℕ) → is_gt (ordering_then (nat_cmp made change) (nat_cmp 0 user)) ≡ false → is_gt (ordering_then (nat_cmp change made) (nat_cmp user 4294967295)) ≡ false → change ≡ made
of_made made change user low high = grind (arith, nat_tests)

from_first : (made user : ℕ) → is_gt (ordering_then (nat_cmp made made) (nat_cmp 0 user)) ≡ false
from_first made user = grind (arith, nat_tests)

to_last : (made user : ℕ) → user ≤ 4294967295 → is_gt (ordering_then (nat_cmp made made) (nat_cmp user 4294967295)) ≡ false
to_last made user most = grind (arith, nat_tests)

module _ {V : Type 0} (m : BTreeMap Use V) (made : ℕ) (range : List (Use × V)) (between : IsRangeOf use_cmp (Included (record { change = made; job = 0 })) (Included (record { change = made; job = 4294967295 })) m range) where
  pub first_use : (e : Use × V) (rest : List (Use × V)) → range ≡ e ∷ rest → (user : ℕ) × (get use_cmp m (record { change = made; job = user }) ≡ Some e.1)
  first_use e rest is =
      let of : IsEntryInRange use_cmp (Included (record { change = made; job = 0 })) (Included (record { change = made; job = 4294967295 })) m e =
      subst (λ (r : List (Use × V)). IfSome (slice_get r 0) (IsEntryInRange use_cmp (Included (record { change = made; job = 0 })) (Included (record { change = made; job = 4294967295 })) m)) is between.1 in
      (e.0.job, subst (λ (n : ℕ). get use_cmp m (record { change = n; job = e.0.job }) ≡ Some e.1) (of_made made e.0.change e.0.job of.0.0 of.0.1) of.1)

  pub no_use : range ≡ [] → (user : ℕ) → user ≤ 4294967295 → get use_cmp m (record { change = made; job = user }) ≡ None
  no_use none user most = between.5 none (record { change = made; job = user }) (from_first made user, to_last made user most)

some_as : {X : Type 0} {o p : Option X} → o ≡ p → IsSome p → IsSome o
some_as is some = subst IsSome (sym is) some

abbrev IsNo : Bool → Type 0
IsNo true = ⊥
IsNo false = Unit {0}

pub not_some : {X : Type 0} {o : Option X} → o ≡ None → IsSome o → ⊥
not_some none some = subst IsNo some (subst IsNo (ap is_some (sym none)) tt)

-- what was kept so far of a begin
pub record Keeping (old now : Kept) (job : ℕ) (done : List Change) : Type 0 where
  pub begins : now.begins ≡ old.begins
  pub each : (u : Use) → (kept_at now u ≡ kept_at old u) ⊎ ((c : Change) × (kept_at now u ≡ Some c) × (u ≡ use_of job c) × Contains done c)
  pub kept : AllByRecursion (λ c. IsSome (kept_at now (use_of job c))) done

pub keeping_nothing : (old : Kept) (job : ℕ) → Keeping old old job []
keeping_nothing old job = record { begins = refl; each = λ u. inl refl; kept = tt }

pub keeping_one : (old now after : Kept) (job : ℕ) (done : List Change) (c : Change) → kept_at after (use_of job c) ≡ Some c → ((u : Use) → (u ≡ use_of job c) ⊎ (kept_at after u ≡ kept_at now u)) → after.begins ≡ now.begins
    → Keeping old now job done → Keeping old after job (done ++ c ∷ [])
keeping_one old now after job done c here others begins so_far = record {
  begins = begins ∙ so_far.begins;
  each = λ u. ⊎_elim (λ is. inr (c, ap (kept_at after) is ∙ here, is, Contains-push done c))
      (λ same. ⊎_elim (λ was. inl (same ∙ was)) (λ one. inr (one.0, same ∙ one.1, one.2, contains_push done c one.0 one.3)) (so_far.each u)) (others u);
  kept = all_append (λ d. IsSome (kept_at after (use_of job d))) done (c ∷ [])
      (mapped (λ d. IsSome (kept_at now (use_of job d))) (λ d. IsSome (kept_at after (use_of job d))) done
      (λ d some. ⊎_elim (λ is. some_as (ap (kept_at after) is ∙ here) refl) (λ same. some_as same some) (others (use_of job d))) so_far.kept)
      (some_as here refl, tt);
}

-- the begin of a job that had none
pub begun_indexed : (old now after : Kept) (job : ℕ) (cs : List Change) → IsIndexed old → begin_in old job ≡ [] → Keeping old now job cs → after.uses ≡ now.uses → begin_in after job ≡ cs
    → ((other : ℕ) → other ≢ job → begin_in after other ≡ begin_in old other) → IsIndexed after
begun_indexed old now after job cs indexed none so_far uses here others = record {
  begun = λ u. ⊎_elim (was u) (λ one. subst (λ (o : Option Change). IfSome o (Own u)) (sym (at u ∙ one.1)) (ap (λ (v : Use). v.change) one.2, subst (λ (ds : List Change). Contains ds one.0) (sym (ap (begin_in after) (ap (λ (v : Use). v.job) one.2) ∙ here)) one.3)) (so_far.each u);
  each = λ other. ⊎_elim
      (λ same. subst (λ (n : ℕ). AllByRecursion (λ c. IsSome (kept_at after (use_of n c))) (begin_in after n)) (sym same)
      (subst (AllByRecursion (λ c. IsSome (kept_at after (use_of job c)))) (sym here) (mapped (λ c. IsSome (kept_at now (use_of job c))) (λ c. IsSome (kept_at after (use_of job c))) cs (λ c some. some_as (at (use_of job c)) some) so_far.kept)))
      (λ apart. subst (AllByRecursion (λ c. IsSome (kept_at after (use_of other c)))) (sym (others other apart))
      (mapped (λ c. IsSome (kept_at old (use_of other c))) (λ c. IsSome (kept_at after (use_of other c))) (begin_in old other) (λ c some. stay (use_of other c) some) (indexed.each other)))
      (same_or_not other job);
}
  where
    Own : Use → Change → Type 0
    Own u c = (u.change ≡ c.listed.job) × Contains (begin_in after u.job) c

    at : (u : Use) → kept_at after u ≡ kept_at now u
    at u i = option_map (λ c. c.value) (get use_cmp (uses i) u)

    stay : (u : Use) → IsSome (kept_at old u) → IsSome (kept_at after u)
    stay u some = ⊎_elim (λ same. some_as (at u ∙ same) some) (λ one. some_as (at u ∙ one.1) refl) (so_far.each u)

    was : (u : Use) → kept_at now u ≡ kept_at old u → IfSome (kept_at after u) (Own u)
    was u same = subst (λ (o : Option Change). IfSome o (Own u)) (sym (at u ∙ same)) (by (kept_at old u) (indexed.begun u))
      where
        by : (o : Option Change) → IfSome o (λ c. (u.change ≡ c.listed.job) × Contains (begin_in old u.job) c) → IfSome o (Own u)
        by None is = tt
        by (Some c) is = (
          is.0,
          ⊎_elim (λ same. absurd (no_element (subst (λ (ds : List Change). Contains ds c) (ap (begin_in old) same ∙ none) is.1)))
              (λ apart. subst (λ (ds : List Change). Contains ds c) (sym (others u.job apart)) is.1) (same_or_not u.job job),
        )
          where
            no_element : Contains [] c → ⊥
            no_element (k, below, at) = omega (arith, below)

-- ---- the end of a job

-- what is kept where some changes of a begin that ended are still left
pub record Ending (old now : Kept) (job : ℕ) (cs : List Change) : Type 0 where
  pub begins : now.begins ≡ old.begins
  pub each : (u : Use) → (kept_at now u ≡ kept_at old u) ⊎ ((u.job ≡ job) × (kept_at now u ≡ None))
  pub left : (u : Use) → u.job ≡ job → IfSome (kept_at now u) (λ c. (u.change ≡ c.listed.job) × Contains cs c)

pub ending_all : (was old : Kept) (job : ℕ) → IsIndexed was → old.uses ≡ was.uses → Ending old old job (begin_in was job)
ending_all was old job indexed uses = record {
  begins = refl;
  each = λ u. inl refl;
  left = λ u is. subst (λ (o : Option Change). IfSome o (λ c. (u.change ≡ c.listed.job) × Contains (begin_in was job) c)) (λ i. option_map (λ c. c.value) (get use_cmp (sym uses i) u))
      (subst (λ (n : ℕ). IfSome (kept_at was u) (λ c. (u.change ≡ c.listed.job) × Contains (begin_in was n) c)) is (indexed.begun u));
}

pub ending_one : (old now after : Kept) (job : ℕ) (c : Change) (left : List Change) → kept_at after (use_of job c) ≡ None → ((u : Use) → (u ≡ use_of job c) ⊎ (kept_at after u ≡ kept_at now u)) → after.begins ≡ now.begins
    → Ending old now job (c ∷ left) → Ending old after job left
ending_one old now after job c left here others begins so_far = record {
  begins = begins ∙ so_far.begins;
  each = λ u. ⊎_elim (λ is. inr (ap (λ (v : Use). v.job) is, ap (kept_at after) is ∙ here)) (λ same. ⊎_elim (λ was. inl (same ∙ was)) (λ gone. inr (gone.0, same ∙ gone.1)) (so_far.each u)) (others u);
  left = λ u is. ⊎_elim (λ here_too. subst (λ (o : Option Change). IfSome o (Left u)) (sym (ap (kept_at after) here_too ∙ here)) tt) (λ same. by u is (kept_at now u) refl same (so_far.left u is)) (others u);
}
  where
    Left : Use → Change → Type 0
    Left u d = (u.change ≡ d.listed.job) × Contains left d

    by : (u : Use) → u.job ≡ job → (o : Option Change) → kept_at now u ≡ o → kept_at after u ≡ kept_at now u → IfSome o (λ d. (u.change ≡ d.listed.job) × Contains (c ∷ left) d) → IfSome (kept_at after u) (Left u)
    by u is None at same own = subst (λ (o : Option Change). IfSome o (Left u)) (sym (same ∙ at)) tt
    by u is (Some d) at same own = ⊎_elim
        (λ first. subst (λ (o : Option Change). IfSome o (Left u)) (sym (ap (kept_at after) (λ i. record { change = (own.0 ∙ sym (ap (λ (e : Change). e.listed.job) first)) i; job = is i }) ∙ here)) tt)
        (λ later. subst (λ (o : Option Change). IfSome o (Left u)) (sym (same ∙ at)) (own.0, later))
        (first_or_later c left d own.1)

pub ended_indexed : (was old now : Kept) (job : ℕ) → IsIndexed was → old.uses ≡ was.uses → Ending old now job [] → begin_in now job ≡ [] → ((other : ℕ) → other ≢ job → begin_in now other ≡ begin_in was other) → IsIndexed now
ended_indexed was old now job indexed uses so_far none others = record {
  begun = λ u. ⊎_elim (λ is. nothing u (kept_at now u) (so_far.left u is)) (λ apart. still u apart) (same_or_not u.job job);
  each = λ other. ⊎_elim (λ same. subst (AllByRecursion (λ c. IsSome (kept_at now (use_of other c)))) (sym (ap (begin_in now) same ∙ none)) tt)
      (λ apart. subst (AllByRecursion (λ c. IsSome (kept_at now (use_of other c)))) (sym (others other apart))
      (mapped (λ c. IsSome (kept_at was (use_of other c))) (λ c. IsSome (kept_at now (use_of other c))) (begin_in was other) (λ c some. some_as (at (use_of other c) apart) some) (indexed.each other)))
      (same_or_not other job);
}
  where
    Own : Use → Change → Type 0
    Own u c = (u.change ≡ c.listed.job) × Contains (begin_in now u.job) c

    at : (u : Use) → u.job ≢ job → kept_at now u ≡ kept_at was u
    at u apart = ⊎_elim (λ same. same ∙ (λ i. option_map (λ c. c.value) (get use_cmp (uses i) u))) (λ gone. absurd (apart gone.0)) (so_far.each u)

    nothing : (u : Use) (o : Option Change) → IfSome o (λ c. (u.change ≡ c.listed.job) × Contains [] c) → IfSome o (Own u)
    nothing u None is = tt
    nothing u (Some c) own = absurd (no_element own.1)
      where
        no_element : Contains [] c → ⊥
        no_element (k, below, at) = omega (arith, below)

    still : (u : Use) → u.job ≢ job → IfSome (kept_at now u) (Own u)
    still u apart = subst (λ (o : Option Change). IfSome o (Own u)) (sym (at u apart)) (by (kept_at was u) (indexed.begun u))
      where
        by : (o : Option Change) → IfSome o (λ c. (u.change ≡ c.listed.job) × Contains (begin_in was u.job) c) → IfSome o (Own u)
        by None is = tt
        by (Some c) is = (is.0, subst (λ (ds : List Change). Contains ds c) (sym (others u.job apart)) is.1)
