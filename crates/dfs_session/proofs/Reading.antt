-- How often what a begin selects is read.
use Rattle.std.proofs.Common.{◌≡◌, ◌∙◌, ℕ, ◌+◌, Bool, true, false, cond, List, [], ◌∷◌, ◌++◌, Option, Some, None, map, refl, sym, ap, subst, arith}
use Rattle.std.proofs.lemmas.Bool.{eq-eqb, eqb-true}
use Rattle.std.proofs.lemmas.Slice.Eq.{bytes_eq-Decides}
use Rattle.std.specs.Prelude.{◌||◌, ◌<◌, IfSome, IsSome, IsTrue, find, if◌then◌else◌, is_some}
use Rattle.std.specs.List.{AllByRecursion, Contains, list_any}
use Rattle.dfs_host.specs.Counts.{RoseBy}
use Rattle.dfs_host.proofs.Causes.{rose_by_sum}
use Rattle.dfs_record.specs.declared.SnapName.{SnapName}
use Rattle.dfs_change.specs.declared.change.Change.{Change}
use Rattle.dfs_registry.specs.declared.listed.Listed.{Listed}
use Rattle.dfs_registry.specs.Body.{has_job, has_name}
use Rattle.dfs_registry.specs.Reading.{IsListing}
use Rattle.dfs_session.specs.declared.keeping.Kept.{Kept}
use Rattle.dfs_session.specs.declared.keeping.Use.{Use}
use Rattle.dfs_session.specs.declared.session.Session.{Session as LiveSession}
use Rattle.dfs_session.specs.Kept.{EachBegun, IsIndexed, IsKept, begin_in, kept_at}
use Rattle.dfs_session.specs.Reads.{IsUnkept, Knows, ReadsOnce, first_reads, reads_for, with_name}
use Rattle.dfs_session.specs.Selected.{is_selected}
use Rattle.dfs_session.specs.Sound.{IsEntry, IsSoundInMemory, NoneHas, jobs_of, listed_in, number_of}
use Rattle.dfs_session.specs.Worked.{AreSelected}
use Rattle.dfs_session.proofs.Begun.{IsNo, first_false, found_job_is, of_found, one_entry, same_some, second_false, selected_kept}
use Rattle.dfs_session.proofs.Jobs.{Live}
use Rattle.dfs_session.proofs.Uses.{all_at}

pub stays_at : (count now : ℕ) → now ≡ count → RoseBy 0 count now
stays_at count now same = record { later = omega (arith, same); by = λ below. omega (arith, same) }

not_both : {b : Bool} → b ≡ true → b ≡ false → ⊥
not_both holds fails = subst IsNo (sym fails ∙ holds) tt

-- ---- one change set more

-- which is read where its name is neither known nor that of one before it
abbrev reads_next : (SnapName → Bool) → List Change → Change → ℕ
reads_next known cs c = if known c.listed.name || list_any (λ d. has_name c.listed.name d.listed) cs then 0 else reads_for c

or_later : (a b c : Bool) → ((a || b) || c) ≡ (a || (b || c))
or_later true b c = refl
or_later false b c = refl

or_nothing : (a : Bool) → (a || false) ≡ a
or_nothing true = refl
or_nothing false = refl

reads_append : (known : SnapName → Bool) (cs : List Change) (c : Change) → first_reads known (cs ++ c ∷ []) ≡ first_reads known cs + reads_next known cs c
reads_append known [] c =
    let same : (if known c.listed.name || false then 0 else reads_for c) ≡ (if known c.listed.name then 0 else reads_for c) = ap (λ (b : Bool). if b then 0 else reads_for c) (or_nothing (known c.listed.name)) in
    omega (arith, same)
reads_append known (d ∷ cs) c =
    let rest = reads_append (with_name known d) cs c in
    let same : reads_next (with_name known d) cs c ≡ reads_next known (d ∷ cs) c =
    ap (λ (b : Bool). if b then 0 else reads_for c) (or_later (known c.listed.name) (has_name c.listed.name d.listed) (list_any (λ e. has_name c.listed.name e.listed) cs)) in
    omega (arith, rest, same)

-- ---- entries that are found by their names and by their jobs

module _ (ls : List Listed) (l : Listed) (listing : IsListing ls) (entry : find (has_name l.name) ls ≡ Some l) where
  -- a change set of an entry has the job where it has the name
  same_test : (c : Change) → IsEntry ls c → has_job l.job c.listed ≡ has_name l.name c.listed
  same_test c is = by (has_job l.job c.listed) (has_name l.name c.listed) refl refl
    where
      by : (a b : Bool) → has_job l.job c.listed ≡ a → has_name l.name c.listed ≡ b → a ≡ b
      by true true job name = refl
      by false false job name = refl
      by true false job name =
          let same = one_entry ls l c.listed listing entry is (eqb-true c.listed.job l.job job) in
          absurd (not_both ((bytes_eq-Decides l.name c.listed.name).1 (ap (λ (m : Listed). m.name) (sym same))) name)
      by false true job name =
          let same : l ≡ c.listed = same_some l c.listed (sym entry ∙ ap (λ (n : SnapName). find (has_name n) ls) ((bytes_eq-Decides l.name c.listed.name).0 name) ∙ is) in
          absurd (not_both (eq-eqb c.listed.job l.job (ap (λ (m : Listed). m.job) (sym same))) job)

  -- one with the job is found where one has the name
  made_named : {X : Type 0} (value : X → Change) (xs : List X) → AllByRecursion (IsEntry ls) (map value xs)
      → is_some (find (λ x. has_job l.job (value x).listed) xs) ≡ list_any (λ c. has_name l.name c.listed) (map value xs)
  made_named value [] all = refl
  made_named value (x ∷ xs) all =
      by (has_job l.job (value x).listed) (made_named value xs all.1) ∙ ap (λ (b : Bool). b || list_any (λ c. has_name l.name c.listed) (map value xs)) (same_test (value x) all.0)
    where
      by : (b : Bool) → is_some (find (λ y. has_job l.job (value y).listed) xs) ≡ list_any (λ c. has_name l.name c.listed) (map value xs)
          → is_some (cond b (Some x) (find (λ y. has_job l.job (value y).listed) xs)) ≡ (b || list_any (λ c. has_name l.name c.listed) (map value xs))
      by true rest = refl
      by false rest = rest

  -- where its name is not known, nothing is kept of it
  unknown_unkept : (kept : Kept) (known : SnapName → Bool) → IsIndexed kept → EachBegun (IsEntry ls) kept → Knows ls kept known → known l.name ≡ false → IsUnkept kept l.job
  unknown_unkept kept known indexed entries knows unknown user = by (kept_at kept u) refl (knows.all u)
    where
      u : Use
      u = record { change = l.job; job = user }

      by : (o : Option Change) → kept_at kept u ≡ o → IfSome o (λ c. IsTrue (known c.listed.name)) → o ≡ None
      by None is named = refl
      by (Some c) is named =
          let same = one_entry ls l c.listed listing entry (of_found (IsEntry ls) kept u c indexed entries is) (sym (found_job_is kept u c indexed is)) in
          absurd (not_both named (ap (λ (m : Listed). known m.name) same ∙ unknown))

  -- the reads of one name more
  pub next_reads : {X : Type 0} (value : X → Change) (kept : Kept) (known : SnapName → Bool) (xs : List X) (cs : List Change) (c : Change) (start mid now : ℕ) → map value xs ≡ cs → IsIndexed kept → EachBegun (IsEntry ls) kept
      → AllByRecursion (IsEntry ls) cs → c.listed ≡ l → (IsKept kept l.job → now ≡ mid) → (IsSome (find (λ x. has_job l.job (value x).listed) xs) → now ≡ mid)
      → (IsUnkept kept l.job → find (λ x. has_job l.job (value x).listed) xs ≡ None → RoseBy (reads_for c) mid now) → Knows ls kept known → RoseBy (first_reads known cs) start mid → RoseBy (first_reads known (cs ++ c ∷ [])) start now
  next_reads value kept known xs cs c start mid now shown indexed entries all same of_kept of_made anew knows before =
      subst (λ n. RoseBy n start now) (sym (reads_append known cs c))
      (rose_by_sum before (subst (λ (name : SnapName). RoseBy (if known name || list_any (λ d. has_name name d.listed) cs then 0 else reads_for c) mid now) (ap (λ (m : Listed). m.name) (sym same))
      (by (known l.name) refl (find (λ x. has_job l.job (value x).listed) xs) refl)))
    where
      test : Bool
      test = list_any (λ d. has_name l.name d.listed) cs

      named : is_some (find (λ x. has_job l.job (value x).listed) xs) ≡ test
      named =
          made_named value xs (subst (AllByRecursion (IsEntry ls)) (sym shown) all) ∙ ap (list_any (λ d. has_name l.name d.listed)) shown

      by : (b : Bool) → known l.name ≡ b → (o : Option _) → find (λ x. has_job l.job (value x).listed) xs ≡ o → RoseBy (if b || test then 0 else reads_for c) mid now
      by true is o found = stays_at mid now (of_kept (knows.only l.name l entry is))
      by false is (Some x) found =
          subst (λ (b : Bool). RoseBy (if b then 0 else reads_for c) mid now) (sym (ap is_some found) ∙ named) (stays_at mid now (of_made (ap is_some found)))
      by false is None found =
          subst (λ (b : Bool). RoseBy (if b then 0 else reads_for c) mid now) (sym (ap is_some found) ∙ named) (anew (unknown_unkept kept known indexed entries knows is) found)

-- ---- what a session knows

-- where no begin of these jobs has it, none of them has the number of one that has it
none_with : (test : ℕ → Bool) (number : ℕ) → test number ≡ true → (es : Live) → list_any (λ e. test (number_of e.1)) es ≡ false → NoneHas number es
none_with test number holds [] none = tt
none_with test number holds (e ∷ es) none = (
  λ is. not_both (ap test is ∙ holds) (first_false (test (number_of e.1)) (list_any (λ f. test (number_of f.1)) es) none),
  none_with test number holds es (second_false (test (number_of e.1)) (list_any (λ f. test (number_of f.1)) es) none),
)

any_here : {X : Type 0} (p : X → Bool) (xs : List X) (x : X) → p x ≡ true → list_any p xs ≡ false → Contains xs x → ⊥
any_here p xs x holds none has = not_both holds (all_at (λ y. p y ≡ false) xs x (all_false xs none) has)
  where
    all_false : (ys : List _) → list_any p ys ≡ false → AllByRecursion (λ y. p y ≡ false) ys
    all_false [] none = tt
    all_false (y ∷ ys) none = (first_false (p y) (list_any p ys) none, all_false ys (second_false (p y) (list_any p ys) none))

-- what is kept for a job is a change set of the begin of a live one
kept_selected : (session : LiveSession) → IsSoundInMemory session → (number : ℕ) (c : Change) → Contains (begin_in session.kept number) c → is_selected session c.listed.name ≡ true
kept_selected session sound number c has = by (is_selected session c.listed.name) refl (named number) refl
  where
    named : ℕ → Bool
    named n = list_any (λ d. has_name c.listed.name d.listed) (begin_in session.kept n)

    no_element : Contains [] c → ⊥
    no_element (k, below, at) = omega (arith, below)

    by : (a : Bool) → is_selected session c.listed.name ≡ a → (b : Bool) → named number ≡ b → a ≡ true
    by true is b test = refl
    by false is true test = absurd (no_element (subst (λ (cs : List Change). Contains cs c) (sound.ended number (none_with named number test (jobs_of session) is)) has))
    by false is false test = absurd (any_here (λ d. has_name c.listed.name d.listed) (begin_in session.kept number) c ((bytes_eq-Decides c.listed.name c.listed.name).1 refl) test has)

-- the names in the begins of live jobs are those of what is kept
pub session_knows : (session : LiveSession) → IsSoundInMemory session → Knows (listed_in session) session.kept (is_selected session)
session_knows session sound = record {
  all = λ u. by u (kept_at session.kept u) (sound.kept.begun u);
  only = λ name l is selected. selected_kept session name l sound is selected;
}
  where
    by : (u : Use) (o : Option Change) → IfSome o (λ c. (u.change ≡ c.listed.job) × Contains (begin_in session.kept u.job) c) → IfSome o (λ c. IsTrue (is_selected session c.listed.name))
    by u None own = tt
    by u (Some c) own = kept_selected session sound u.job c own.1

-- ---- the reads of a begin

-- of one that begins no job
pub none_begun : {before now : ℕ} (old new : LiveSession) (names : List SnapName) → new.greatest ≡ old.greatest → (AreSelected names old → now ≡ before) → ReadsOnce before now old new names
none_begun old new names same kept = record { anew = λ below. absurd (omega (arith, same, below)); kept = kept }

-- and of a job over what was selected, which reads nothing more
pub begun_once : (before mid now : ℕ) (old new : LiveSession) (names : List SnapName) (cs : List Change) → now ≡ mid → (old.greatest < new.greatest → begin_in new.kept new.greatest ≡ cs) → RoseBy (first_reads (is_selected old) cs) before mid
    → (AreSelected names old → mid ≡ before) → ReadsOnce before now old new names
begun_once before mid now old new names cs same begun rose kept = record {
  anew = λ below. subst (λ (ds : List Change). RoseBy (first_reads (is_selected old) ds) before now) (sym (begun below)) (subst (λ n. RoseBy (first_reads (is_selected old) cs) before n) (sym same) rose);
  kept = λ selected. same ∙ kept selected;
}

-- a line that no call was made for
pub same_once : (count : ℕ) (session : LiveSession) (o : Option (List SnapName)) → IfSome o (ReadsOnce count count session session)
same_once count session None = tt
same_once count session (Some names) = none_begun session session names refl (λ selected. refl)

-- a session that is spent from then on
pub spent_once : (before now : ℕ) (old new : LiveSession) (o : Option (List SnapName)) → IfSome o (ReadsOnce before now old new) → IfSome o (ReadsOnce before now old (record new { spent = true }))
spent_once before now old new None once = tt
spent_once before now old new (Some names) once = record { anew = once.anew; kept = once.kept }
