-- What a session keeps of begins.
use Rattle.std.proofs.Common.{◌≡◌, ◌≢◌, ◌∙◌, inl, inr, ℕ, Bool, true, false, cond, List, [], ◌∷◌, ◌++◌, Option, Some, None, refl, sym, ap, subst, arith}
use Rattle.std.proofs.lemmas.Bool.{and_parts, eq-eqb}
use Rattle.std.proofs.lemmas.List.Folds.{Any-from_list_any}
use Rattle.std.proofs.lemmas.Option.{none-some}
use Rattle.std.proofs.lemmas.Slice.Eq.{bytes_eq-Decides}
use Rattle.std.specs.Prelude.{◌⊎◌, ◌||◌, IfSome, IsSome, find}
use Rattle.std.specs.List.{AllByRecursion, Contains, cons_option, list_all, list_any}
use Rattle.dfs_host.specs.Host.{HostState, bytes_of}
use Rattle.dfs_record.specs.declared.SnapName.{SnapName}
use Rattle.dfs_change.specs.declared.change.Change.{Change}
use Rattle.dfs_change.specs.Meant.{log_meaning}
use Rattle.dfs_table.specs.Stored.{IsStored}
use Rattle.dfs_registry.specs.declared.listed.Listed.{Listed}
use Rattle.dfs_registry.specs.Body.{has_job, has_name, lists_job, lists_name}
use Rattle.dfs_registry.specs.Reading.{IsListing, MayFollow}
use Rattle.dfs_script.specs.declared.JobWord.{JobWord}
use Rattle.dfs_job.specs.declared.job.Job.{Job as LiveJob}
use Rattle.dfs_job.proofs.Apart.{selectable_still}
use Rattle.dfs_session.specs.declared.keeping.Kept.{Kept}
use Rattle.dfs_session.specs.declared.keeping.Use.{Use}
use Rattle.dfs_session.specs.declared.session.Session.{Session as LiveSession}
use Rattle.dfs_session.specs.Kept.{EachBegun, IsIndexed, IsKept, IsOwn, begin_in, kept_at, use_of}
use Rattle.dfs_session.specs.Selected.{chosen_in, is_selected, listed_as}
use Rattle.dfs_session.specs.Sound.{HasItsBegin, IsEntry, IsLive, IsSoundInMemory, jobs_of, listed_in, number_of}
use Rattle.dfs_session.specs.Worked.{AreSelected}
use Rattle.dfs_session.proofs.Lists.{mapped}
use Rattle.dfs_session.proofs.Uses.{all_at, same_or_not}

abbrev some_or : {X : Type 0} → X → Option X → X
some_or x None = x
some_or x (Some y) = y

pub same_some : {X : Type 0} (x y : X) → Some x ≡ Some y → x ≡ y
same_some x y is = ap (some_or x) is

-- ---- every change of every begin

pub each_mapped : (P Q : Change → Type 0) (kept : Kept) → ((c : Change) → P c → Q c) → EachBegun P kept → EachBegun Q kept
each_mapped P Q kept f all job = mapped P Q (begin_in kept job) f (all job)

pub both_mapped : {X : Type 0} (P Q R : X → Type 0) (xs : List X) → ((x : X) → P x → Q x → R x) → AllByRecursion P xs → AllByRecursion Q xs → AllByRecursion R xs
both_mapped P Q R [] f ps qs = tt
both_mapped P Q R (x ∷ xs) f ps qs = (f x ps.0 qs.0, both_mapped P Q R xs f ps.1 qs.1)

-- a begin more, and the end of one
pub each_begun : (P : Change → Type 0) (old new : Kept) (job : ℕ) (cs : List Change) → begin_in new job ≡ cs → ((other : ℕ) → other ≢ job → begin_in new other ≡ begin_in old other) → AllByRecursion P cs → EachBegun P old → EachBegun P new
each_begun P old new job cs here others ps all other = by (same_or_not other job)
  where
    by : (other ≡ job) ⊎ (other ≢ job) → AllByRecursion P (begin_in new other)
    by (inl same) = subst (AllByRecursion P) (sym (ap (begin_in new) same ∙ here)) ps
    by (inr apart) = subst (AllByRecursion P) (sym (others other apart)) (all other)

pub record HasEnded (old new : Kept) (job : ℕ) : Type 0 where
  pub indexed : IsIndexed new
  pub here : begin_in new job ≡ []
  pub others : (other : ℕ) → other ≢ job → begin_in new other ≡ begin_in old other

pub each_ended : (P : Change → Type 0) (old new : Kept) (job : ℕ) → HasEnded old new job → EachBegun P old → EachBegun P new
each_ended P old new job ended all = each_begun P old new job [] ended.here ended.others tt all

-- the basis of a job whose begin is kept as it was
pub begin_still : (old new : Kept) (job : LiveJob) → begin_in new (number_of job) ≡ begin_in old (number_of job) → HasItsBegin old job → HasItsBegin new job
begin_still old new job same (inl is) = inl (is ∙ sym same)
begin_still old new job same (inr none) = inr none

-- so of jobs beside one that ended
pub begins_still : (old new : Kept) (job : ℕ) (es : List (JobWord × LiveJob)) → HasEnded old new job → AllByRecursion (λ e. job ≢ number_of e.1) es → AllByRecursion (λ e. HasItsBegin old e.1) es → AllByRecursion (λ e. HasItsBegin new e.1) es
begins_still old new job es ended =
    both_mapped (λ e. job ≢ number_of e.1) (λ e. HasItsBegin old e.1) (λ e. HasItsBegin new e.1) es (λ e apart is. begin_still old new e.1 (ended.others (number_of e.1) (λ same. apart (sym same))) is)

pub still_none : (old new : Kept) (job : ℕ) → HasEnded old new job → (other : ℕ) → (job ≢ other → begin_in old other ≡ []) → begin_in new other ≡ []
still_none old new job ended other none = by (same_or_not other job)
  where
    by : (other ≡ job) ⊎ (other ≢ job) → begin_in new other ≡ []
    by (inl same) = ap (begin_in new) same ∙ ended.here
    by (inr apart) = ended.others other apart ∙ none (λ is. apart (sym is))

-- what is so of each change of each begin is so of what is found
pub of_found : (P : Change → Type 0) (kept : Kept) (u : Use) (c : Change) → IsIndexed kept → EachBegun P kept → kept_at kept u ≡ Some c → P c
of_found P kept u c indexed all is =
    all_at P (begin_in kept u.job) c (all u.job) (subst (λ (o : Option Change). IfSome o (λ d. (u.change ≡ d.listed.job) × Contains (begin_in kept u.job) d)) is (indexed.begun u)).1

pub found_job_is : (kept : Kept) (u : Use) (c : Change) → IsIndexed kept → kept_at kept u ≡ Some c → u.change ≡ c.listed.job
found_job_is kept u c indexed is = (subst (λ (o : Option Change). IfSome o (λ d. (u.change ≡ d.listed.job) × Contains (begin_in kept u.job) d)) is (indexed.begun u)).0

-- ---- entries of the registry

pub found_front : {X : Type 0} (p : X → Bool) (xs ys : List X) (x : X) → find p xs ≡ Some x → find p (xs ++ ys) ≡ Some x
found_front p [] ys x is = absurd (none-some x is)
found_front p (y ∷ xs) ys x is = by (p y) (found_front p xs ys x) is
  where
    by : (b : Bool) → (find p xs ≡ Some x → find p (xs ++ ys) ≡ Some x) → cond b (Some y) (find p xs) ≡ Some x → cond b (Some y) (find p (xs ++ ys)) ≡ Some x
    by true rest is = is
    by false rest is = rest is

pub found_of : {X : Type 0} (P : X → Type 0) (p : X → Bool) (xs : List X) (x : X) → AllByRecursion P xs → find p xs ≡ Some x → P x
found_of P p [] x all is = absurd (none-some x is)
found_of P p (y ∷ xs) x all is = by (p y) (found_of P p xs x all.1) is
  where
    by : (b : Bool) → (find p xs ≡ Some x → P x) → cond b (Some y) (find p xs) ≡ Some x → P x
    by true rest is = subst P (same_some y x is) all.0
    by false rest is = rest is

abbrev pub IsNo : Bool → Type 0
IsNo true = ⊥
IsNo false = Unit {0}

pub second_false : (a b : Bool) → (a || b) ≡ false → b ≡ false
second_false true b none = absurd (subst IsNo (sym none) tt)
second_false false b none = none

pub first_false : (a b : Bool) → (a || b) ≡ false → a ≡ false
first_false true b none = absurd (subst IsNo (sym none) tt)
first_false false b none = refl

any_split : {X : Type 0} (p : X → Bool) (xs ys : List X) → list_any p (xs ++ ys) ≡ false → (list_any p xs ≡ false) × (list_any p ys ≡ false)
any_split p [] ys none = (refl, none)
any_split p (x ∷ xs) ys none = by (p x) none (any_split p xs ys)
  where
    by : (b : Bool) → (b || list_any p (xs ++ ys)) ≡ false → (list_any p (xs ++ ys) ≡ false → (list_any p xs ≡ false) × (list_any p ys ≡ false)) → ((b || list_any p xs) ≡ false) × (list_any p ys ≡ false)
    by true none rest = absurd (subst IsNo (sym none) tt)
    by false none rest = rest none

-- an entry that is found by its name is found by its job, and no entry before the list has that one
by_job : (before ls : List Listed) (p : Listed → Bool) (l : Listed) → MayFollow before ls → find p ls ≡ Some l → (find (has_job l.job) ls ≡ Some l) × (lists_job before l.job ≡ false)
by_job before [] p l may is = absurd (none-some l is)
by_job before (m ∷ ls) p l (fits, (new, may)) is = by (p m) (by_job (before ++ m ∷ []) ls p l may) is
  where
    by : (b : Bool) → (find p ls ≡ Some l → (find (has_job l.job) ls ≡ Some l) × (lists_job (before ++ m ∷ []) l.job ≡ false)) → cond b (Some m) (find p ls) ≡ Some l → (find (has_job l.job) (m ∷ ls) ≡ Some l) × (lists_job before l.job ≡ false)
    by true rest is =
        let same : m ≡ l = same_some m l is in (
          ap (λ (b : Bool). cond b (Some m) (find (has_job l.job) ls)) (eq-eqb m.job l.job (ap (λ (x : Listed). x.job) same)) ∙ is,
          ap (λ (x : Listed). lists_job before x.job) (sym same) ∙ second_false (lists_name before m.name) (lists_job before m.job) new,
        )
    by false rest is =
        let found = rest is in
        let parts = any_split (has_job l.job) before (m ∷ []) found.1 in (
          ap (λ (b : Bool). cond b (Some m) (find (has_job l.job) ls)) (first_false (has_job l.job m) false parts.1) ∙ found.0,
          parts.0,
        )

-- two entries with one job are one
pub one_entry : (ls : List Listed) (l m : Listed) → IsListing ls → find (has_name l.name) ls ≡ Some l → find (has_name m.name) ls ≡ Some m → m.job ≡ l.job → m ≡ l
one_entry ls l m listing is was same =
    same_some m l (sym (by_job [] ls (has_name m.name) m listing.apart was).0 ∙ ap (λ (n : ℕ). find (has_job n) ls) same ∙ (by_job [] ls (has_name l.name) l listing.apart is).0)

-- the entry of a name has it
pub listed_name : (name : SnapName) (ls : List Listed) (l : Listed) → listed_as ls name ≡ Some l → name ≡ l.name
listed_name name [] l is = absurd (none-some l is)
listed_name name (m ∷ ls) l is = by (has_name name m) refl (listed_name name ls l) is
  where
    by : (b : Bool) → has_name name m ≡ b → (listed_as ls name ≡ Some l → name ≡ l.name) → cond b (Some m) (listed_as ls name) ≡ Some l → name ≡ l.name
    by true has rest is = (bytes_eq-Decides name m.name).0 has ∙ ap (λ (x : Listed). x.name) (same_some m l is)
    by false has rest is = rest is

pub own_entry : (name : SnapName) (ls : List Listed) (l : Listed) → listed_as ls name ≡ Some l → find (has_name l.name) ls ≡ Some l
own_entry name ls l is = ap (λ (n : SnapName). find (has_name n) ls) (sym (listed_name name ls l is)) ∙ is

-- ---- hosts that go on

-- an opened change is opened on a later host that has its log
pub opened_still : (before after : HostState) (c : Change) → bytes_of after c.listed.job ≡ bytes_of before c.listed.job → IsOwn before c → IsOwn after c
opened_still before after c same is = record {
  changes = is.changes;
  meant = ap (λ b. log_meaning b c.listed) same ∙ is.meant;
  stored = subst (λ b. IsStored b c.run.value is.changes) (sym same) is.stored;
  selectable = selectable_still before after c same is.selectable;
}

pub kept_still : (before after : HostState) (ls : List Listed) (kept : Kept) → AllByRecursion (λ l. bytes_of after l.job ≡ bytes_of before l.job) ls → EachBegun (IsEntry ls) kept → EachBegun (IsOwn before) kept → EachBegun (IsOwn after) kept
kept_still before after ls kept same entries opened job =
    both_mapped (IsEntry ls) (IsOwn before) (IsOwn after) (begin_in kept job) (λ c is own. opened_still before after c (found_of (λ l. bytes_of after l.job ≡ bytes_of before l.job) (has_name c.listed.name) ls c.listed same is) own) (entries job) (opened job)

-- ---- names that live jobs selected

any_element : {X : Type 0} (p : X → Bool) (xs : List X) → list_any p xs ≡ true → (x : X) × (Contains xs x) × (p x ≡ true)
any_element p xs is = let any = Any-from_list_any p xs is in (any.1, (any.0, any.2, any.3), any.4)

-- the change of a name that a live job selected is kept
pub selected_kept : (session : LiveSession) (name : SnapName) (l : Listed) → IsSoundInMemory session → listed_as (listed_in session) name ≡ Some l → is_selected session name ≡ true → IsKept session.kept l.job
selected_kept session name l sound is selected =
    let job = any_element (λ e. list_any (λ c. has_name name c.listed) (begin_in session.kept (number_of e.1))) (jobs_of session) selected in
    let number = number_of job.0.1 in
    let change = any_element (λ c. has_name name c.listed) (begin_in session.kept number) job.2 in
    let c = change.0 in
    let live : IsLive session.greatest (listed_in session) job.0.1 = all_at (λ e. IsLive session.greatest (listed_in session) e.1) (jobs_of session) job.0 sound.jobs job.1 in
    let entry : IsEntry (listed_in session) c = all_at (IsEntry (listed_in session)) (begin_in session.kept number) c (sound.entries number) change.1 in
    let same : l ≡ c.listed = same_some l c.listed (sym is ∙ ap (listed_as (listed_in session)) ((bytes_eq-Decides name c.listed.name).0 change.2) ∙ entry) in
    (number, omega (arith, live.numbered, sound.greatest), subst (λ (n : ℕ). IsSome (kept_at session.kept (record { change = n; job = number }))) (sym (ap (λ (x : Listed). x.job) same)) (all_at (λ d. IsSome (kept_at session.kept (use_of number d))) (begin_in session.kept number) c (sound.kept.each number) change.1))

pub names_kept : (session : LiveSession) (names : List SnapName) → IsSoundInMemory session → AreSelected names session → AllByRecursion (λ l. IsKept session.kept l.job) (chosen_in (listed_in session) names)
names_kept session [] sound selected = tt
names_kept session (name ∷ names) sound selected =
    let parts = and_parts (is_selected session name) (list_all (is_selected session) names) selected in
    by (listed_as (listed_in session) name) refl parts.0 (names_kept session names sound parts.1)
  where
    by : (o : Option Listed) → listed_as (listed_in session) name ≡ o → is_selected session name ≡ true → AllByRecursion (λ l. IsKept session.kept l.job) (chosen_in (listed_in session) names)
        → AllByRecursion (λ l. IsKept session.kept l.job) (cons_option o (chosen_in (listed_in session) names))
    by None is has rest = rest
    by (Some l) is has rest = (selected_kept session name l sound is has, rest)
