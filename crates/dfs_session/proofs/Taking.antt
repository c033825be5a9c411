-- Changes that may be taken for an entry.
use Rattle.std.proofs.Common.{◌≡◌, ℕ, Bool, true, false, cond, List, [], ◌∷◌, Option, Some, None, map, Result, Ok, Err, refl, sym, subst}
use Rattle.std.proofs.lemmas.Bool.{eqb-true}
use Rattle.std.proofs.lemmas.Option.{none-some}
use Rattle.std.specs.Prelude.{IfOk, IfSome, IsSomeAnd, find}
use Rattle.std.specs.List.{AllByRecursion}
use Rattle.dfs_host.specs.Host.{HostState, Told}
use Rattle.dfs_host.specs.declared.fault.Fault.{Fault}
use Rattle.dfs_change.specs.declared.change.Change.{Change}
use Rattle.dfs_registry.specs.declared.listed.Listed.{Listed}
use Rattle.dfs_registry.specs.Body.{has_job, has_name}
use Rattle.dfs_registry.specs.Reading.{IsListing}
use Rattle.dfs_session.specs.declared.keeping.Kept.{Kept}
use Rattle.dfs_session.specs.declared.keeping.Use.{Use}
use Rattle.dfs_session.specs.Kept.{EachBegun, IsIndexed, IsInside, IsOpened, IsOwn, kept_at}
use Rattle.dfs_session.specs.Sound.{IsEntry}
use Rattle.dfs_session.specs.Taken.{IsFor}
use Rattle.dfs_session.proofs.Begun.{found_job_is, of_found, one_entry, same_some}

-- changes of entries that are opened may be taken for an entry
pub all_for : (host : HostState) (ls : List Listed) (l : Listed) (cs : List Change) → IsListing ls → find (has_name l.name) ls ≡ Some l → AllByRecursion (IsEntry ls) cs → AllByRecursion IsInside cs → Told host (AllByRecursion (IsOwn host) cs)
    → AllByRecursion (IsFor host l) cs
all_for host ls l [] listing is entries inside opened = tt
all_for host ls l (c ∷ cs) listing is entries inside opened = (
  record { own = λ same. one_entry ls l c.listed listing is entries.0 same; inside = inside.0; opened = λ tells. (opened tells).0 },
  all_for host ls l cs listing is entries.1 inside.1 (λ tells. (opened tells).1),
)

-- A change that was found for the entry.
pub record IsTaken (host : HostState) (l : Listed) (c : Change) : Type 0 where
  pub listed : c.listed ≡ l
  pub inside : IsInside c
  pub opened : Told host (IsOpened host l c)

taken : (host : HostState) (l : Listed) (c : Change) → IsFor host l c → c.listed.job ≡ l.job → IsTaken host l c
taken host l c is same = record { listed = is.own same; inside = is.inside; opened = λ tells. subst (λ (m : Listed). IsOpened host m c) (is.own same) (is.opened tells) }

pub kept_taken : (host : HostState) (kept : Kept) (l : Listed) (user : ℕ) (c : Change) → IsIndexed kept → EachBegun (IsFor host l) kept → kept_at kept (record { change = l.job; job = user }) ≡ Some c → IsTaken host l c
kept_taken host kept l user c indexed all is =
    let u : Use = record { change = l.job; job = user } in
    taken host l c (of_found (IsFor host l) kept u c indexed all is) (sym (found_job_is kept u c indexed is))

-- what is found among the changes that were selected, by its job
pub found_taken : {X : Type 0} (host : HostState) (l : Listed) (value : X → Change) (xs : List X) (x : X) → AllByRecursion (IsFor host l) (map value xs) → find (λ y. has_job l.job (value y).listed) xs ≡ Some x → IsTaken host l (value x)
found_taken host l value [] x all is = absurd (none-some x is)
found_taken host l value (y ∷ xs) x all is = by (has_job l.job (value y).listed) refl (found_taken host l value xs x all.1) is
  where
    by : (b : Bool) → has_job l.job (value y).listed ≡ b → (find (λ z. has_job l.job (value z).listed) xs ≡ Some x → IsTaken host l (value x)) → cond b (Some y) (find (λ z. has_job l.job (value z).listed) xs) ≡ Some x → IsTaken host l (value x)
    by true has rest is = subst (λ z. IsTaken host l (value z)) (same_some y x is) (taken host l (value y) all.0 (eqb-true (value y).listed.job l.job has))
    by false has rest is = rest is

-- what is so of a change is so of what shares it
pub of_shared : {X : Type 0} (P : Change → Type 0) (value : X → Change) (result : Result (Option X) Fault) (c : Change) → IfOk result (λ found. IsSomeAnd found (λ other. value other ≡ c)) → P c → IfOk result (λ found. IfSome found (λ other. P (value other)))
of_shared P value (Ok (Some x)) c is p = subst P (sym is) p
of_shared P value (Ok None) c is p = absurd is
of_shared P value (Err fault) c is p = tt
