-- Where the tables lie that a live job reads.
use Rattle.std.proofs.Common.{◌≡◌, inl, inr, ℕ, zero, suc, List, [], ◌∷◌, map, take, Option, Some, None, refl, sym, ap, subst, arith}
use Rattle.std.specs.List.{AllByRecursion, Contains}
use Rattle.dfs_table.specs.declared.run.Run.{Run}
use Rattle.dfs_table.specs.declared.table.Table.{Table}
use Rattle.dfs_table.proofs.Stays.{all_append}
use Rattle.dfs_change.specs.declared.change.Change.{Change}
use Rattle.dfs_path.specs.declared.Scope.{Scope}
use Rattle.dfs_path.specs.declared.Scope.TheVariants.{Own, All}
use Rattle.dfs_view.specs.Layers.{own_runs, selected}
use Rattle.dfs_view.specs.View.{IsOwnRun}
use Rattle.dfs_job.specs.declared.job.Job.{Job as LiveJob}
use Rattle.dfs_job.specs.declared.planning.UnderWay.{UnderWay}
use Rattle.dfs_job.specs.Stands.{JobIsFit, PlansAreFit, basis_runs}
use Rattle.dfs_session.specs.declared.keeping.Kept.{Kept}
use Rattle.dfs_session.specs.Kept.{IsInside, begin_in}
use Rattle.dfs_session.specs.Places.{ArePlaced, IsFileOf, IsPlaced, LieInFilesOf, plan_sources}
use Rattle.dfs_session.specs.Sound.{HasItsBegin, IsLive, jobs_of, listed_in, number_of}
use Rattle.dfs_session.proofs.Begun.{both_mapped}
use Rattle.dfs_session.proofs.Lists.{mapped}

-- ---- elements

contains_later : {X : Type 0} (x : X) (xs : List X) (y : X) → Contains xs y → Contains (x ∷ xs) y
contains_later x xs y (k, below, at) = (suc k, omega (arith, below), at)

each_contained : {X : Type 0} (xs : List X) → AllByRecursion (Contains xs) xs
each_contained [] = tt
each_contained (x ∷ xs) = ((0, omega arith, refl), mapped (Contains xs) (Contains (x ∷ xs)) xs (λ y is. contains_later x xs y is) (each_contained xs))

contains_map : {X Y : Type 0} (f : X → Y) (xs : List X) (x : X) → Contains xs x → Contains (map f xs) (f x)
contains_map f [] x (k, below, at) = absurd (omega (arith, below))
contains_map f (y ∷ xs) x (zero, below, at) = (zero, omega arith, ap f at)
contains_map f (y ∷ xs) x (suc k, below, at) = contains_later (f y) (map f xs) (f x) (contains_map f xs x (k, omega (arith, below), at))

all_map : {X Y : Type 0} (P : Y → Type 0) (f : X → Y) (xs : List X) → AllByRecursion (λ x. P (f x)) xs → AllByRecursion P (map f xs)
all_map P f [] all = tt
all_map P f (x ∷ xs) all = (all.0, all_map P f xs all.1)

all_taken : {X : Type 0} (P : X → Type 0) (k : ℕ) (xs : List X) → AllByRecursion P xs → AllByRecursion P (take k xs)
all_taken P zero xs all = tt
all_taken P (suc k) [] all = tt
all_taken P (suc k) (x ∷ xs) all = (all.0, all_taken P k xs all.1)

-- ---- a live job

module _ (kept : Kept) (job : LiveJob) (fit : JobIsFit job) (inside : AllByRecursion IsInside (begin_in kept (number_of job))) (has : HasItsBegin kept job) where
  abbrev begun : List Change
  begun = begin_in kept (number_of job)

  -- what is so of each change that its begin selected is so of its basis
  of_basis : (P : Change → Type 0) → AllByRecursion P begun → AllByRecursion P (selected job.layers)
  of_basis P all = by has
    where
      by : HasItsBegin kept job → AllByRecursion P (selected job.layers)
      by (inl is) = subst (AllByRecursion P) (sym is) all
      by (inr none) = subst (AllByRecursion P) (sym none) tt

  abbrev Lies : Run → Type 0
  Lies run = AllByRecursion (λ t. IsFileOf kept job t.file) run.tables

  change_lies : (c : Change) → Contains begun c → IsInside c → Lies c.run.value
  change_lies c of lies =
      mapped (λ (t : Table). t.file ≡ c.listed.job) (λ t. IsFileOf kept job t.file) c.run.value.tables
      (λ t is. inr (subst (Contains (map (λ (d : Change). d.listed.job) begun)) (sym is) (contains_map (λ (d : Change). d.listed.job) begun c of))) lies

  basis_lies : LieInFilesOf kept job (map (λ c. c.run.value) (selected job.layers))
  basis_lies =
      all_map Lies (λ (c : Change). c.run.value) (selected job.layers)
      (of_basis (λ c. Lies c.run.value) (both_mapped (Contains begun) IsInside (λ c. Lies c.run.value) begun (λ c of lies. change_lies c of lies) (each_contained begun) inside))

  own_lies : LieInFilesOf kept job (own_runs job.layers)
  own_lies = mapped (IsOwnRun (number_of job)) Lies (own_runs job.layers) (λ r own. mapped (λ (t : Table). t.file ≡ number_of job) (λ t. IsFileOf kept job t.file) r.tables (λ t is. inl is) own.inside) fit.own

  scope_lies : (scope : Scope) → LieInFilesOf kept job (basis_runs scope (selected job.layers))
  scope_lies Own = tt
  scope_lies All = basis_lies

  plan_lies : (o : Option UnderWay) → PlansAreFit job o → LieInFilesOf kept job (plan_sources o)
  plan_lies None plan = tt
  plan_lies (Some u) plan = subst (AllByRecursion Lies) (sym plan.sources) (all_append Lies (basis_runs u.scope (selected job.layers)) (take u.covered (own_runs job.layers)) (scope_lies u.scope) (all_taken Lies u.covered (own_runs job.layers) own_lies))

  is_placed : IsPlaced kept job
  is_placed = record {
    kept_of_begin = of_basis (Contains begun) (each_contained begun);
    basis = basis_lies;
    layers = own_lies;
    sources = plan_lies job.plan fit.plan;
  }

pub placed : ArePlaced
placed session sound =
    both_mapped (λ e. IsLive session.greatest (listed_in session) e.1) (λ e. HasItsBegin session.kept e.1) (λ e. IsPlaced session.kept e.1) (jobs_of session)
    (λ e live has. is_placed session.kept e.1 live.fit (sound.inside (number_of e.1)) has) sound.jobs sound.basis
