-- What a job stands for as a plan begins, and as its parts are merged.
use Rattle.std.proofs.Common.{◌≡◌, ◌∙◌, ◌≤◌, ◌<◌, ◌+◌, ◌-◌, ◌*◌, ℕ, zero, suc, Bool, false, if◌then◌else◌, nat_le, List, [], ◌∷◌, ◌++◌, length, map, take, drop, get_or, refl, sym, ap, subst, arith, append_assoc}
use Rattle.std.specs.Prelude.{Option, Some, None, Result, Ok, Err, OnOk, IsSome, IsTrue, IsFalse, is_some, replicate, slice_get}
use Rattle.std.specs.List.{AllByRecursion, AllZip, sum_by}
use Rattle.std.proofs.lemmas.Bool.{lt-leb}
use Rattle.std.proofs.lemmas.List.{length-drop, length-replicate, map-append, take_all}
use Rattle.std.proofs.lemmas.Simd.{map-map}
use Rattle.std.proofs.lemmas.List.Sums.{sum_by-append, sum_by-cons, sum_by-take-le}
use Rattle.dfs_host.specs.Host.{HostState, bytes_of}
use Rattle.dfs_record.specs.declared.Record.{Record}
use Rattle.dfs_record.specs.Delta.{Delta, delta}
use Rattle.dfs_record.specs.Records.{Files}
use Rattle.dfs_path.specs.declared.Scope.{Scope}
use Rattle.dfs_path.specs.declared.Scope.TheVariants.{Own, All}
use Rattle.dfs_change.specs.declared.change.Change.{Change}
use Rattle.dfs_fence.specs.declared.fence.Fence.{Fence}
use Rattle.dfs_table.specs.declared.run.Run.{Run}
use Rattle.dfs_table.specs.Counts.{count_of}
use Rattle.dfs_table.specs.Tables.{all_fences}
use Rattle.dfs_table.specs.Writer.{AreIn}
use Rattle.dfs_compact.specs.Compaction.{CompactionState}
use Rattle.dfs_compact.specs.Parts.{AreSources, count_all, fences_in, tables_of}
use Rattle.dfs_compact.proofs.Covering.{none_at, none_have}
use Rattle.dfs_compact.proofs.Rounds.{one_further}
use Rattle.dfs_view.specs.Layers.{AreStored, LiesIn, own_runs, run_count, selected}
use Rattle.dfs_job.specs.declared.answers.Planned.{Planned}
use Rattle.dfs_job.specs.declared.answers.Planned.TheVariants.{Made, Busy, Full}
use Rattle.dfs_job.specs.declared.job.Job.{Job as LiveJob}
use Rattle.dfs_job.specs.declared.planning.UnderWay.{UnderWay}
use Rattle.dfs_job.specs.Job.{Job, Plan, after_plan, basis_covered, need, plan_answer, plan_answer_beside, planned_as, with_plan}
use Rattle.dfs_job.specs.Stands.{IsStoredFor, JobIsFit, JobIsSound, JobStands, PlansStand, basis_count, basis_runs, merged_count, own_count, sources_of, under_way}
use Rattle.dfs_job.proofs.Sealing.{stored_lengths}
use Rattle.dfs_job.proofs.Seen.{basis_lies, own_lie}

-- ---- what a plan covers is stored

-- the runs of the basis are sources for its change sets
basis_sources : (host : HostState) (cs : List Change) (ds : List Delta) → AllByRecursion (λ (c : Change). LiesIn host c.listed.job c.run.value) cs → AllZip (IsStoredFor host) cs ds → AreSources (bytes_of host) (map (λ (c : Change). c.run.value) cs) ds
basis_sources host [] [] lies zip = tt
basis_sources host [] (d ∷ ds) lies zip = absurd zip
basis_sources host (c ∷ cs) [] lies zip = absurd zip
basis_sources host (c ∷ cs) (d ∷ ds) lies zip = (record { file = c.listed.job; inside = lies.0.inside; stored = zip.0 }, basis_sources host cs ds lies.1 zip.1)

-- and so are the first runs of the closed layers for theirs
own_sources : (host : HostState) (file n : ℕ) (rs : List Run) (ls : List (List Record)) → AllByRecursion (λ (r : Run). LiesIn host file r) rs → AreStored (bytes_of host file) rs ls → AreSources (bytes_of host) (take n rs) (map delta (take n ls))
own_sources host file zero rs ls lie stored = tt
own_sources host file (suc n) [] [] lie stored = tt
own_sources host file (suc n) [] (l ∷ ls) lie stored = absurd stored
own_sources host file (suc n) (r ∷ rs) [] lie stored = absurd stored
own_sources host file (suc n) (r ∷ rs) (l ∷ ls) lie stored = (record { file = file; inside = lie.0.inside; stored = stored.0 }, own_sources host file n rs ls lie.1 stored.1)

sources-append : (files : Files) (rs ss : List Run) (ds es : List Delta) → AreSources files rs ds → AreSources files ss es → AreSources files (rs ++ ss) (ds ++ es)
sources-append files [] ss [] es are more = more
sources-append files [] ss (d ∷ ds) es are more = absurd are
sources-append files (r ∷ rs) ss [] es are more = absurd are
sources-append files (r ∷ rs) ss (d ∷ ds) es are more = (are.0, sources-append files rs ss ds es are.1 more)

scope_sources : (host : HostState) (scope : Scope) (cs : List Change) (ds : List Delta) → AllByRecursion (λ (c : Change). LiesIn host c.listed.job c.run.value) cs → AllZip (IsStoredFor host) cs ds
    → AreSources (bytes_of host) (basis_runs scope cs) (basis_covered scope ds)
scope_sources host Own cs ds lies zip = tt
scope_sources host All cs ds lies zip = basis_sources host cs ds lies zip

pub covered_sources : (host : HostState) (live : LiveJob) (j : Job) (scope : Scope) (covered : ℕ) → JobStands host live j
    → AreSources (bytes_of host) (sources_of scope covered live.layers) (basis_covered scope j.basis ++ map delta (take covered j.layers.closed))
covered_sources host live j scope covered stands =
    let layers = live.layers in
    sources-append (bytes_of host) (basis_runs scope (selected layers)) (take covered (own_runs layers)) (basis_covered scope j.basis) (map delta (take covered j.layers.closed))
    (scope_sources host scope (selected layers) j.basis (basis_lies host layers stands.stand) stands.basis)
    (own_sources host layers.log.file covered (own_runs layers) j.layers.closed (own_lie host layers stands.stand) stands.layers.closed)

-- ---- how many records a plan covers

pub counted-append : (rs ss : List Run) → count_all (rs ++ ss) ≡ count_all rs + count_all ss
counted-append [] ss = omega arith
counted-append (r ∷ rs) ss =
    omega (
      arith,
      counted-append rs ss,
      sum_by-append (λ (f : Fence). f.count) (all_fences r.tables) (fences_in (rs ++ ss)),
      sum_by-append (λ (f : Fence). f.count) (all_fences r.tables) (fences_in rs),
    )

pub counted_runs : (rs : List Run) → count_all rs ≡ sum_by run_count rs
counted_runs [] = refl
counted_runs (r ∷ rs) = omega (arith, sum_by-append (λ (f : Fence). f.count) (all_fences r.tables) (fences_in rs), sum_by-cons run_count r rs, counted_runs rs)

basis_counted : (scope : Scope) (cs : List Change) → count_all (basis_runs scope cs) ≤ sum_by (λ (c : Change). run_count c.run.value) cs
basis_counted Own cs = omega arith
basis_counted All [] = omega arith
basis_counted All (c ∷ cs) =
    omega (
      arith,
      sum_by-append (λ (f : Fence). f.count) (all_fences c.run.value.tables) (fences_in (basis_runs All cs)),
      sum_by-cons (λ (x : Change). run_count x.run.value) c cs,
      basis_counted All cs,
    )

-- a plan covers no more records than the job has in its basis and its closed layers
pub covered_counted : (scope : Scope) (covered : ℕ) (live : LiveJob) → count_all (sources_of scope covered live.layers) ≤ basis_count live + own_count live
covered_counted scope covered live =
    let rs = own_runs live.layers in
    omega (
      arith,
      counted-append (basis_runs scope (selected live.layers)) (take covered rs),
      basis_counted scope (selected live.layers),
      counted_runs (take covered rs),
      sum_by-take-le run_count rs covered,
    )

-- ---- what a loop added

pub map-drop : {A B : Type 0} (f : A → B) (n : ℕ) (xs : List A) → map f (drop n xs) ≡ drop n (map f xs)
map-drop f zero xs = refl
map-drop f (suc n) [] = refl
map-drop f (suc n) (x ∷ xs) = map-drop f n xs

-- one element more, mapped
pub grown : {A B : Type 0} (f : A → B) (xs : List A) (i : ℕ) (x : A) (start old new : List B) → i < length xs → x ≡ get_or xs i x → new ≡ old ++ f x ∷ [] → old ≡ start ++ map f (take i xs) → new ≡ start ++ map f (take (i + 1) xs)
grown f xs i x start old new lt is more so_far =
    more ∙ ap (λ l. l ++ f x ∷ []) so_far ∙ append_assoc start (map f (take i xs)) (f x ∷ []) ∙ ap (λ l. start ++ l) (sym (ap (map f) (one_further xs i x lt is) ∙ map-append f (take i xs) (x ∷ [])))

pub grown_twice : {A B C : Type 0} (f : A → B) (g : B → C) (xs : List A) (i : ℕ) (x : A) (start old new : List C) → i < length xs → x ≡ get_or xs i x → new ≡ old ++ g (f x) ∷ [] → old ≡ start ++ map g (map f (take i xs))
    → new ≡ start ++ map g (map f (take (i + 1) xs))
grown_twice f g xs i x start old new lt is more so_far =
    grown (λ y. g (f y)) xs i x start old new lt is more (so_far ∙ ap (λ l. start ++ l) (map-map g f (take i xs))) ∙ ap (λ l. start ++ l) (sym (map-map g f (take (i + 1) xs)))

-- ---- a plan begins

none_merged : (n : ℕ) → replicate n false ≡ map {A = Option Run} is_some (replicate n None)
none_merged zero = refl
none_merged (suc n) = ap (λ (l : List Bool). false ∷ l) (none_merged n)

module _ (old : LiveJob) (scope : Scope) (c : CompactionState) (parts n : ℕ) (fit : JobIsFit old) (none : old.plan ≡ None) (merged : c.merged ≡ replicate parts None) where
  abbrev begun_plan : UnderWay
  begun_plan = record { scope = scope; compaction = c; covered = n }

  begun_tables : tables_of c.merged ≡ []
  begun_tables = ap tables_of merged ∙ none_have parts

  pub covers_fit : (plans : ℕ) → plans ≤ 65535 → n ≡ length (own_runs old.layers) → c.sources ≡ sources_of scope (length (own_runs old.layers)) old.layers → c.parts ≡ parts → parts ≤ 256 → IsFalse c.spent
      → JobIsFit (record { ids = old.ids; layers = old.layers; settings = old.settings; plans = plans; plan = Some begun_plan; spent = false })
  covers_fit plans few all sources as_many most live = record {
    live = refl;
    ids = fit.ids;
    settings = fit.settings;
    layers = fit.layers;
    file = fit.file;
    buffer = fit.buffer;
    log_bytes = fit.log_bytes;
    own = fit.own;
    basis = fit.basis;
    plans = few;
    plan = record {
      live = live;
      sources = sources ∙ ap (λ k. sources_of scope k old.layers) (sym all);
      inside = subst (AreIn old.ids.job) (sym begun_tables) tt;
      covered = omega (arith, all);
      len = ap length merged ∙ length-replicate parts _ ∙ sym as_many;
      parts = omega (arith, as_many, most);
    };
  }

  no_plan : (host : HostState) (file : ℕ) (j : Job) (o : Option UnderWay) → o ≡ None → (q : Option Plan) → PlansStand host file j o q → q ≡ None
  no_plan host file j o is None stand = refl
  no_plan host file j o is (Some p) stand = absurd (subst (λ x. PlansStand host file j x (Some p)) is stand)

  pub covers_stands : (host : HostState) (j : Job) (plans : ℕ) → plans ≡ old.plans + 1 → n ≡ length (own_runs old.layers) → JobStands host old j
      → JobStands host (record { ids = old.ids; layers = old.layers; settings = old.settings; plans = plans; plan = Some begun_plan; spent = false }) (with_plan scope parts j)
  covers_stands host j plans more all stands =
      let before = no_plan host old.layers.log.file j old.plan none j.plan stands.plan in
      let count : merged_count (Some begun_plan) ≡ 0 = ap (λ ts. count_of (all_fences ts)) begun_tables in
      record {
        ids = stands.ids;
        settings = stands.settings;
        plans = omega (arith, stands.plans, more);
        stand = stands.stand;
        layers = stands.layers;
        basis = stands.basis;
        plan = record {
          scope = refl;
          covered = sym (stored_lengths (bytes_of host old.layers.log.file) (own_runs old.layers) j.layers.closed stands.layers.closed) ∙ sym all;
          merged = none_merged parts ∙ ap (map is_some) (sym merged);
          parts = λ i run at. absurd (none_at parts i run (subst (λ ms. slice_get ms i ≡ Some (Some run)) merged at));
          cut = λ i run at. absurd (none_at parts i run (subst (λ ms. slice_get ms i ≡ Some (Some run)) merged at));
        };
        fair = record { seen = stands.fair.seen; own = stands.fair.own; basis = stands.fair.basis; few = stands.fair.few };
        account = record {
          few = stands.account.few;
          merged = omega (arith, count);
          over = stands.account.over;
          plans = omega (arith, stands.account.plans, ap under_way before);
          log = omega (arith, stands.account.log, ap merged_count none, count);
        };
      }

-- all behind the first ones
pub behind : {A : Type 0} (n : ℕ) (xs : List A) → take (length xs - n) (drop n xs) ≡ drop n xs
behind n xs = take_all (length xs - n) (drop n xs) (omega (arith, length-drop n xs))

-- ---- what a plan may need

-- a plan that is made needs more
pub need_more : (j : Job) (scope : Scope) (parts : Option ℕ) → need j ≤ need (after_plan j scope parts)
need_more j scope parts = by (plan_answer j)
  where
    more : (x n : ℕ) → x * (n + 2) ≤ x * (n + 1 + 2)
    more x n = grind arith

    by : (a : Planned) → need j ≤ need (planned_as a j scope parts)
    by Made = omega (arith, more (1200 * (j.selected + j.ids.made)) j.plans)
    by Busy = omega arith
    by Full = omega arith

-- ---- whether a plan may begin

pub plan_none : (o : Option UnderWay) → is_some o ≡ false → o ≡ None
plan_none None e = refl
plan_none (Some u) e = absurd (cc e)

few_plans : (n : ℕ) → n < 65535 → nat_le 65535 n ≡ false
few_plans n few = lt-leb 65535 n few

pub is_made : (host : HostState) (live : LiveJob) (j : Job) → live.plan ≡ None → live.plans < 65535 → JobStands host live j → plan_answer j ≡ Made
is_made host live j none few stands = by j.plan (subst (λ o. PlansStand host live.layers.log.file j o j.plan) none stands.plan)
  where
    by : (q : Option Plan) → PlansStand host live.layers.log.file j None q → plan_answer_beside q j.plans ≡ Made
    by None stand = ap (λ b. if b then Full else Made) (few_plans j.plans (omega (arith, few, stands.plans)))
    by (Some p) stand = absurd stand

pub is_full : (host : HostState) (live : LiveJob) (j : Job) → live.plan ≡ None → live.plans ≡ 65535 → JobStands host live j → plan_answer j ≡ Full
is_full host live j none all stands = by j.plan (subst (λ o. PlansStand host live.layers.log.file j o j.plan) none stands.plan)
  where
    by : (q : Option Plan) → PlansStand host live.layers.log.file j None q → plan_answer_beside q j.plans ≡ Full
    by None stand = ap (λ n. if nat_le 65535 n then Full else Made) (stands.plans ∙ all)
    by (Some p) stand = absurd stand

pub is_busy : (host : HostState) (live : LiveJob) (j : Job) → IsSome live.plan → JobStands host live j → plan_answer j ≡ Busy
is_busy host live j some stands = by live.plan some j.plan stands.plan
  where
    by : (o : Option UnderWay) → IsSome o → (q : Option Plan) → PlansStand host live.layers.log.file j o q → plan_answer_beside q j.plans ≡ Busy
    by None is q stand = absurd (cc is)
    by (Some u) is None stand = absurd stand
    by (Some u) is (Some p) stand = refl

-- ---- a sound job

-- the plain job that it stands for, where the call was answered
pub record StandsOnOk {T E : Type 0} (result : Result T E) (host : HostState) (live : LiveJob) : Type 0 where
  pub job : Job
  pub stands : OnOk result (JobStands host live job)

pub ok_sound : {T E : Type 0} (result : Result T E) (host : HostState) (live : LiveJob) → OnOk result (JobIsFit live) → (IsTrue host.tells → StandsOnOk result host live) → OnOk result (JobIsSound host live)
ok_sound (Ok x) host live fit stands = record { fit = fit; stands = λ tells. let one = stands tells in record { plain = one.job; stands = one.stands } }
ok_sound (Err e) host live fit stands = tt
