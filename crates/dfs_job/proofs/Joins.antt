-- The last part of a plan: one layer stands in the place of all that it covered.
use Rattle.std.proofs.Common.{◌≡◌, ◌∙◌, ◌≤◌, ◌+◌, ◌-◌, ◌*◌, ℕ, zero, suc, Bool, true, false, cond, nat_lt, List, [], ◌∷◌, ◌++◌, length, map, take, drop, refl, sym, ap, subst, arith, append-nil, append_assoc, length-append}
use Rattle.std.specs.Prelude.{Option, Some, None, IsFalse, flat_map, fold}
use Rattle.std.specs.List.{AllByRecursion, AllZip, sum_by}
use Rattle.std.specs.declared.cmp.Ordering.{Ordering}
use Rattle.std.specs.declared.cmp.Ordering.TheVariants.{Less, Equal, Greater}
use Rattle.std.specs.FinMap.Entries.{put, by_order}
use Rattle.std.proofs.lemmas.Bool.{ltb-false, ltb-true}
use Rattle.std.proofs.lemmas.Grind.{flat_map-append}
use Rattle.std.proofs.lemmas.List.{take-append-drop}
use Rattle.std.proofs.lemmas.List.Folds.{flat_map-map}
use Rattle.std.proofs.lemmas.List.Sums.{fold-append, sum_by-append, sum_by-cons, sum_by-take-drop}
use Rattle.dfs_host.specs.Host.{HostState, bytes_of}
use Rattle.dfs_record.specs.declared.Key.{Key}
use Rattle.dfs_record.specs.declared.Record.{Record}
use Rattle.dfs_record.specs.declared.Value.{Value}
use Rattle.dfs_record.specs.Delta.{Delta, delta, merged as merged_list, records_of, with_record}
use Rattle.dfs_record.specs.Key.{key_cmp}
use Rattle.dfs_record.specs.KeyMap.{empty, len}
use Rattle.dfs_record.specs.Namespace.{replay}
use Rattle.dfs_record.proofs.Replays.{delta-records_of}
use Rattle.dfs_buffer.specs.Buffer.{Buffered, StandsFor}
use Rattle.dfs_fence.specs.declared.fence.Fence.{Fence}
use Rattle.dfs_log.specs.Logs.{LogState, LogStands}
use Rattle.dfs_ops.specs.declared.Ids.{Ids}
use Rattle.dfs_ops.specs.Op.{AreIds}
use Rattle.dfs_ops.specs.Within.{IsRecordWithin, IsWithin}
use Rattle.dfs_path.specs.declared.Scope.{Scope}
use Rattle.dfs_path.specs.declared.Scope.TheVariants.{Own, All}
use Rattle.dfs_change.specs.declared.change.Change.{Change}
use Rattle.dfs_change.specs.Identities.{FitsJob}
use Rattle.dfs_table.specs.declared.run.Run.{Run}
use Rattle.dfs_table.specs.declared.table.Table.{Table}
use Rattle.dfs_table.specs.Stored.{IsBlockOf, IsStored, IsTableOf, records_at, records_by, run_records}
use Rattle.dfs_table.specs.Writer.{AreIn, table_len}
use Rattle.dfs_table.proofs.Stays.{all_append, all_weaker}
use Rattle.dfs_compact.specs.Parts.{count_all, tables_of}
use Rattle.dfs_view.specs.Layers.{AreStored, LiesIn, own_runs, run_count, selected}
use Rattle.dfs_view.specs.Lists.{joined}
use Rattle.dfs_view.specs.View.{IsOwnRun, runs_len}
use Rattle.dfs_job.specs.declared.settings.Settings.{Settings}
use Rattle.dfs_job.specs.declared.job.Job.{Job as LiveJob}
use Rattle.dfs_job.specs.declared.planning.UnderWay.{UnderWay}
use Rattle.dfs_job.specs.Job.{Job, Plan, basis_covered, basis_left, covered_changes, covered_records, join, namespace_of, placed}
use Rattle.dfs_job.specs.Parted.{placed_run}
use Rattle.dfs_job.specs.Stands.{AreSettings, IsEarlier, IsFair, IsOfEarlier, IsStoredFor, JobIsFit, JobStands, PlansAreFit, PlansStand, basis_count, basis_runs, behind_plan, left_changes, merged_count, own_count, plan_len, under_way}
use Rattle.dfs_job.proofs.Fair.{fits_within}
use Rattle.dfs_job.proofs.Layers.{deltas_from}
use Rattle.dfs_job.proofs.Merges.{plan_fit, plan_stand}
use Rattle.dfs_job.proofs.Plans.{counted-append, counted_runs}
use Rattle.dfs_job.proofs.Seen.{basis_lies, own_lie, stand_from}

-- ---- the change set of the layer

all_ds : (bs : List Delta) (ls : List (List Record)) → flat_map (λ (rs : List Record). rs) (map records_of (bs ++ map delta ls)) ≡ flat_map records_of bs ++ flat_map (λ (l : List Record). records_of (delta l)) ls
all_ds bs ls =
    flat_map-map (λ (rs : List Record). rs) records_of (bs ++ map delta ls)
    ∙ flat_map-append records_of bs (map delta ls)
    ∙ ap (λ x. flat_map records_of bs ++ x) (flat_map-map records_of delta ls)

-- merging the change sets leaves what all their records leave
pub merged_is : (p : Plan) (j : Job) → delta (merged_list (map records_of (covered_changes p j))) ≡ delta (covered_records p j)
merged_is p j =
    let bs = basis_covered p.scope j.basis in
    let ls = take p.covered j.layers.closed in
    delta-records_of (delta (flat_map (λ (rs : List Record). rs) (map records_of (covered_changes p j))))
    ∙ ap delta (all_ds bs ls)
    ∙ fold-append with_record empty (flat_map records_of bs) (flat_map (λ (l : List Record). records_of (delta l)) ls)
    ∙ deltas_from (fold with_record empty (flat_map records_of bs)) ls
    ∙ sym (fold-append with_record empty (flat_map records_of bs) (flat_map (λ (l : List Record). l) ls))

put_some : (k : Key) (v : Value) (es : List (Key × Value)) → 1 ≤ length (put key_cmp k v es)
put_some k v [] = omega arith
put_some k v (e ∷ es) = by (key_cmp k e.0)
  where
    by : (o : Ordering) → 1 ≤ length (by_order o ((k, v) ∷ e ∷ es) ((e.0, v) ∷ es) (e ∷ put key_cmp k v es))
    by Less = omega arith
    by Equal = omega arith
    by Greater = omega arith

fold_some : (d : Delta) (r : Record) (rs : List Record) → 1 ≤ len (fold with_record d (r ∷ rs))
fold_some d r [] = put_some r.key r.value d.entries
fold_some d r (s ∷ rs) = fold_some (with_record d r) s rs

length-map_records : (d : Delta) → length (records_of d) ≡ len d
length-map_records d = by d.entries
  where
    by : (es : List (Key × Value)) → length (map {B = Record} (λ (e : Key × Value). record { key = e.0; value = e.1 }) es) ≡ length es
    by [] = refl
    by (e ∷ es) = ap suc (by es)

-- tables have records
tables_some : (file : List ℕ) (ts : List Table) → AllByRecursion (IsTableOf file) ts → run_records file ts ≡ [] → length ts ≡ 0
tables_some file [] each none = refl
tables_some file (t ∷ ts) each none = absurd (by t.fences each.0.each each.0.index.index.some none)
  where
    by : (fs : List Fence) → AllByRecursion (IsBlockOf file) fs → 1 ≤ length fs → records_by file fs ++ run_records file ts ≡ [] → ⊥
    by [] blocks some none = omega (arith, some)
    by (f ∷ fs) blocks some none =
        omega (arith, blocks.0.block.some, ap length none, length-append (records_at file f ++ records_by file fs) (run_records file ts), length-append (records_at file f) (records_by file fs))

-- the run takes a place exactly where the layer does
pub placed_stored : (file : List ℕ) (run : Run) (rs : List Record) → IsStored file run (delta rs) → AreStored file (placed_run run) (placed rs)
placed_stored file run rs stored = by (nat_lt 0 (length run.tables)) refl rs stored
  where
    by : (b : Bool) → nat_lt 0 (length run.tables) ≡ b → (rs : List Record) → IsStored file run (delta rs) → AreStored file (cond b (run ∷ []) []) (placed rs)
    by true e [] stored = absurd (omega (arith, tables_some file run.tables stored.each stored.records, ltb-true 0 (length run.tables) e))
    by true e (r ∷ rs) stored = (stored, tt)
    by false e [] stored = tt
    by false e (r ∷ rs) stored = absurd (none_there run.tables (ltb-false 0 (length run.tables) e) stored.records)
      where
        none_there : (ts : List Table) → length ts ≤ 0 → run_records file ts ≡ records_of (delta (r ∷ rs)) → ⊥
        none_there [] few is = omega (arith, ap length is, length-map_records (delta (r ∷ rs)), fold_some empty r rs)
        none_there (t ∷ ts) few is = omega (arith, few)

stored_drop : (file : List ℕ) (n : ℕ) (rs : List Run) (ls : List (List Record)) → AreStored file rs ls → AreStored file (drop n rs) (drop n ls)
stored_drop file zero rs ls stored = stored
stored_drop file (suc n) [] [] stored = tt
stored_drop file (suc n) [] (l ∷ ls) stored = absurd stored
stored_drop file (suc n) (r ∷ rs) [] stored = absurd stored
stored_drop file (suc n) (r ∷ rs) (l ∷ ls) stored = stored_drop file n rs ls stored.1

stored-append : (file : List ℕ) (rs ss : List Run) (ls ms : List (List Record)) → AreStored file rs ls → AreStored file ss ms → AreStored file (rs ++ ss) (ls ++ ms)
stored-append file [] ss [] ms stored more = more
stored-append file [] ss (l ∷ ls) ms stored more = absurd stored
stored-append file (r ∷ rs) ss [] ms stored more = absurd stored
stored-append file (r ∷ rs) ss (l ∷ ls) ms stored more = (stored.0, stored-append file rs ss ls ms stored.1 more)

-- ---- what the job sees

joined_placed : (rs : List Record) → flat_map (λ (x : List Record). x) (placed rs) ≡ rs
joined_placed [] = refl
joined_placed (r ∷ rs) = append-nil (r ∷ rs)

in_two : (n : ℕ) (ls : List (List Record)) → flat_map (λ (x : List Record). x) (take n ls) ++ flat_map (λ (x : List Record). x) (drop n ls) ≡ flat_map (λ (x : List Record). x) ls
in_two n ls = sym (flat_map-append (λ (x : List Record). x) (take n ls) (drop n ls)) ∙ ap (flat_map (λ (x : List Record). x)) (take-append-drop n ls)

-- the records of the layers, with those that were the basis in front
joined_join : (p : Plan) (j : Job) → joined (join p j).layers ≡ flat_map records_of (basis_covered p.scope j.basis) ++ joined j.layers
joined_join p j =
    let below = flat_map records_of (basis_covered p.scope j.basis) in
    let front = flat_map (λ (x : List Record). x) (take p.covered j.layers.closed) in
    let behind = flat_map (λ (x : List Record). x) (drop p.covered j.layers.closed) in
    ap (λ x. x ++ j.layers.open_) (flat_map-append (λ (x : List Record). x) (placed (covered_records p j)) (drop p.covered j.layers.closed) ∙ ap (λ x. x ++ behind) (joined_placed (covered_records p j)) ∙ append_assoc below front behind
    ∙ ap (λ x. below ++ x) (in_two p.covered j.layers.closed))
    ∙ append_assoc below (flat_map (λ (x : List Record). x) j.layers.closed) j.layers.open_

pub join_sees : (p : Plan) (j : Job) → namespace_of (join p j) ≡ namespace_of j
join_sees p j = ap (replay (basis_left p.scope j.basis)) (joined_join p j) ∙ by p.scope
  where
    by : (scope : Scope) → replay (basis_left scope j.basis) (flat_map records_of (basis_covered scope j.basis) ++ joined j.layers) ≡ namespace_of j
    by Own = refl
    by All = refl

-- ---- whose records they are

basis_records : (ids : Ids) (ds : List Delta) → 1 ≤ ids.job → AllByRecursion (IsOfEarlier ids.job) ds → AllByRecursion (IsRecordWithin ids) (flat_map records_of ds)
basis_records ids [] some fit = tt
basis_records ids (d ∷ ds) some fit =
    all_append (IsRecordWithin ids) (records_of d) (flat_map records_of ds) (all_weaker (FitsJob (ids.job - 1)) (IsRecordWithin ids) (records_of d) (λ r fits. fits_within ids (ids.job - 1) r (omega (arith, some)) fits) fit.0)
    (basis_records ids ds some fit.1)

scope_records : (ids : Ids) (scope : Scope) (ds : List Delta) → 1 ≤ ids.job → AllByRecursion (IsOfEarlier ids.job) ds → AllByRecursion (IsRecordWithin ids) (flat_map records_of (basis_covered scope ds))
scope_records ids Own ds some fit = tt
scope_records ids All ds some fit = basis_records ids ds some fit

scope_left : (job : ℕ) (scope : Scope) (ds : List Delta) → AllByRecursion (IsOfEarlier job) ds → AllByRecursion (IsOfEarlier job) (basis_left scope ds)
scope_left job Own ds fit = fit
scope_left job All ds fit = tt

placed_few : (rs : List Record) → length (placed rs) ≤ 1
placed_few [] = omega arith
placed_few (r ∷ rs) = omega arith

dropped_few : {A : Type 0} (n : ℕ) (xs : List A) → length (drop n xs) ≤ length xs
dropped_few zero xs = omega arith
dropped_few (suc n) [] = omega arith
dropped_few (suc n) (x ∷ xs) = omega (arith, dropped_few n xs)

own_few : (n : ℕ) (ls : List (List Record)) → length (placed (flat_map (λ (x : List Record). x) (take n ls))) + length (drop n ls) ≤ length ls
own_few zero ls = omega arith
own_few (suc n) [] = omega arith
own_few (suc n) (l ∷ ls) = omega (arith, placed_few (flat_map (λ (x : List Record). x) (take (suc n) (l ∷ ls))), dropped_few n ls)

-- no more layers, but for one in the place of a basis
layers_few : (scope : Scope) (n : ℕ) (ds : List Delta) (ls : List (List Record))
    → length (placed (flat_map records_of (basis_covered scope ds) ++ flat_map (λ (x : List Record). x) (take n ls))) + length (drop n ls) + length (take 1 (basis_left scope ds)) ≤ length ls + length (take 1 ds)
layers_few Own n ds ls = omega (arith, own_few n ls)
layers_few All n [] ls = omega (arith, own_few n ls)
layers_few All n (d ∷ ds) ls = omega (arith, placed_few (flat_map records_of (d ∷ ds) ++ flat_map (λ (x : List Record). x) (take n ls)), dropped_few n ls)

pub join_fair : (p : Plan) (j : Job) → 1 ≤ j.ids.job → IsFair j → IsFair (join p j)
join_fair p j some fair = record {
  seen = subst (λ m. IsWithin j.ids m) (sym (join_sees p j)) fair.seen;
  own = subst (AllByRecursion (IsRecordWithin j.ids)) (sym (joined_join p j))
      (all_append (IsRecordWithin j.ids) (flat_map records_of (basis_covered p.scope j.basis)) (joined j.layers) (scope_records j.ids p.scope j.basis some fair.basis) fair.own);
  basis = scope_left j.ids.job p.scope j.basis fair.basis;
  few = omega (arith, fair.few, layers_few p.scope p.covered j.basis j.layers.closed, length-append (placed (covered_records p j)) (drop p.covered j.layers.closed));
}

-- ---- the job in memory

placed_all : (P : Run → Type 0) (run : Run) → P run → AllByRecursion P (placed_run run)
placed_all P run is = by (nat_lt 0 (length run.tables))
  where
    by : (b : Bool) → AllByRecursion P (cond b (run ∷ []) [])
    by true = (is, tt)
    by false = tt

all_drop : {A : Type 0} (P : A → Type 0) (n : ℕ) (xs : List A) → AllByRecursion P xs → AllByRecursion P (drop n xs)
all_drop P zero xs all = all
all_drop P (suc n) [] all = tt
all_drop P (suc n) (x ∷ xs) all = all_drop P n xs all.1

all_left : (P : Change → Type 0) (scope : Scope) (cs : List Change) → AllByRecursion P cs → AllByRecursion P (left_changes scope cs)
all_left P Own cs all = all
all_left P All cs all = tt

zip_left : (host : HostState) (scope : Scope) (cs : List Change) (ds : List Delta) → AllZip (IsStoredFor host) cs ds → AllZip (IsStoredFor host) (left_changes scope cs) (basis_left scope ds)
zip_left host Own cs ds zip = zip
zip_left host All cs ds zip = tt

placed_count : (run : Run) → sum_by run_count (placed_run run) ≤ run_count run
placed_count run = by (nat_lt 0 (length run.tables))
  where
    by : (b : Bool) → sum_by run_count (cond b (run ∷ []) []) ≤ run_count run
    by true = omega (arith, sum_by-cons run_count run [])
    by false = omega arith

none_len : (ts : List Table) → length ts ≤ 0 → 0 ≡ sum_by table_len ts
none_len [] few = refl
none_len (t ∷ ts) few = absurd (omega (arith, few))

placed_len : (run : Run) → runs_len (placed_run run) ≡ sum_by table_len run.tables
placed_len run = by (nat_lt 0 (length run.tables)) refl
  where
    by : (b : Bool) → nat_lt 0 (length run.tables) ≡ b → runs_len (cond b (run ∷ []) []) ≡ sum_by table_len run.tables
    by true e = omega (arith, sum_by-cons (λ (x : Run). sum_by table_len x.tables) run [])
    by false e = none_len run.tables (ltb-false 0 (length run.tables) e)

-- the run of all parts, and behind it the layers that the plan does not cover, have just their bytes
pub joined_len : (o : Option UnderWay) (u : UnderWay) (run : Run) (rs joined : List Run) → o ≡ Some u → run.tables ≡ tables_of u.compaction.merged → joined ≡ placed_run run ++ drop u.covered rs → runs_len joined ≡ plan_len o + runs_len (behind_plan o rs)
joined_len o u run rs joined under tables is = omega (
  arith,
  ap runs_len is,
  sum_by-append (λ (x : Run). sum_by table_len x.tables) (placed_run run) (drop u.covered rs),
  placed_len run,
  ap (sum_by table_len) tables,
  ap plan_len under,
  ap (λ q. runs_len (behind_plan q rs)) under,
)

left_count : (scope : Scope) (cs : List Change) → sum_by (λ (c : Change). run_count c.run.value) (left_changes scope cs) + count_all (basis_runs scope cs) ≡ sum_by (λ (c : Change). run_count c.run.value) cs
left_count Own cs = omega arith
left_count All [] = refl
left_count All (c ∷ cs) =
    omega (
      arith,
      counted-append (c.run.value ∷ []) (basis_runs All cs),
      counted_runs (c.run.value ∷ []),
      sum_by-cons run_count c.run.value [],
      sum_by-cons (λ (x : Change). run_count x.run.value) c cs,
      left_count All cs,
    )

module _ (old new : LiveJob) (u : UnderWay) (run : Run) (fit : JobIsFit old) (under : old.plan ≡ Some u) (ids : new.ids ≡ old.ids) (log : new.layers.log ≡ old.layers.log) (buffer : new.layers.buffer ≡ old.layers.buffer) (limit : new.layers.limit ≡ old.layers.limit)
    (settings : new.settings ≡ old.settings) (plans : new.plans ≡ old.plans) (over : new.plan ≡ None) (runs : own_runs new.layers ≡ placed_run run ++ drop u.covered (own_runs old.layers)) (basis : selected new.layers ≡ left_changes u.scope (selected old.layers)) where
  abbrev job : ℕ
  job = old.ids.job

  pub join_fit : IsFalse new.spent → run.tables ≡ tables_of u.compaction.merged → length run.tables ≤ 131072 → JobIsFit new
  join_fit live tables few =
      let number = ap (λ (n : Ids). n.job) ids in
      record {
        live = live;
        ids = subst AreIds (sym ids) fit.ids;
        settings = subst AreSettings (sym settings) fit.settings;
        layers = record {
          live = ap (λ (l : LogState). l.spent) log ∙ fit.layers.live;
          none_refused = ap (λ (l : LogState). l.refused) log ∙ fit.layers.none_refused;
          least = omega (arith, limit, fit.layers.least);
          most = omega (arith, limit, fit.layers.most);
          room = omega (arith, limit, fit.layers.room, ap (λ (b : Buffered). b.made) buffer);
        };
        file = ap (λ (l : LogState). l.file) log ∙ fit.file ∙ sym number;
        buffer = limit ∙ fit.buffer ∙ ap (λ (s : Settings). s.buffer) (sym settings);
        log_bytes = ap (λ (l : LogState). l.limit) log ∙ fit.log_bytes ∙ ap (λ (s : Settings). s.log_bytes) (sym settings);
        own = subst (λ n. AllByRecursion (IsOwnRun n) (own_runs new.layers)) (sym number)
            (subst (AllByRecursion (IsOwnRun job)) (sym runs)
            (all_append (IsOwnRun job) (placed_run run) (drop u.covered (own_runs old.layers))
            (placed_all (IsOwnRun job) run (record { inside = subst (AreIn job) (sym tables) (plan_fit old u fit under).inside; few = few }))
            (all_drop (IsOwnRun job) u.covered (own_runs old.layers) fit.own)));
        basis = subst (λ n. AllByRecursion (IsEarlier n) (selected new.layers)) (sym number) (subst (AllByRecursion (IsEarlier job)) (sym basis) (all_left (IsEarlier job) u.scope (selected old.layers) fit.basis));
        plans = omega (arith, plans, fit.plans);
        plan = subst (PlansAreFit new) (sym over) tt;
      }

  -- the run has no more records than the plan covered
  few_after : run_count run ≤ count_all u.compaction.sources → basis_count new + own_count new ≤ basis_count old + own_count old
  few_after few =
      let rs = own_runs old.layers in
      omega (
        arith,
        few,
        ap count_all (plan_fit old u fit under).sources,
        counted-append (basis_runs u.scope (selected old.layers)) (take u.covered rs),
        counted_runs (take u.covered rs),
        sum_by-take-drop run_count rs u.covered,
        placed_count run,
        ap (λ l. sum_by run_count l) runs,
        sum_by-append run_count (placed_run run) (drop u.covered rs),
        left_count u.scope (selected old.layers),
        ap (λ l. sum_by (λ (c : Change). run_count c.run.value) l) basis,
      )

  pub join_stands : (host : HostState) (j : Job) (p : Plan) → JobStands host old j → j.plan ≡ Some p → run.tables ≡ tables_of u.compaction.merged → IsStored (bytes_of host old.layers.log.file) run (delta (merged_list (map records_of (covered_changes p j))))
      → run_count run ≤ count_all u.compaction.sources → JobStands host new (join p j)
  join_stands host j p stands plan tables stored few =
      let held = plan_stand old u fit under host j p stands plan in
      let file = ap (λ (l : LogState). l.file) log in
      let whole = subst (IsStored (bytes_of host old.layers.log.file) run) (merged_is p j) stored in
      let inside : AreIn old.layers.log.file run.tables = subst (AreIn old.layers.log.file) (sym tables) (subst (λ n. AreIn n (tables_of u.compaction.merged)) (sym fit.file) (plan_fit old u fit under).inside) in
      record {
        ids = stands.ids ∙ sym ids;
        settings = stands.settings ∙ sym settings;
        plans = stands.plans ∙ sym plans;
        stand = stand_from host new.layers (subst (LogStands host) (sym log) stands.stand.log)
            (subst (AllByRecursion (λ (c : Change). LiesIn host c.listed.job c.run.value)) (sym basis) (all_left (λ (c : Change). LiesIn host c.listed.job c.run.value) u.scope (selected old.layers) (basis_lies host old.layers stands.stand)))
            (subst (λ n. AllByRecursion (λ (r : Run). LiesIn host n r) (own_runs new.layers)) (sym file)
            (subst (AllByRecursion (λ (r : Run). LiesIn host old.layers.log.file r)) (sym runs)
            (all_append (λ (r : Run). LiesIn host old.layers.log.file r) (placed_run run) (drop u.covered (own_runs old.layers))
            (placed_all (λ (r : Run). LiesIn host old.layers.log.file r) run (record { each = whole.each; inside = inside }))
            (all_drop (λ (r : Run). LiesIn host old.layers.log.file r) u.covered (own_runs old.layers) (own_lie host old.layers stands.stand)))));
        layers = record {
          closed = subst (λ n. AreStored (bytes_of host n) (own_runs new.layers) (join p j).layers.closed) (sym file)
              (subst (λ rs. AreStored (bytes_of host old.layers.log.file) rs (join p j).layers.closed) (sym runs)
              (stored-append (bytes_of host old.layers.log.file) (placed_run run) (drop u.covered (own_runs old.layers)) (placed (covered_records p j)) (drop p.covered j.layers.closed)
              (placed_stored (bytes_of host old.layers.log.file) run (covered_records p j) whole)
              (subst (λ n. AreStored (bytes_of host old.layers.log.file) (drop u.covered (own_runs old.layers)) (drop n j.layers.closed)) (sym held.covered)
              (stored_drop (bytes_of host old.layers.log.file) u.covered (own_runs old.layers) j.layers.closed stands.layers.closed))));
          open_ = subst (λ b. StandsFor b j.layers.open_) (sym buffer) stands.layers.open_;
        };
        basis = subst (λ cs. AllZip (IsStoredFor host) cs (basis_left p.scope j.basis)) (sym basis)
            (subst (λ s. AllZip (IsStoredFor host) (left_changes u.scope (selected old.layers)) (basis_left s j.basis)) (sym held.scope) (zip_left host u.scope (selected old.layers) j.basis stands.basis));
        plan = subst (λ o. PlansStand host new.layers.log.file (join p j) o None) (sym over) tt;
        fair = join_fair p j (omega (arith, fit.ids.job, ap (λ (n : Ids). n.job) stands.ids)) stands.fair;
        account = record {
          few = omega (arith, stands.account.few, few_after few, ap (λ (b : Buffered). b.made) buffer);
          merged = omega (arith, ap merged_count over);
          over = stands.account.over + 1;
          plans = omega (arith, stands.account.plans, ap under_way plan);
          log =
              let all = j.selected + j.ids.made in
              omega (arith, stands.account.log, stands.account.merged, ap (λ q. all * under_way q) plan, ap (λ (l : LogState). l.len) log, ap (λ (b : Buffered). b.made) buffer, one_more all stands.account.over, ap merged_count over);
        };
      }
    where
      one_more : (x n : ℕ) → x * (n + 1) ≡ x * n + x * 1
      one_more x n = grind arith
