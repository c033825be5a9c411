-- What a job keeps as its layers go on.
use Rattle.std.proofs.Common.{◌≡◌, ◌≢◌, ◌∙◌, ◌≤◌, ◌<◌, ◌+◌, ◌*◌, ◌^◌, ℕ, List, [], ◌∷◌, ◌++◌, length, map, take, refl, sym, ap, subst, arith, length-append}
use Rattle.std.specs.Prelude.{true, Option, Some, None, IsTrue, IsFalse}
use Rattle.std.proofs.lemmas.List.{take-append-le}
use Rattle.std.proofs.lemmas.List.Sums.{sum_by-cons}
use Rattle.std.proofs.Math.Nat.{mul-le-mul_right}
use Rattle.std.specs.List.{AllByRecursion, AllZip, sum_by}
use Rattle.dfs_host.specs.Host.{HostState, Only, bytes_of}
use Rattle.dfs_buffer.specs.Buffer.{Buffered, StandsFor, nothing}
use Rattle.dfs_log.specs.Logs.{LogState, LogStands, begun as begun_log}
use Rattle.dfs_record.specs.declared.Record.{Record}
use Rattle.dfs_record.specs.Delta.{Delta, delta}
use Rattle.dfs_record.specs.KeyMap.{len}
use Rattle.dfs_path.specs.declared.Op.{Op}
use Rattle.dfs_path.specs.Op.{IsOp}
use Rattle.dfs_ops.specs.declared.Ids.{Ids}
use Rattle.dfs_ops.specs.Op.{AreIds, Outcome, ids_after, outcome}
use Rattle.dfs_change.specs.declared.change.Change.{Change}
use Rattle.dfs_table.proofs.Stays.{all_append, all_weaker}
use Rattle.dfs_table.specs.Stored.{IsStored}
use Rattle.dfs_table.specs.Writer.{AreIn}
use Rattle.dfs_table.specs.declared.run.Run.{Run}
use Rattle.dfs_plan.specs.Parts.{boundary}
use Rattle.dfs_compact.specs.Parts.{merged_part, tables_of}
use Rattle.dfs_compact.proofs.Staying.{stored_on}
use Rattle.dfs_view.specs.Layers.{AreFit, AreStored, LiesIn, Stand, StandFor, layers_map, own_runs, run_count, selected}
use Rattle.dfs_view.specs.Lists.{Layered, add_all, flushed}
use Rattle.dfs_view.specs.View.{IsOwnRun, WorksOn}
use Rattle.dfs_job.specs.declared.settings.Settings.{Settings}
use Rattle.dfs_job.specs.declared.job.Job.{Job as LiveJob}
use Rattle.dfs_job.specs.declared.planning.UnderWay.{UnderWay}
use Rattle.dfs_job.specs.Job.{Job, Plan, after, after_flush, basis_covered, begun, covered_changes, does, first_ids, need}
use Rattle.dfs_job.specs.Stands.{AreSettings, IsEarlier, IsFair, IsInAccount, IsSelectable, IsStoredFor, JobIsFit, JobStands, PlansAreFit, PlansStand, StandsForOne, basis_count, basis_runs, merged_count, own_count, under_way, PartsAreCut}
use Rattle.dfs_job.proofs.Apart.{AgreeBut, agree_but, basis_apart, basis_still_lies}
use Rattle.dfs_job.proofs.Fair.{fair_after, fair_begun, fair_flushed}
use Rattle.dfs_job.proofs.Layers.{added_all, flushed_all}
use Rattle.dfs_job.proofs.Sealing.{stored_count, stored_lengths}
use Rattle.dfs_job.proofs.Seen.{seen, stand_from}

pub earlier_apart : (number : ℕ) (cs : List Change) → AllByRecursion (IsEarlier number) cs → AllByRecursion (λ (c : Change). c.listed.job ≢ number) cs
earlier_apart number cs all = all_weaker (IsEarlier number) (λ (c : Change). c.listed.job ≢ number) cs (λ c below same. absurd (omega (arith, below, same))) all

-- a plan merges what it covers, though layers come behind
pub plans_fit_after : (old new : LiveJob) (more : List Run) → own_runs new.layers ≡ own_runs old.layers ++ more → new.layers.basis.items ≡ old.layers.basis.items → new.ids.job ≡ old.ids.job → (o : Option UnderWay) → PlansAreFit old o → PlansAreFit new o
plans_fit_after old new more runs basis job None fit = tt
plans_fit_after old new more runs basis job (Some u) fit =
    let covered : take u.covered (own_runs new.layers) ≡ take u.covered (own_runs old.layers) = ap (take u.covered) runs ∙ take-append-le u.covered (own_runs old.layers) more fit.covered in
    record {
      live = fit.live;
      sources = fit.sources ∙ (λ i. basis_runs u.scope (map (λ c. c.value) (sym basis i)) ++ sym covered i);
      inside = subst (λ n. AreIn n (tables_of u.compaction.merged)) (sym job) fit.inside;
      covered = omega (arith, fit.covered, ap length runs, length-append (own_runs old.layers) more);
      len = fit.len;
      parts = fit.parts;
    }

-- layers that go on leave a fit job fit
pub fit_after : (host host_after : HostState) (old new : LiveJob) (count : ℕ) (becomes : Layered → Layered) → JobIsFit old
    → WorksOn (record { host = host; layers = old.layers; live = true }) (record { host = host_after; layers = new.layers; live = true }) count becomes
    → IsFalse new.spent → AreIds new.ids → new.ids.job ≡ old.ids.job → new.settings ≡ old.settings → AreFit new.layers → new.plans ≡ old.plans → new.plan ≡ old.plan → JobIsFit new
fit_after host host_after old new count becomes fit works live ids job settings layers plans plan = record {
  live = live;
  ids = ids;
  settings = subst AreSettings (sym settings) fit.settings;
  layers = layers;
  file = works.file ∙ fit.file ∙ sym job;
  buffer = works.limit ∙ fit.buffer ∙ ap (λ (s : Settings). s.buffer) (sym settings);
  log_bytes = works.log_limit ∙ fit.log_bytes ∙ ap (λ (s : Settings). s.log_bytes) (sym settings);
  own = subst (λ n. AllByRecursion (IsOwnRun n) (own_runs new.layers)) (sym job)
      (subst (AllByRecursion (IsOwnRun old.ids.job)) (sym works.runs)
      (all_append (IsOwnRun old.ids.job) (own_runs old.layers) works.more fit.own (subst (λ n. AllByRecursion (IsOwnRun n) works.more) fit.file works.more_own)));
  basis = subst (λ n. AllByRecursion (IsEarlier n) (selected new.layers)) (sym job) (subst (AllByRecursion (IsEarlier old.ids.job)) (sym (ap (map (λ c. c.value)) works.basis)) fit.basis);
  plans = omega (arith, plans, fit.plans);
  plan = subst (PlansAreFit new) (sym plan) (plans_fit_after old new works.more works.runs works.basis job old.plan fit.plan);
}

-- ---- the account

-- no more bytes than the job may need
pub within_need : (j : Job) (over under bytes : ℕ) → over + under ≤ j.plans → bytes ≤ 1012 + 1200 * ((j.selected + j.ids.made) * over + (j.selected + j.ids.made) * under + 2 * (j.selected + j.ids.made)) → bytes < need j
within_need j over under bytes plans le =
    let all = j.selected + j.ids.made in
    let more : over + under + 2 ≤ j.plans + 2 = omega (arith, plans) in
    omega (arith, le, mul-le-mul_right (1200 * all) more, products all over under, turned all j.plans)
  where
    products : (x n m : ℕ) → (n + m + 2) * (1200 * x) ≡ 1200 * (x * n + x * m + 2 * x)
    products x n m = grind arith

    turned : (x n : ℕ) → (n + 2) * (1200 * x) ≡ 1200 * x * (n + 2)
    turned x n = grind arith

-- records came in, and the log grew by what they may cost
pub account_after : (old new : LiveJob) (j k : Job) (count : ℕ) → IsInAccount old j → basis_count new ≡ basis_count old
    → own_count new + new.layers.buffer.made ≤ own_count old + (old.layers.buffer.made + count)
    → new.layers.log.len + 1100 * new.layers.buffer.made ≤ old.layers.log.len + 1100 * (old.layers.buffer.made + count)
    → k.selected ≡ j.selected → k.ids.made ≡ j.ids.made + count → k.plans ≡ j.plans → k.plan ≡ j.plan → new.plan ≡ old.plan → IsInAccount new k
account_after old new j k count account basis counted growth selected made plans plan live = record {
  few = omega (arith, account.few, basis, counted, selected, made);
  merged = omega (arith, account.merged, ap merged_count live, ap (λ q. (k.selected + k.ids.made) * under_way q) plan, mul-le-mul_right (under_way j.plan) (more_of j k count selected made));
  over = account.over;
  plans = omega (arith, account.plans, plans, ap under_way plan);
  log = omega (arith, account.log, growth, made, ap merged_count live, mul-le-mul_right account.over (more_of j k count selected made));
}
  where
    more_of : (j k : Job) (count : ℕ) → k.selected ≡ j.selected → k.ids.made ≡ j.ids.made + count → j.selected + j.ids.made ≤ k.selected + k.ids.made
    more_of j k count selected made = omega (arith, selected, made)

-- the log of a job that is in account, with what so many more records and a merge may cost it, has no more bytes than the job may need
pub account_short : (old : LiveJob) (j k : Job) (count merge limit len : ℕ) → IsInAccount old j → len ≤ old.layers.log.len + 1100 * (old.layers.buffer.made + count) + merge → merge ≤ 996 + 1200 * (j.selected + j.ids.made) → limit < len
    → k.selected ≡ j.selected → j.ids.made + count ≤ k.ids.made → j.plans ≤ k.plans → limit < need k
account_short old j k count merge limit len account growth few past selected made plans =
    let more : j.selected + j.ids.made ≤ k.selected + k.ids.made = omega (arith, selected, made) in
    let bytes = within_need k account.over (under_way j.plan) len (omega (arith, account.plans, plans))
    (omega (arith, growth, few, account.log, account.merged, selected, made, mul-le-mul_right account.over more, mul-le-mul_right (under_way j.plan) more)) in
    omega (arith, bytes, past)

-- so many records need a longer log than a job may have
pub too_many_short : (job : LiveJob) (j : Job) → JobIsFit job → j.settings ≡ job.settings → 535822592 < j.selected + j.ids.made → j.settings.log_bytes < need j
too_many_short job j fit settings many =
    let bytes = within_need j 0 0 (1200 * (2 * (j.selected + j.ids.made))) (omega arith) (omega arith) in
    omega (arith, bytes, many, fit.settings.log_bytes_most, ap (λ (s : Settings). s.log_bytes) settings)

-- ---- what a job stands for as its layers go on

-- parts that were merged stay stored as the log grows
plans_after : (host host_after : HostState) (file len : ℕ) (old : LiveJob) (j k : Job) (more : List (List Record)) → k.basis ≡ j.basis → k.layers.closed ≡ j.layers.closed ++ more
    → length j.layers.closed ≡ length (own_runs old.layers) → take len (bytes_of host_after file) ≡ bytes_of host file
    → (o : Option UnderWay) (q : Option Plan) → PlansAreFit old o → PlansStand host file j o q → PlansStand host_after file k o q
plans_after host host_after file len old j k more basis closed as_many kept None None fit stand = tt
plans_after host host_after file len old j k more basis closed as_many kept None (Some p) fit stand = absurd stand
plans_after host host_after file len old j k more basis closed as_many kept (Some u) None fit stand = absurd stand
plans_after host host_after file len old j k more basis closed as_many kept (Some u) (Some p) fit stand =
    let covered : take p.covered k.layers.closed ≡ take p.covered j.layers.closed = ap (take p.covered) closed ∙ take-append-le p.covered j.layers.closed more (omega (arith, stand.covered, fit.covered, as_many)) in
    let changes : covered_changes p k ≡ covered_changes p j = λ i. basis_covered p.scope (basis i) ++ map delta (covered i) in
    record {
      scope = stand.scope;
      covered = stand.covered;
      merged = stand.merged;
      parts = λ i run at.
          subst (λ ds. IsStored (bytes_of host_after file) run (delta (merged_part (boundary u.compaction.keys u.compaction.parts i) (boundary u.compaction.keys u.compaction.parts (i + 1)) ds))) (sym changes)
          (stored_on (bytes_of host file) (bytes_of host_after file) len run _ kept (stand.parts i run at));
      cut = subst (PartsAreCut u.compaction) (sym changes) stand.cut;
    }

module _ (host host_after : HostState) (old new : LiveJob) (j : Job) (tells : IsTrue host.tells) (fit : JobIsFit old) (stands : JobStands host old j) (only : Only old.ids.job host host_after) (stand : Stand host_after new.layers)
    (settings : new.settings ≡ old.settings) (basis : new.layers.basis.items ≡ old.layers.basis.items) (plans : new.plans ≡ old.plans) (plan : new.plan ≡ old.plan) where
  basis_stands : AllZip (IsStoredFor host_after) (selected new.layers) j.basis
  basis_stands =
      subst (λ cs. AllZip (IsStoredFor host_after) cs j.basis) (sym (ap (map (λ c. c.value)) basis))
      (basis_apart old.ids.job host host_after (agree_but old.ids.job host host_after tells only) (selected old.layers) j.basis (earlier_apart old.ids.job (selected old.layers) fit.basis) stands.basis)

  same_basis : basis_count new ≡ basis_count old
  same_basis = ap (λ cs. sum_by (λ (c : Change). run_count c.run.value) (map (λ c. c.value) cs)) basis

  plan_stands : (k : Job) (more : List (List Record)) → new.layers.log.file ≡ old.layers.log.file → k.basis ≡ j.basis → k.layers.closed ≡ j.layers.closed ++ more → k.plan ≡ j.plan
      → take (length (bytes_of host old.layers.log.file)) (bytes_of host_after old.layers.log.file) ≡ bytes_of host old.layers.log.file → PlansStand host_after new.layers.log.file k new.plan k.plan
  plan_stands k more file same closed under kept =
      let log = old.layers.log.file in
      let many : length j.layers.closed ≡ length (own_runs old.layers) = sym (stored_lengths (bytes_of host log) (own_runs old.layers) j.layers.closed stands.layers.closed) in
      subst (λ n. PlansStand host_after n k new.plan k.plan) (sym file)
      (subst (PlansStand host_after log k new.plan) (sym under)
      (subst (λ o. PlansStand host_after log k o j.plan) (sym plan) (plans_after host host_after log (length (bytes_of host log)) old j k more same closed many kept old.plan j.plan fit.plan stands.plan)))

  -- an operation's records came in
  pub stands_after : (op : Op) (records : List Record)
      → WorksOn (record { host = host; layers = old.layers; live = true }) (record { host = host_after; layers = new.layers; live = true }) (length records) (λ l. add_all old.layers.limit l records)
      → records ≡ (does j op).records → new.ids ≡ ids_after j.ids (does j op) → IsFair (after j (does j op)) → JobStands host_after new (after j (does j op))
  stands_after op records works whole ids fair =
      let grown = added_all j.settings.buffer j.layers (does j op).records in
      record {
        ids = sym ids;
        settings = stands.settings ∙ sym settings;
        plans = stands.plans ∙ sym plans;
        stand = stand;
        layers =
            let limit : old.layers.limit ≡ j.settings.buffer = fit.buffer ∙ ap (λ (s : Settings). s.buffer) (sym stands.settings) in
            subst (StandFor host_after new.layers) (λ i. add_all (limit i) j.layers (whole i)) (works.added tells refl j.layers stands.layers);
        basis = basis_stands;
        plan = plan_stands (after j (does j op)) grown.0 works.file refl grown.1 refl (works.bytes tells);
        fair = fair;
        account = account_after old new j (after j (does j op)) (length records) stands.account same_basis works.counted (omega (arith, works.growth)) refl (ap (λ (rs : List Record). j.ids.made + length rs) (sym whole)) refl refl plan;
      }

  -- the open layer was closed
  pub stands_flushed : WorksOn (record { host = host; layers = old.layers; live = true }) (record { host = host_after; layers = new.layers; live = true }) 0 flushed
      → new.ids ≡ old.ids → IsFair (after_flush j) → JobStands host_after new (after_flush j)
  stands_flushed works ids fair =
      let grown = flushed_all j.layers in
      record {
        ids = stands.ids ∙ sym ids;
        settings = stands.settings ∙ sym settings;
        plans = stands.plans ∙ sym plans;
        stand = stand;
        layers = works.added tells refl j.layers stands.layers;
        basis = basis_stands;
        plan = plan_stands (after_flush j) grown.0 works.file refl grown.1 refl (works.bytes tells);
        fair = fair;
        account = account_after old new j (after_flush j) 0 stands.account same_basis works.counted (omega (arith, works.growth)) refl (omega arith) refl refl plan;
      }

-- ---- an operation

pub same_outcome : (host : HostState) (old : LiveJob) (j : Job) (op : Op) → JobStands host old j → outcome (layers_map host old.layers) old.ids op ≡ does j op
same_outcome host old j op stands = λ i. outcome (seen host old j stands i) (sym stands.ids i) op

pub op_stands : (host host_after : HostState) (old new : LiveJob) (op : Op) (records : List Record) → IsTrue host.tells → JobIsFit old → IsOp op
    → WorksOn (record { host = host; layers = old.layers; live = true }) (record { host = host_after; layers = new.layers; live = true }) (length records) (λ l. add_all old.layers.limit l records)
    → records ≡ (outcome (layers_map host old.layers) old.ids op).records → new.ids ≡ ids_after old.ids (outcome (layers_map host old.layers) old.ids op) → Stand host_after new.layers → new.settings ≡ old.settings → new.plans ≡ old.plans → new.plan ≡ old.plan
    → (j : Job) → JobStands host old j → JobStands host_after new (after j (does j op))
op_stands host host_after old new op records tells fit is_op works whole ids stand settings plans plan j stands =
    let same = same_outcome host old j op stands in
    let valid : AreIds j.ids = subst AreIds (sym stands.ids) fit.ids in
    stands_after host host_after old new j tells fit stands (subst (λ n. Only n host host_after) fit.file works.only) stand settings works.basis plans plan op records works
    (whole ∙ ap (λ (o : Outcome). o.records) same) (ids ∙ (λ i. ids_after (sym stands.ids i) (same i))) (fair_after j op valid is_op stands.fair)

pub flush_stands : (host host_after : HostState) (old new : LiveJob) → IsTrue host.tells → JobIsFit old
    → WorksOn (record { host = host; layers = old.layers; live = true }) (record { host = host_after; layers = new.layers; live = true }) 0 flushed
    → new.ids ≡ old.ids → Stand host_after new.layers → new.settings ≡ old.settings → new.plans ≡ old.plans → new.plan ≡ old.plan → (j : Job) → JobStands host old j → JobStands host_after new (after_flush j)
flush_stands host host_after old new tells fit works ids stand settings plans plan j stands =
    stands_flushed host host_after old new j tells fit stands (subst (λ n. Only n host host_after) fit.file works.only) stand settings works.basis plans plan works ids (fair_flushed j stands.fair)

-- ---- a new job

-- how many records the selected change sets have
selected_counted : (host : HostState) (cs : List Change) (ds : List Delta) → AllZip (IsStoredFor host) cs ds → sum_by (λ (c : Change). run_count c.run.value) cs ≡ sum_by len ds
selected_counted host [] [] zip = refl
selected_counted host [] (d ∷ ds) zip = absurd zip
selected_counted host (c ∷ cs) [] zip = absurd zip
selected_counted host (c ∷ cs) (d ∷ ds) zip =
    omega (
      arith,
      sum_by-cons (λ (x : Change). run_count x.run.value) c cs,
      sum_by-cons len d ds,
      stored_count (bytes_of host c.listed.job) c.run.value d zip.0,
      selected_counted host cs ds zip.1,
    )

module _ (new : LiveJob) (number : ℕ) (settings : Settings) (ids : new.ids ≡ first_ids number) (log : new.layers.log ≡ begun_log number settings.log_bytes) (buffer : new.layers.buffer ≡ nothing) (runs : own_runs new.layers ≡ [])
    (limit : new.layers.limit ≡ settings.buffer) (given : new.settings ≡ settings) (plans : new.plans ≡ 0) (plan : new.plan ≡ None) (earlier : AllByRecursion (IsEarlier number) (selected new.layers)) where
  pub begun_fit : 1 ≤ number → number < 2 ^ 32 → AreSettings settings → IsFalse new.spent → JobIsFit new
  begun_fit some fits are live =
      let made : new.layers.buffer.made ≡ 0 = ap (λ (b : Buffered). b.made) buffer in
      record {
        live = live;
        ids = subst AreIds (sym ids) (record { job = some; fits = fits; counter = omega arith; made = omega arith });
        settings = subst AreSettings (sym given) are;
        layers = record {
          live = ap (λ (l : LogState). l.spent) log;
          none_refused = ap (λ (l : LogState). l.refused) log;
          least = omega (arith, limit, are.buffer);
          most = omega (arith, limit, are.buffer_most);
          room = omega (arith, limit, are.buffer, made);
        };
        file = ap (λ (l : LogState). l.file) log ∙ ap (λ (n : Ids). n.job) (sym ids);
        buffer = limit ∙ ap (λ (s : Settings). s.buffer) (sym given);
        log_bytes = ap (λ (l : LogState). l.limit) log ∙ ap (λ (s : Settings). s.log_bytes) (sym given);
        own = subst (AllByRecursion (IsOwnRun new.ids.job)) (sym runs) tt;
        basis = subst (λ n. AllByRecursion (IsEarlier n) (selected new.layers)) (ap (λ (n : Ids). n.job) (sym ids)) earlier;
        plans = omega (arith, plans);
        plan = subst (PlansAreFit new) (sym plan) tt;
      }

  module _ (host host_after : HostState) (tells : IsTrue host.tells) (only : Only number host host_after) (selectable : AllByRecursion (IsSelectable host) (selected new.layers)) (log_stands : LogStands host_after new.layers.log) where
    agree : AgreeBut number host host_after
    agree = agree_but number host host_after tells only

    others : AllByRecursion (λ (c : Change). c.listed.job ≢ number) (selected new.layers)
    others = earlier_apart number (selected new.layers) earlier

    pub begun_stands : (ds : List Delta) → AllZip (IsStoredFor host) (selected new.layers) ds → JobStands host_after new (begun number ds settings)
    begun_stands ds zip = record {
      ids = sym ids;
      settings = sym given;
      plans = sym plans;
      stand = stand_from host_after new.layers log_stands
          (basis_still_lies number host host_after agree (selected new.layers) others (all_weaker (IsSelectable host) (λ (c : Change). LiesIn host c.listed.job c.run.value) (selected new.layers) (λ c is. is.lies) selectable))
          (subst (AllByRecursion (λ (r : Run). LiesIn host_after new.layers.log.file r)) (sym runs) tt);
      layers = record { closed = subst (λ rs. AreStored (bytes_of host_after new.layers.log.file) rs []) (sym runs) tt; open_ = subst (λ (b : Buffered). StandsFor b []) (sym buffer) (record { held = refl; made = refl }) };
      basis = basis_apart number host host_after agree (selected new.layers) ds others zip;
      plan = subst (λ o. PlansStand host_after new.layers.log.file (begun number ds settings) o None) (sym plan) tt;
      fair = fair_begun host number (selected new.layers) ds settings earlier selectable zip;
      account = record {
        few = omega (arith, selected_counted host (selected new.layers) ds zip, ap (λ rs. sum_by run_count rs) runs, ap (λ (b : Buffered). b.made) buffer);
        merged = omega (arith, ap merged_count plan);
        over = 0;
        plans = refl;
        log = omega (arith, ap (λ (l : LogState). l.len) log, ap (λ (b : Buffered). b.made) buffer);
      };
    }

    abbrev deltas : (cs : List Change) → AllByRecursion (IsSelectable host) cs → List Delta
    deltas [] all = []
    deltas (c ∷ cs) all = all.0.changes ∷ deltas cs all.1

    are_stored : (cs : List Change) (all : AllByRecursion (IsSelectable host) cs) → AllZip (IsStoredFor host) cs (deltas cs all)
    are_stored [] all = tt
    are_stored (c ∷ cs) all = (all.0.stored, are_stored cs all.1)

    pub begun_stands_for_one : StandsForOne host_after new
    begun_stands_for_one = record { plain = begun number (deltas (selected new.layers) selectable) settings; stands = begun_stands (deltas (selected new.layers) selectable) (are_stored (selected new.layers) selectable) }
