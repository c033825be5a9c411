-- A part of a plan was merged.
use Rattle.std.proofs.Common.{◌≡◌, ◌≢◌, ◌∙◌, ◌≤◌, ◌<◌, ◌+◌, ◌*◌, ◌⊎◌, ◌↔◌, inl, inr, ℕ, zero, suc, Bool, true, false, if◌then◌else◌, nat_le, List, [], ◌∷◌, ◌++◌, length, map, take, drop, refl, sym, ap, subst, arith}
use Rattle.std.specs.Prelude.{Option, Some, None, Result, Ok, Err, nat_lt, IsSome, IsSomeAnd, IsTrue, IsFalse, get_or, is_some, slice_get, slice_set}
use Rattle.std.specs.List.{AllByRecursion, list_all}
use Rattle.std.proofs.lemmas.Bool.{le-leb, leb-false, leb-true, lt-leb, lt-ltb, ltb-false, ltb-true}
use Rattle.std.proofs.lemmas.List.{length-map, take-append-drop}
use Rattle.dfs_host.specs.Host.{HostState, Only, bytes_of}
use Rattle.dfs_host.specs.declared.fault.Fault.{Fault}
use Rattle.dfs_record.specs.declared.Record.{Record}
use Rattle.dfs_record.specs.Delta.{Delta, delta}
use Rattle.dfs_record.specs.Records.{Files}
use Rattle.dfs_log.specs.Logs.{LogState, LogStands}
use Rattle.dfs_change.specs.declared.change.Change.{Change}
use Rattle.dfs_table.specs.declared.run.Run.{Run}
use Rattle.dfs_table.specs.declared.table.Table.{Table}
use Rattle.dfs_table.specs.Counts.{count_of}
use Rattle.dfs_table.specs.Stored.{IsTableOf}
use Rattle.dfs_table.specs.Tables.{all_fences}
use Rattle.dfs_table.specs.Writer.{AreIn}
use Rattle.dfs_table.proofs.Stays.{all_weaker, tables_stay}
use Rattle.dfs_compact.specs.declared.compaction.Parted.{Parted}
use Rattle.dfs_compact.specs.declared.compaction.Parted.TheVariants as parted
use Rattle.dfs_compact.specs.Compaction.{AreMerged, CompactionState, IsAdded, IsMerged, IsOverfull, IsPastWith, IsRefusal, IsWritten, Stands as CompactionStands}
use Rattle.dfs_compact.specs.Parts.{AreSources, count_all, tables_of}
use Rattle.dfs_compact.proofs.Staying.{stored_on}
use Rattle.dfs_view.specs.Layers.{AreStored, LiesIn, own_runs, selected}
use Rattle.dfs_job.specs.declared.settings.Settings.{Settings}
use Rattle.dfs_job.specs.declared.answers.JobPart.{JobPart}
use Rattle.dfs_job.specs.declared.answers.JobPart.TheVariants.{Merged, Last, NoPlan, Range, Done}
use Rattle.dfs_job.specs.declared.job.Job.{Job as LiveJob}
use Rattle.dfs_job.specs.declared.planning.UnderWay.{UnderWay}
use Rattle.dfs_job.specs.Job.{Job, Plan, basis_covered, covered_changes, joined_as, marked, merged_as, need, part_answer_of, parted_as, with_part}
use Rattle.dfs_job.specs.Parted.{IsRefusedPart, answer_by}
use Rattle.dfs_job.specs.Stands.{IsOneTooMany, JobIsFit, JobStands, PlanIsFit, PlanStands, PartsAreStored, PassesWith, PlansAreFit, PlansStand, merged_count, merges_too_many, plan_count, plan_tables, under_way}
use Rattle.dfs_job.proofs.Apart.{agree_but, basis_apart, basis_still_lies}
use Rattle.dfs_job.proofs.Keeping.{earlier_apart, too_many_short, within_need}
use Rattle.dfs_job.proofs.Plans.{covered_counted, covered_sources}
use Rattle.dfs_job.proofs.Seen.{basis_lies, own_lie, stand_from}

-- ---- the answer

got : (ms : List (Option Run)) (i : ℕ) → IsSomeAnd (slice_get ms i) IsSome → get_or (map is_some ms) i false ≡ true
got [] i is = absurd is
got (None ∷ ms) zero is = absurd (cc is)
got (Some run ∷ ms) zero is = refl
got (m ∷ ms) (suc i) is = got ms i is

not_got : (ms : List (Option Run)) (i : ℕ) → (IsSomeAnd (slice_get ms i) IsSome → ⊥) → get_or (map is_some ms) i false ≡ false
not_got [] i not = refl
not_got (None ∷ ms) zero not = refl
not_got (Some run ∷ ms) zero not = absurd (not refl)
not_got (m ∷ ms) (suc i) not = not_got ms i not

all_true : (ms : List (Option Run)) → AllByRecursion IsSome ms → list_all (λ b. b) (map is_some ms) ≡ true
all_true [] all = refl
all_true (None ∷ ms) all = absurd (cc all.0)
all_true (Some run ∷ ms) all = all_true ms all.1

not_all : (ms : List (Option Run)) → (AllByRecursion IsSome ms → ⊥) → list_all (λ b. b) (map is_some ms) ≡ false
not_all [] not = absurd (not tt)
not_all (None ∷ ms) not = refl
not_all (Some run ∷ ms) not = not_all ms (λ all. not (refl, all))

map_set : (ms : List (Option Run)) (i : ℕ) (run : Run) → map is_some (slice_set ms i (Some run)) ≡ with_part (map is_some ms) i
map_set [] i run = refl
map_set (m ∷ ms) zero run = refl
map_set (m ∷ ms) (suc i) run = ap (λ l. is_some m ∷ l) (map_set ms i run)

module _ (p : Plan) (c c_after : CompactionState) (part : ℕ) (merged : p.merged ≡ map is_some c.merged) (len : length c.merged ≡ c.parts) where
  as_many : length p.merged ≡ c.parts
  as_many = ap length merged ∙ length-map c.merged is_some ∙ len

  abbrev behind : Bool → Bool → Bool → JobPart
  behind a b d = if a then Range else (if b then Done else (if d then Last else Merged))

  pub of_range : c.parts ≤ part → part_answer_of (Some p) part ≡ Range
  of_range le = ap (λ a. behind a (get_or p.merged part false) (list_all (λ b. b) (with_part p.merged part))) (le-leb (length p.merged) part (omega (arith, le, as_many)))

  inside : (c.parts ≤ part → ⊥) → nat_le (length p.merged) part ≡ false
  inside not = lt-leb (length p.merged) part (omega (arith, as_many, below (nat_le c.parts part) refl))
    where
      below : (b : Bool) → nat_le c.parts part ≡ b → part < c.parts
      below true e = absurd (not (leb-true c.parts part e))
      below false e = leb-false c.parts part e

  pub of_done : (c.parts ≤ part → ⊥) → IsMerged c part → part_answer_of (Some p) part ≡ Done
  of_done not is =
      ap (λ a. behind a (get_or p.merged part false) (list_all (λ b. b) (with_part p.merged part))) (inside not)
      ∙ ap (λ a. behind false a (list_all (λ b. b) (with_part p.merged part))) (ap (λ l. get_or l part false) merged ∙ got c.merged part is)

  pub marked_is : IsAdded c c_after part → with_part p.merged part ≡ map is_some c_after.merged
  marked_is added = ap (λ l. with_part l part) merged ∙ sym (map_set c.merged part added.run) ∙ ap (λ (s : CompactionState). map is_some s.merged) (sym added.same)

  module _ (added : IsAdded c c_after part) (not : c.parts ≤ part → ⊥) (new : IsMerged c part → ⊥) where
    in_front : part_answer_of (Some p) part ≡ (if list_all (λ b. b) (with_part p.merged part) then Last else Merged)
    in_front =
        ap (λ a. behind a (get_or p.merged part false) (list_all (λ b. b) (with_part p.merged part))) (inside not)
        ∙ ap (λ a. behind false a (list_all (λ b. b) (with_part p.merged part))) (ap (λ l. get_or l part false) merged ∙ not_got c.merged part new)

    pub of_last : AreMerged c_after → part_answer_of (Some p) part ≡ Last
    of_last all = in_front ∙ ap (λ a. if a then Last else Merged) (ap (list_all (λ b. b)) (marked_is added) ∙ all_true c_after.merged all)

    pub of_merged : (AreMerged c_after → ⊥) → part_answer_of (Some p) part ≡ Merged
    of_merged some = in_front ∙ ap (λ a. if a then Last else Merged) (ap (list_all (λ b. b)) (marked_is added) ∙ not_all c_after.merged some)

-- ---- the job

-- the tables of runs stay as the file grows
lies_on : (old new : List ℕ) (n : ℕ) (ts : List Table) → take n new ≡ old → AllByRecursion (IsTableOf old) ts → AllByRecursion (IsTableOf new) ts
lies_on old new n ts kept each = subst (λ l. AllByRecursion (IsTableOf l) ts) (ap (λ l. l ++ drop n new) (sym kept) ∙ take-append-drop n new) (tables_stay old (drop n new) ts each)

stored_all : (old new : List ℕ) (n : ℕ) (rs : List Run) (ls : List (List Record)) → take n new ≡ old → AreStored old rs ls → AreStored new rs ls
stored_all old new n [] [] kept stored = tt
stored_all old new n [] (l ∷ ls) kept stored = absurd stored
stored_all old new n (r ∷ rs) [] kept stored = absurd stored
stored_all old new n (r ∷ rs) (l ∷ ls) kept stored = (stored_on old new n r (delta l) kept stored.0, stored_all old new n rs ls kept stored.1)

-- the job with another state of its plan and another log
abbrev pub with_state : LiveJob → LogState → UnderWay → CompactionState → LiveJob
with_state old log u c = record {
  ids = old.ids;
  layers = record { log = log; buffer = old.layers.buffer; limit = old.layers.limit; runs = old.layers.runs; basis = old.layers.basis };
  settings = old.settings;
  plans = old.plans;
  plan = Some (record { scope = u.scope; compaction = c; covered = u.covered });
  spent = false;
}

fit_plan : (job : LiveJob) (u : UnderWay) (o : Option UnderWay) → o ≡ Some u → PlansAreFit job o → PlanIsFit job u
fit_plan job u o is fit = subst (PlansAreFit job) is fit

-- the plan under way of a job that stands on a host
module _ (old : LiveJob) (u : UnderWay) (fit : JobIsFit old) (under : old.plan ≡ Some u) where
  pub plan_fit : PlanIsFit old u
  plan_fit = fit_plan old u old.plan under fit.plan

  module _ (host : HostState) (j : Job) (p : Plan) (stands : JobStands host old j) (plan : j.plan ≡ Some p) where
    pub plan_stand : PlanStands host old.layers.log.file j u p
    plan_stand = subst (PlansStand host old.layers.log.file j (Some u)) plan (subst (λ o. PlansStand host old.layers.log.file j o j.plan) under stands.plan)

    covered_same : basis_covered u.scope j.basis ++ map delta (take u.covered j.layers.closed) ≡ covered_changes p j
    covered_same = λ i. basis_covered (sym plan_stand.scope i) j.basis ++ map delta (take (sym plan_stand.covered i) j.layers.closed)

    -- it stands as a compaction
    pub compaction_stands : CompactionStands (bytes_of host) old.layers.log.file u.compaction (covered_changes p j)
    compaction_stands = record {
      sources = subst (AreSources (bytes_of host) u.compaction.sources) covered_same
          (subst (λ rs. AreSources (bytes_of host) rs (basis_covered u.scope j.basis ++ map delta (take u.covered j.layers.closed))) (sym plan_fit.sources) (covered_sources host old j u.scope u.covered stands));
      inside = subst (λ n. AreIn n (tables_of u.compaction.merged)) (sym fit.file) plan_fit.inside;
      each = plan_stand.parts;
      cut = plan_stand.cut;
    }

    -- no more records were merged than the job has
    pub sources_few : count_all u.compaction.sources + old.layers.buffer.made ≤ j.selected + j.ids.made
    sources_few = omega (arith, ap count_all plan_fit.sources, covered_counted u.scope u.covered old, stands.account.few)

    -- a log that refused a piece of the part may be too short for the job
    pub part_short : (len : ℕ) → old.layers.log.limit < len → len + 1100 * count_of (all_fences (tables_of u.compaction.merged)) ≤ old.layers.log.len + 1100 * count_all u.compaction.sources → j.settings.log_bytes < need j
    part_short len past growth =
        let bytes = within_need j stands.account.over 1 len (omega (arith, stands.account.plans, ap under_way plan)) (omega (arith, growth, sources_few, stands.account.log, ap merged_count under)) in
        omega (arith, bytes, past, fit.log_bytes, ap (λ (s : Settings). s.log_bytes) stands.settings)

    pub overfull_short : IsOverfull u.compaction → j.settings.log_bytes < need j
    overfull_short many = too_many_short old j fit stands.settings (omega (arith, many, sources_few, plan_fit.parts))

module _ (old : LiveJob) (u : UnderWay) (c : CompactionState) (log : LogState) (fit : JobIsFit old) (under : old.plan ≡ Some u) (file : log.file ≡ old.layers.log.file) where
  abbrev new : LiveJob
  new = with_state old log u c

  pub state_fit : log.limit ≡ old.layers.log.limit → log.spent ≡ false → log.refused ≡ 0 → c.sources ≡ u.compaction.sources → c.parts ≡ u.compaction.parts → IsFalse c.spent → AreIn log.file (tables_of c.merged) → length c.merged ≡ length u.compaction.merged → JobIsFit new
  state_fit limit live refused sources parts c_live inside len = record {
    live = refl;
    ids = fit.ids;
    settings = fit.settings;
    layers = record { live = live; none_refused = refused; least = fit.layers.least; most = fit.layers.most; room = fit.layers.room };
    file = file ∙ fit.file;
    buffer = fit.buffer;
    log_bytes = limit ∙ fit.log_bytes;
    own = fit.own;
    basis = fit.basis;
    plans = fit.plans;
    plan = record {
      live = c_live;
      sources = sources ∙ (plan_fit old u fit under).sources;
      inside = subst (λ n. AreIn n (tables_of c.merged)) (file ∙ fit.file) inside;
      covered = (plan_fit old u fit under).covered;
      len = len ∙ (plan_fit old u fit under).len ∙ sym parts;
      parts = omega (arith, parts, (plan_fit old u fit under).parts);
    };
  }

  module _ (host host_after : HostState) (tells : IsTrue host.tells) (only : Only old.ids.job host host_after) (log_stands : LogStands host_after log)
      (kept : take old.layers.log.len (bytes_of host_after old.layers.log.file) ≡ bytes_of host old.layers.log.file) (j : Job) (p : Plan) (stands : JobStands host old j) (plan : j.plan ≡ Some p) where
    others : AllByRecursion (λ (x : Change). x.listed.job ≢ old.ids.job) (selected old.layers)
    others = earlier_apart old.ids.job (selected old.layers) fit.basis

    own_lies : AllByRecursion (λ (r : Run). LiesIn host_after log.file r) (own_runs old.layers)
    own_lies =
        subst (λ n. AllByRecursion (λ (r : Run). LiesIn host_after n r) (own_runs old.layers)) (sym file)
        (all_weaker (λ (r : Run). LiesIn host old.layers.log.file r) (λ (r : Run). LiesIn host_after old.layers.log.file r) (own_runs old.layers)
        (λ r lies. record { each = lies_on (bytes_of host old.layers.log.file) (bytes_of host_after old.layers.log.file) old.layers.log.len r.tables kept lies.each; inside = lies.inside }) (own_lie host old.layers stands.stand))

    -- the job with the part merged
    pub state_stands : (part : ℕ) → IsAdded u.compaction c part → CompactionStands (bytes_of host_after) old.layers.log.file c (covered_changes p j)
        → log.len + 1100 * count_of (all_fences (tables_of u.compaction.merged)) ≤ old.layers.log.len + 1100 * count_of (all_fences (tables_of c.merged)) → count_of (all_fences (tables_of c.merged)) ≤ count_all c.sources
        → JobStands host_after new (record j { plan = Some (record p { merged = with_part p.merged part }) })
    state_stands part added after growth few = record {
      ids = stands.ids;
      settings = stands.settings;
      plans = stands.plans;
      stand = stand_from host_after new.layers log_stands (basis_still_lies old.ids.job host host_after (agree_but old.ids.job host host_after tells only) (selected old.layers) others (basis_lies host old.layers stands.stand)) own_lies;
      layers = record {
        closed = subst (λ n. AreStored (bytes_of host_after n) (own_runs old.layers) j.layers.closed) (sym file)
            (stored_all (bytes_of host old.layers.log.file) (bytes_of host_after old.layers.log.file) old.layers.log.len (own_runs old.layers) j.layers.closed kept stands.layers.closed);
        open_ = stands.layers.open_;
      };
      basis = basis_apart old.ids.job host host_after (agree_but old.ids.job host host_after tells only) (selected old.layers) j.basis others stands.basis;
      plan = record {
        scope = (plan_stand old u fit under host j p stands plan).scope;
        covered = (plan_stand old u fit under host j p stands plan).covered;
        merged = marked_is p u.compaction c part (plan_stand old u fit under host j p stands plan).merged (plan_fit old u fit under).len added;
        parts = subst (λ n. PartsAreStored (bytes_of host_after n) c (covered_changes p j)) (sym file) after.each;
        cut = after.cut;
      };
      fair = record { seen = stands.fair.seen; own = stands.fair.own; basis = stands.fair.basis; few = stands.fair.few };
      account = record {
        few = stands.account.few;
        merged = omega (arith, few, (sources_few old u fit under host j p stands plan), ap (λ (s : CompactionState). count_all s.sources) added.same);
        over = stands.account.over;
        plans = omega (arith, stands.account.plans, ap under_way plan);
        log = omega (arith, stands.account.log, growth, ap merged_count under);
      };
    }

-- a part that is refused leaves the job
pub state_same : (host host_after : HostState) (old : LiveJob) (u : UnderWay) (c : CompactionState) (log : LogState) (j : Job) → old.plan ≡ Some u → host_after ≡ host → c ≡ u.compaction → log ≡ old.layers.log → JobStands host old j → JobStands host_after (with_state old log u c) j
state_same host host_after old u c log j under same still kept stands =
    subst (λ h. JobStands h (with_state old log u c) j) (sym same)
    (subst (λ s. JobStands host (with_state old log u s) j) (sym still)
    (subst (λ l. JobStands host (with_state old l u u.compaction) j) (sym kept)
    (record {
      ids = stands.ids;
      settings = stands.settings;
      plans = stands.plans;
      stand = record { log = stands.stand.log; runs = stands.stand.runs };
      layers = record { closed = stands.layers.closed; open_ = stands.layers.open_ };
      basis = stands.basis;
      plan = subst (λ o. PlansStand host old.layers.log.file j o j.plan) under stands.plan;
      fair = stands.fair;
      account = record { few = stands.account.few; merged = subst (λ o. merged_count o ≤ (j.selected + j.ids.made) * under_way j.plan) under stands.account.merged; over = stands.account.over; plans = stands.account.plans; log = omega (arith, stands.account.log, ap merged_count under) };
    })))

-- ---- what a part of the plan under way answers, and what it leaves

-- the plain job has the plan
plan_of : (host : HostState) (file : ℕ) (j : Job) (u : UnderWay) (q : Option Plan) → PlansStand host file j (Some u) q → (p : Plan) × (q ≡ Some p)
plan_of host file j u None stand = absurd stand
plan_of host file j u (Some p) stand = (p, refl)

module _ (old : LiveJob) (u : UnderWay) (fit : JobIsFit old) (under : old.plan ≡ Some u) where
  pub part_full : {refused : ℕ} → (0 < refused) ⊎ (536870912 < 4096 * length (tables_of u.compaction.merged) + count_all u.compaction.sources) → (0 < refused) ⊎ IsTrue (merges_too_many old)
  part_full (inl some) = inl some
  part_full (inr many) = inr (lt-ltb 536870912 (4096 * plan_tables old.plan + plan_count old.plan) (omega (arith, many, ap plan_tables under, ap plan_count under)))

  module _ (host : HostState) (j : Job) (stands : JobStands host old j) where
    pub held : (p : Plan) × (j.plan ≡ Some p)
    held = plan_of host old.layers.log.file j u j.plan (subst (λ o. PlansStand host old.layers.log.file j o j.plan) under stands.plan)

    pub part_shorts : (limit len : ℕ) {refused : ℕ} → limit ≡ old.layers.log.limit
        → ((ds : List Delta) → CompactionStands (bytes_of host) old.layers.log.file u.compaction ds → len + 1100 * count_of (all_fences (tables_of u.compaction.merged)) ≤ old.layers.log.len + 1100 * count_all u.compaction.sources)
        → ((ds : List Delta) → CompactionStands (bytes_of host) old.layers.log.file u.compaction ds → (0 < refused) ⊎ IsOverfull u.compaction) → (0 < refused → limit < len) → j.settings.log_bytes < need j
    part_shorts limit len same growth overfull past =
        let p = held.0 in
        let plan = held.1 in
        let stand = compaction_stands old u fit under host j p stands plan in
        elim (overfull (covered_changes p j) stand) [
          | inl some ↦ part_short old u fit under host j p stands plan len (omega (arith, past some, same)) (growth (covered_changes p j) stand)
          | inr many ↦ overfull_short old u fit under host j p stands plan many
        ]

    -- with the part its run would pass the most tables, where the call met a fault, so that the part is one to be merged
    pub part_passes : (part : ℕ) (result : Result Parted Fault) (fault : Fault) {refused : ℕ} → result ≡ Err fault → (result ≡ Ok parted.Range) ↔ (u.compaction.parts ≤ part) → (result ≡ Ok parted.Done) ↔ IsMerged u.compaction part
        → ((ds : List Delta) → CompactionStands (bytes_of host) old.layers.log.file u.compaction ds → (0 < refused) ⊎ IsPastWith u.compaction ds part) → (0 < refused) ⊎ PassesWith old.plan j.plan j part
    part_passes part result fault was range done past = elim (past (covered_changes held.0 j) (compaction_stands old u fit under host j held.0 stands held.1)) [
      | inl some ↦ inl some
      | inr many ↦ inr (subst (λ o. PassesWith o j.plan j part) (sym under) (subst (λ q. PassesWith (Some u) q j part) (sym held.1) (record { inside = inside (nat_lt part u.compaction.parts) refl; left = λ is. absurd (cc (done.1 is, was)); past = many })))
    ]
      where
        inside : (b : Bool) → nat_lt part u.compaction.parts ≡ b → part < u.compaction.parts
        inside true t = ltb-true part u.compaction.parts t
        inside false t = absurd (cc (range.1 (ltb-false part u.compaction.parts t), was))

    pub part_never : (part : ℕ) (a : Parted) (result : Result Parted Fault) → result ≡ Ok a → (result ≡ Ok parted.Range) ↔ (u.compaction.parts ≤ part) → (result ≡ Ok parted.Done) ↔ IsMerged u.compaction part
        → ((ds : List Delta) → CompactionStands (bytes_of host) old.layers.log.file u.compaction ds → IsPastWith u.compaction ds part → IsRefusal a) → PassesWith old.plan j.plan j part → ⊥
    part_never part a result was range done refused many =
        let too_many : IsOneTooMany u.compaction (covered_changes held.0 j) part = subst (λ q. PassesWith (Some u) q j part) held.1 (subst (λ o. PassesWith o j.plan j part) under many) in
        by a was (refused (covered_changes held.0 j) (compaction_stands old u fit under host j held.0 stands held.1) too_many.past) too_many
      where
        by : (a : Parted) → result ≡ Ok a → IsRefusal a → IsOneTooMany u.compaction (covered_changes held.0 j) part → ⊥
        by parted.Merged was is too_many = is
        by parted.Last was is too_many = is
        by parted.Range was is too_many = absurd (omega (arith, range.0 was, too_many.inside))
        by parted.Done was is too_many = too_many.left (done.0 was)

    module _ (c_after : CompactionState) (part : ℕ) {E : Type 0} (result : Result Parted E) (parts_of : (result ≡ Ok parted.Range) ↔ (u.compaction.parts ≤ part)) (merged_of : (result ≡ Ok parted.Done) ↔ IsMerged u.compaction part)
        (last : result ≡ Ok parted.Last → AreMerged c_after) (some : result ≡ Ok parted.Merged → AreMerged c_after → ⊥) where
      marked_so : held.0.merged ≡ map is_some u.compaction.merged
      marked_so = (plan_stand old u fit under host j held.0 stands held.1).merged

      pub part_answers : (a : Parted) → result ≡ Ok a → (IsWritten a → IsAdded u.compaction c_after part) → answer_by a ≡ part_answer_of j.plan part
      part_answers a was added = by a was added ∙ ap (λ q. part_answer_of q part) (sym held.1)
        where
          by : (a : Parted) → result ≡ Ok a → (IsWritten a → IsAdded u.compaction c_after part) → answer_by a ≡ part_answer_of (Some held.0) part
          by parted.Range was added = sym (of_range held.0 u.compaction c_after part marked_so (plan_fit old u fit under).len (parts_of.0 was))
          by parted.Done was added = sym (of_done held.0 u.compaction c_after part marked_so (plan_fit old u fit under).len (λ le. absurd (cc (parts_of.1 le, was))) (merged_of.0 was))
          by parted.Last was added =
              sym (of_last held.0 u.compaction c_after part marked_so (plan_fit old u fit under).len (added tt) (λ le. absurd (cc (parts_of.1 le, was))) (λ is. absurd (cc (merged_of.1 is, was))) (last was))
          by parted.Merged was added =
              sym (of_merged held.0 u.compaction c_after part marked_so (plan_fit old u fit under).len (added tt) (λ le. absurd (cc (parts_of.1 le, was))) (λ is. absurd (cc (merged_of.1 is, was))) (some was))

    -- the job with what the part left of its plan and its log
    pub part_stands : (c : CompactionState) (log : LogState) (host_after : HostState) (part : ℕ) (a : Parted) → IsTrue host.tells → Only old.ids.job host host_after → log.file ≡ old.layers.log.file → LogStands host_after log
        → take old.layers.log.len (bytes_of host_after old.layers.log.file) ≡ bytes_of host old.layers.log.file → (IsRefusal a → (c ≡ u.compaction) × (host_after ≡ host) × (log ≡ old.layers.log)) → (IsWritten a → IsAdded u.compaction c part)
        → ((ds : List Delta) → CompactionStands (bytes_of host) old.layers.log.file u.compaction ds → CompactionStands (bytes_of host_after) old.layers.log.file c ds)
        → log.len + 1100 * count_of (all_fences (tables_of u.compaction.merged)) ≤ old.layers.log.len + 1100 * count_of (all_fences (tables_of c.merged))
        → (IsWritten a → (files : Files) (file : ℕ) (ds : List Delta) → CompactionStands files file c ds → count_of (all_fences (tables_of c.merged)) ≤ count_all c.sources)
        → JobStands host_after (with_state old log u c) (merged_as (answer_by a) j part)
    part_stands c log host_after part a tells only file log_stands kept refused added after growth few = by a refused added few
      where
        written : IsAdded u.compaction c part → ((files : Files) (file : ℕ) (ds : List Delta) → CompactionStands files file c ds → count_of (all_fences (tables_of c.merged)) ≤ count_all c.sources)
            → JobStands host_after (with_state old log u c) (record j { plan = marked j.plan part })
        written added few =
            let stand = after (covered_changes held.0 j) (compaction_stands old u fit under host j held.0 stands held.1) in
            subst (λ q. JobStands host_after (with_state old log u c) (record j { plan = marked q part })) (sym held.1)
            (state_stands old u c log fit under file host host_after tells only log_stands kept j held.0 stands held.1 part added stand growth (few (bytes_of host_after) old.layers.log.file (covered_changes held.0 j) stand))

        same : (c ≡ u.compaction) × (host_after ≡ host) × (log ≡ old.layers.log) → JobStands host_after (with_state old log u c) j
        same is = state_same host host_after old u c log j under is.1 is.0 is.2 stands

        by : (a : Parted) → (IsRefusal a → (c ≡ u.compaction) × (host_after ≡ host) × (log ≡ old.layers.log)) → (IsWritten a → IsAdded u.compaction c part)
            → (IsWritten a → (files : Files) (file : ℕ) (ds : List Delta) → CompactionStands files file c ds → count_of (all_fences (tables_of c.merged)) ≤ count_all c.sources) → JobStands host_after (with_state old log u c) (merged_as (answer_by a) j part)
        by parted.Merged refused added few = written (added tt) (few tt)
        by parted.Last refused added few = written (added tt) (few tt)
        by parted.Range refused added few = same (refused tt)
        by parted.Done refused added few = same (refused tt)

-- a part that is not the last one leaves the plan under way
pub not_last : (a : JobPart) (j : Job) (part : ℕ) → (a ≡ Last → ⊥) → merged_as a j part ≡ parted_as a j part
not_last Merged j part not = refl
not_last Last j part not = absurd (not refl)
not_last NoPlan j part not = refl
not_last Range j part not = refl
not_last Done j part not = refl

-- what the last part joins is what the plan covered
pub joined_marked : (j : Job) (part : ℕ) (q : Option Plan) → j.plan ≡ q → joined_as (marked q part) (record j { plan = marked q part }) ≡ joined_as q j
joined_marked j part None e = λ i. record j { plan = sym e i }
joined_marked j part (Some p) e = refl

-- ---- the answer to a part, on every host

-- what the job answers where the compaction answers this
abbrev pub answered : Result Parted Fault → Result JobPart Fault
answered (Ok a) = Ok (answer_by a)
answered (Err fault) = Err fault

module _ (result : Result Parted Fault) (mine : Result JobPart Fault) (is : mine ≡ answered result) where
  range_answered : (mine ≡ Ok Range) ↔ (result ≡ Ok parted.Range)
  range_answered = by result is
    where
      by : (r : Result Parted Fault) → mine ≡ answered r → (mine ≡ Ok Range) ↔ (r ≡ Ok parted.Range)
      by (Ok parted.Merged) e = ((λ so. absurd (cc (e, so))), (λ so. absurd (cc so)))
      by (Ok parted.Last) e = ((λ so. absurd (cc (e, so))), (λ so. absurd (cc so)))
      by (Ok parted.Range) e = ((λ so. refl), (λ so. e))
      by (Ok parted.Done) e = ((λ so. absurd (cc (e, so))), (λ so. absurd (cc so)))
      by (Err fault) e = ((λ so. absurd (cc (e, so))), (λ so. absurd (cc so)))

  done_answered : (mine ≡ Ok Done) ↔ (result ≡ Ok parted.Done)
  done_answered = by result is
    where
      by : (r : Result Parted Fault) → mine ≡ answered r → (mine ≡ Ok Done) ↔ (r ≡ Ok parted.Done)
      by (Ok parted.Merged) e = ((λ so. absurd (cc (e, so))), (λ so. absurd (cc so)))
      by (Ok parted.Last) e = ((λ so. absurd (cc (e, so))), (λ so. absurd (cc so)))
      by (Ok parted.Range) e = ((λ so. absurd (cc (e, so))), (λ so. absurd (cc so)))
      by (Ok parted.Done) e = ((λ so. refl), (λ so. e))
      by (Err fault) e = ((λ so. absurd (cc (e, so))), (λ so. absurd (cc so)))

  -- of the plan under way
  module _ (plan : Option UnderWay) (u : UnderWay) (under : plan ≡ Some u) (part : ℕ) where
    pub range_of_plan : (result ≡ Ok parted.Range) ↔ (u.compaction.parts ≤ part) → (mine ≡ Ok Range) ↔ IsSomeAnd plan (λ x. x.compaction.parts ≤ part)
    range_of_plan range = subst (λ (o : Option UnderWay). (mine ≡ Ok Range) ↔ IsSomeAnd o (λ x. x.compaction.parts ≤ part)) (sym under) ((λ so. range.0 (range_answered.0 so)), (λ le. range_answered.1 (range.1 le)))

    pub done_of_plan : (result ≡ Ok parted.Done) ↔ IsMerged u.compaction part → (mine ≡ Ok Done) ↔ IsSomeAnd plan (λ x. IsMerged x.compaction part)
    done_of_plan done = subst (λ (o : Option UnderWay). (mine ≡ Ok Done) ↔ IsSomeAnd o (λ x. IsMerged x.compaction part)) (sym under) ((λ so. done.0 (done_answered.0 so)), (λ was. done_answered.1 (done.1 was)))

  pub some_plan : mine ≡ Ok NoPlan → ⊥
  some_plan = by result is
    where
      by : (r : Result Parted Fault) → mine ≡ answered r → mine ≡ Ok NoPlan → ⊥
      by (Ok parted.Merged) e so = absurd (cc (e, so))
      by (Ok parted.Last) e so = absurd (cc (e, so))
      by (Ok parted.Range) e so = absurd (cc (e, so))
      by (Ok parted.Done) e so = absurd (cc (e, so))
      by (Err fault) e so = absurd (cc (e, so))

-- a part that is refused changes nothing
pub refused_stays : (old : LiveJob) (u : UnderWay) (c : CompactionState) (log : LogState) (a : Parted) {host host_after : HostState} → old.plan ≡ Some u → IsFalse old.spent → (IsRefusal a → (c ≡ u.compaction) × (host_after ≡ host) × (log ≡ old.layers.log)) → IsRefusedPart (answer_by a)
    → (with_state old log u c ≡ old) × (host_after ≡ host)
refused_stays old u c log a {host} {host_after} under live refused is = by a refused is
  where
    same : (c ≡ u.compaction) × (host_after ≡ host) × (log ≡ old.layers.log) → (with_state old log u c ≡ old) × (host_after ≡ host)
    same so = (
      ap (λ (s : CompactionState). with_state old log u s) so.0 ∙ ap (λ (l : LogState). with_state old l u u.compaction) so.2 ∙ ap (λ (o : Option UnderWay). record old { plan = o; spent = false }) (sym under) ∙ ap (λ (b : Bool). record old { spent = b }) (sym live),
      so.1,
    )

    by : (a : Parted) → (IsRefusal a → (c ≡ u.compaction) × (host_after ≡ host) × (log ≡ old.layers.log)) → IsRefusedPart (answer_by a) → (with_state old log u c ≡ old) × (host_after ≡ host)
    by parted.Merged refused is = absurd is
    by parted.Last refused is = absurd is
    by parted.Range refused is = same (refused tt)
    by parted.Done refused is = same (refused tt)
