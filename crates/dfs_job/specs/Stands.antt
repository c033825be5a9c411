-- What a job in memory and the files of a host stand for, and what is so of every job.
use Rattle.std.specs.Prelude.{◌≡◌, ◌≢◌, ◌≤◌, ◌<◌, ◌+◌, ◌-◌, ◌*◌, ◌++◌, ℕ, Bool, nat_lt, List, [], length, drop, map, slice_get, take, is_some, Option, Some, None, IsSomeAnd, IsFalse}
use Rattle.std.specs.List.{AllByRecursion, AllZip, sum_by}
use Rattle.std.specs.List.Sorted.{IsPermutation}
use Rattle.dfs_host.specs.Host.{HostState, Told, bytes_of}
use Rattle.dfs_record.specs.declared.Key.{Key}
use Rattle.dfs_record.specs.Delta.{Delta, delta, records_of}
use Rattle.dfs_path.specs.declared.Scope.{Scope}
use Rattle.dfs_path.specs.declared.Scope.TheVariants.{Own, All}
use Rattle.dfs_table.specs.Counts.{count_of}
use Rattle.dfs_table.specs.Cut.{IsCut, block_firsts, tables_needed}
use Rattle.dfs_table.specs.Stored.{IsStored}
use Rattle.dfs_table.specs.Tables.{all_fences}
use Rattle.dfs_table.specs.Writer.{AreIn, table_len}
use Rattle.dfs_table.specs.declared.run.Run.{Run}
use Rattle.dfs_plan.specs.Parts.{AreSorted}
use Rattle.dfs_compact.specs.Compaction.{AreMerged, CompactionState, IsMerged, IsPastWith, part_of}
use Rattle.dfs_compact.specs.Parts.{count_all, first_keys, tables_below, tables_of}
use Rattle.dfs_change.specs.declared.change.Change.{Change}
use Rattle.dfs_change.specs.Identities.{AreFit as AreOfJob}
use Rattle.dfs_ops.specs.Op.{AreIds}
use Rattle.dfs_ops.specs.Within.{IsRecordWithin, IsWithin}
use Rattle.dfs_view.specs.declared.layers.Layers.{Layers}
use Rattle.dfs_view.specs.Layers.{AreFit, LiesIn, Stand, StandFor, own_runs, run_count, selected}
use Rattle.dfs_view.specs.Lists.{joined}
use Rattle.dfs_view.specs.View.{IsOwnRun}
use Rattle.dfs_job.specs.declared.settings.Settings.{Settings}
use Rattle.dfs_job.specs.declared.job.Job.{Job as LiveJob}
use Rattle.dfs_job.specs.declared.planning.UnderWay.{UnderWay}
use Rattle.dfs_job.specs.Job.{Job, Plan, covered_changes, namespace_of}

-- the settings that a job may have
pub record AreSettings (settings : Settings) : Type 0 where
  pub buffer : 1 ≤ settings.buffer
  pub buffer_most : settings.buffer ≤ 65536
  pub cache : 1 ≤ settings.cache
  pub cache_most : settings.cache ≤ 65536
  pub parts : 1 ≤ settings.parts
  pub parts_most : settings.parts ≤ 256
  pub log_bytes : 4096 ≤ settings.log_bytes
  pub log_bytes_most : settings.log_bytes ≤ 1099511627776

-- it was published by an earlier job
abbrev pub IsEarlier : ℕ → Change → Type 0
IsEarlier number c = c.listed.job < number

-- A change set that a job may select: it is stored in the log of its job, whose identities it has.
pub record IsSelectable (host : HostState) (c : Change) : Type 0 where
  pub changes : Delta
  pub stored : IsStored (bytes_of host c.listed.job) c.run.value changes
  pub lies : LiesIn host c.listed.job c.run.value
  pub own : AreOfJob c.listed.job changes

-- it is stored for this change set
abbrev pub IsStoredFor : HostState → Change → Delta → Type 0
IsStoredFor host c d = IsStored (bytes_of host c.listed.job) c.run.value d

-- the change set has identities of earlier jobs alone
abbrev pub IsOfEarlier : ℕ → Delta → Type 0
IsOfEarlier number d = AreOfJob (number - 1) d

-- What it sees and its records have identities of earlier jobs and those that it has made, its basis those of earlier jobs alone. No more
-- layers are there than records were made, but for one that a plan made of the basis.
pub record IsFair (j : Job) : Type 0 where
  pub seen : IsWithin j.ids (namespace_of j)
  pub own : AllByRecursion (IsRecordWithin j.ids) (joined j.layers)
  pub basis : AllByRecursion (IsOfEarlier j.ids.job) j.basis
  pub few : length j.layers.closed + length j.layers.open_ + length (take 1 j.basis) ≤ j.ids.made + 1

-- ---- plans

-- the runs of the basis that a plan covers
abbrev pub basis_runs : Scope → List Change → List Run
basis_runs Own cs = []
basis_runs All cs = map (λ c. c.run.value) cs

-- the selected change sets that it does not cover
abbrev pub left_changes : Scope → List Change → List Change
left_changes Own cs = cs
left_changes All cs = []

-- the runs that it merges, the oldest first
abbrev pub sources_of : Scope → ℕ → Layers → List Run
sources_of scope covered layers = basis_runs scope (selected layers) ++ take covered (own_runs layers)

-- On every host: a plan under way merges what it covers, into the job's own file.
pub record PlanIsFit (job : LiveJob) (u : UnderWay) : Type 0 where
  pub live : IsFalse u.compaction.spent
  pub sources : u.compaction.sources ≡ sources_of u.scope u.covered job.layers
  pub inside : AreIn job.ids.job (tables_of u.compaction.merged)
  pub covered : u.covered ≤ length (own_runs job.layers)
  pub len : length u.compaction.merged ≡ u.compaction.parts
  pub parts : u.compaction.parts ≤ 256

abbrev pub PlansAreFit : LiveJob → Option UnderWay → Type 0
PlansAreFit job None = Unit {0}
PlansAreFit job (Some u) = PlanIsFit job u

-- each part that was merged is stored for the merged list of its range of these change sets
abbrev pub PartsAreStored : List ℕ → CompactionState → List Delta → Type 0
PartsAreStored file c ds = (i : ℕ) (run : Run) → slice_get c.merged i ≡ Some (Some run) → IsStored file run (delta (part_of c ds i))

-- and it has the tables that this list needs
abbrev pub PartsAreCut : CompactionState → List Delta → Type 0
PartsAreCut c ds = (i : ℕ) (run : Run) → slice_get c.merged i ≡ Some (Some run) → IsCut (part_of c ds i) run.tables

-- It stands for the plan of the plain job: the parts that were merged are stored in the job's file for what the plan covers. (Its
-- sources are stored there and in the logs of the selected change sets, as runs of the job.)
pub record PlanStands (host : HostState) (file : ℕ) (j : Job) (u : UnderWay) (p : Plan) : Type 0 where
  pub scope : p.scope ≡ u.scope
  pub covered : p.covered ≡ u.covered
  pub merged : p.merged ≡ map is_some u.compaction.merged
  pub parts : PartsAreStored (bytes_of host file) u.compaction (covered_changes p j)
  pub cut : PartsAreCut u.compaction (covered_changes p j)

abbrev pub PlansStand : HostState → ℕ → Job → Option UnderWay → Option Plan → Type 0
PlansStand host file j None None = Unit {0}
PlansStand host file j None (Some p) = ⊥
PlansStand host file j (Some u) None = ⊥
PlansStand host file j (Some u) (Some p) = PlanStands host file j u p

-- ---- the account

-- how many records the runs of the basis have
abbrev pub basis_count : LiveJob → ℕ
basis_count job = sum_by (λ c. run_count c.run.value) (selected job.layers)

-- how many records the closed layers have
abbrev pub own_count : LiveJob → ℕ
own_count job = sum_by run_count (own_runs job.layers)

-- how many records the merged parts of the plan under way have
abbrev pub merged_count : Option UnderWay → ℕ
merged_count None = 0
merged_count (Some u) = count_of (all_fences (tables_of u.compaction.merged))

-- how many tables they have
abbrev pub plan_tables : Option UnderWay → ℕ
plan_tables None = 0
plan_tables (Some u) = length (tables_of u.compaction.merged)

-- how many bytes of the log they have
abbrev pub plan_len : Option UnderWay → ℕ
plan_len None = 0
plan_len (Some u) = sum_by table_len (tables_of u.compaction.merged)

-- the closed layers behind those that the plan covers
abbrev pub behind_plan : Option UnderWay → List Run → List Run
behind_plan None runs = runs
behind_plan (Some u) runs = drop u.covered runs

-- how many records the sources of the plan under way have
abbrev pub plan_count : Option UnderWay → ℕ
plan_count None = 0
plan_count (Some u) = count_all u.compaction.sources

-- The part is one that is to be merged, and with it the run of all parts would pass 131,072 tables.
pub record IsOneTooMany (c : CompactionState) (ds : List Delta) (part : ℕ) : Type 0 where
  pub inside : part < c.parts
  pub left : ¬ (IsMerged c part)
  pub past : IsPastWith c ds part

-- the same of a part of the plan under way
abbrev pub PassesWith : Option UnderWay → Option Plan → Job → ℕ → Type 0
PassesWith None q j part = ⊥
PassesWith (Some u) None j part = ⊥
PassesWith (Some u) (Some p) j part = IsOneTooMany u.compaction (covered_changes p j) part

-- the first keys of the blocks of its layers, once the open one is closed
abbrev pub flushed_firsts : LiveJob → Job → List Key
flushed_firsts live j = first_keys (own_runs live.layers) ++ block_firsts (records_of (delta j.layers.open_))

-- how many tables the runs have
abbrev pub table_count : List Run → ℕ
table_count runs = sum_by (λ r. length r.tables) runs

-- how many tables its layers have, once the open one is closed
abbrev pub flushed_tables : LiveJob → Job → ℕ
flushed_tables live j = table_count (own_runs live.layers) + tables_needed (records_of (delta j.layers.open_))

-- Merged in so many parts, the change sets have so many tables. What cuts them is the first keys of the blocks of the runs that they
-- are stored in.
pub record MergeTo (firsts : List Key) (parts : ℕ) (ds : List Delta) (tables : ℕ) : Type 0 where
  pub keys : List Key
  pub sorted : AreSorted keys
  pub same : IsPermutation firsts keys
  pub all : tables ≡ tables_below keys parts ds parts

-- The run of these change sets, which are merged in so many parts, would pass 131,072 tables. One run alone stands as it is.
pub record Passes (firsts : List Key) (parts : ℕ) (ds : List Delta) : Type 0 where
  pub merged : length ds ≢ 1
  pub tables : ℕ
  pub needed : MergeTo firsts parts ds tables
  pub many : 131072 < tables

-- A manifest of so many bytes tells of the run of these change sets: of one run's own tables, else of those that it is merged to in so
-- many parts.
pub record TellsOf (firsts : List Key) (own parts : ℕ) (ds : List Delta) (bytes : ℕ) : Type 0 where
  pub tables : ℕ
  pub len : bytes ≡ 4 + 12 * tables
  pub alone : length ds ≡ 1 → tables ≡ own
  pub merged : length ds ≢ 1 → MergeTo firsts parts ds tables

-- So many records, merged in so many parts, may need more than the 131,072 tables of a run, which have 536,870,912 blocks: a part has
-- at most all records and each block one at least, and of the tables of a part one at most is not full.
abbrev pub may_pass : ℕ → ℕ → Bool
may_pass records parts = nat_lt 536870912 ((parts + 1) * (records + 4095))

-- the run that the job publishes may need too many tables
abbrev pub publishes_too_many : LiveJob → Bool
publishes_too_many job = may_pass (own_count job + job.layers.buffer.made) job.settings.parts

-- the run of its plan may need too many, with those of the merged parts, which are written
abbrev pub merges_too_many : LiveJob → Bool
merges_too_many job = nat_lt 536870912 (4096 * plan_tables job.plan + plan_count job.plan)

-- all parts of the plan were merged
abbrev pub IsWholePlan : Option UnderWay → Type 0
IsWholePlan o = IsSomeAnd o (λ u. AreMerged u.compaction)

-- how many plans are under way
abbrev pub under_way : Option Plan → ℕ
under_way None = 0
under_way (Some p) = 1

-- Its change sets and layers have no more records than it selected and made. Its log has a header and at most 1,100 bytes for each
-- record that is not in the open layer, for all records once for each plan that is over, and for each record of the merged parts.
pub record IsInAccount (job : LiveJob) (j : Job) : Type 0 where
  pub few : basis_count job + own_count job + job.layers.buffer.made ≤ j.selected + j.ids.made
  pub merged : merged_count job.plan ≤ (j.selected + j.ids.made) * under_way j.plan
  pub over : ℕ
  pub plans : over + under_way j.plan ≡ j.plans
  pub log : job.layers.log.len + 1100 * job.layers.buffer.made ≤ 12 + 1100 * (j.ids.made + (j.selected + j.ids.made) * over + merged_count job.plan)

-- ---- what a job stands for

-- A job on a host that tells: its log stands there, each run is stored for its closed layer and the buffer stands for the open one,
-- the changes of its basis are stored for those of the plain job, and so does its plan.
pub record JobStands (host : HostState) (live : LiveJob) (j : Job) : Type 0 where
  pub ids : j.ids ≡ live.ids
  pub settings : j.settings ≡ live.settings
  pub plans : j.plans ≡ live.plans
  pub stand : Stand host live.layers
  pub layers : StandFor host live.layers j.layers
  pub basis : AllZip (IsStoredFor host) (selected live.layers) j.basis
  pub plan : PlansStand host live.layers.log.file j live.plan j.plan
  pub fair : IsFair j
  pub account : IsInAccount live j

-- On every host: its log is its own file, its runs are its own, and its plan merges what it covers.
pub record JobIsFit (job : LiveJob) : Type 0 where
  pub live : IsFalse job.spent
  pub ids : AreIds job.ids
  pub settings : AreSettings job.settings
  pub layers : AreFit job.layers
  pub file : job.layers.log.file ≡ job.ids.job
  pub buffer : job.layers.limit ≡ job.settings.buffer
  pub log_bytes : job.layers.log.limit ≡ job.settings.log_bytes
  pub own : AllByRecursion (IsOwnRun job.ids.job) (own_runs job.layers)
  pub basis : AllByRecursion (IsEarlier job.ids.job) (selected job.layers)
  pub plans : job.plans ≤ 65535
  pub plan : PlansAreFit job job.plan

-- the plain job that it stands for
pub record StandsForOne (host : HostState) (job : LiveJob) : Type 0 where
  pub plain : Job
  pub stands : JobStands host job plain

-- What is so of every job: it is fit, and where the host tells it stands for a plain one.
pub record JobIsSound (host : HostState) (job : LiveJob) : Type 0 where
  pub fit : JobIsFit job
  pub stands : Told host (StandsForOne host job)
