-- A job: the change sets that it selected, its own records in layers, and its plan.
use Rattle.std.specs.Prelude.{ℕ, ◌+◌, ◌*◌, Bool, true, false, nat_le, if◌then◌else◌, List, [], ◌∷◌, ◌++◌, length, map, flat_map, take, drop, replicate, get_or, slice_set, unwrap_or, Option, Some, None}
use Rattle.std.specs.List.{list_all, sum_by}
use Rattle.dfs_record.specs.declared.Record.{Record}
use Rattle.dfs_record.specs.Delta.{Delta, delta, records_of}
use Rattle.dfs_record.specs.KeyMap.{len}
use Rattle.dfs_record.specs.Namespace.{Namespace, replay}
use Rattle.dfs_path.specs.declared.Op.{Op}
use Rattle.dfs_path.specs.declared.Scope.{Scope}
use Rattle.dfs_path.specs.declared.Scope.TheVariants.{Own, All}
use Rattle.dfs_ops.specs.declared.Ids.{Ids}
use Rattle.dfs_ops.specs.Op.{Outcome, outcome, ids_after}
use Rattle.dfs_view.specs.Lists.{Layered, add_all, flushed, joined}
use Rattle.dfs_job.specs.declared.settings.Settings.{Settings}
use Rattle.dfs_job.specs.declared.answers.Planned.{Planned}
use Rattle.dfs_job.specs.declared.answers.Planned.TheVariants.{Made, Busy, Full}
use Rattle.dfs_job.specs.declared.answers.JobPart.{JobPart}
use Rattle.dfs_job.specs.declared.answers.JobPart.TheVariants.{Merged, Last, NoPlan, Range, Done}

-- A plan under way: what it covers, of each of its parts whether it was merged, and how many closed layers it covers.
pub record Plan : Type 0 where
  pub scope : Scope
  pub merged : List Bool
  pub covered : ℕ

pub record Job : Type 0 where
  pub ids : Ids
  pub basis : List Delta
  pub layers : Layered
  -- how many plans were made, and the one under way
  pub plans : ℕ
  pub plan : Option Plan
  -- how many records the basis had at the begin
  pub selected : ℕ
  pub settings : Settings

-- the numbers of a job that has made nothing
abbrev pub first_ids : ℕ → Ids
first_ids number = record { job = number; counter = 0; made = 0 }

-- a new job over the change sets that it selects
abbrev pub begun : ℕ → List Delta → Settings → Job
begun number basis settings = record {
  ids = first_ids number;
  basis = basis;
  layers = record { closed = []; open_ = [] };
  plans = 0;
  plan = None;
  selected = sum_by len basis;
  settings = settings;
}

-- what the job sees
abbrev pub namespace_of : Job → Namespace
namespace_of j = replay j.basis (joined j.layers)

-- an operation of the job
abbrev pub does : Job → Op → Outcome
does j op = outcome (namespace_of j) j.ids op

-- its records go to the end of the open layer, which closes where it then has as many as the setting says
abbrev pub after : Job → Outcome → Job
after j o = record j { ids = ids_after j.ids o; layers = add_all j.settings.buffer j.layers o.records }

-- the open layer closes, where it has a record
abbrev pub after_flush : Job → Job
after_flush j = record j { layers = flushed j.layers }

-- what the job publishes
abbrev pub own_changes : Job → Delta
own_changes j = delta (joined j.layers)

-- the change sets of its closed layers, the oldest first
abbrev pub layer_changes : Job → List Delta
layer_changes j = map delta j.layers.closed

-- the number of closed layers, and that of their keys, each layer's counted by itself
abbrev pub run_count : Job → ℕ
run_count j = length j.layers.closed

abbrev pub key_count : Job → ℕ
key_count j = sum_by (λ rs. len (delta rs)) j.layers.closed

-- ---- plans

-- a plan is refused while one is under way, and after 65,535 of them
abbrev pub plan_answer_beside : Option Plan → ℕ → Planned
plan_answer_beside (Some p) plans = Busy
plan_answer_beside None plans = if nat_le 65535 plans then Full else Made

abbrev pub plan_answer : Job → Planned
plan_answer j = plan_answer_beside j.plan j.plans

-- a new plan over the closed layers, with no part merged
abbrev pub with_plan : Scope → ℕ → Job → Job
with_plan scope parts j = record j { plans = j.plans + 1; plan = Some (record { scope = scope; merged = replicate parts false; covered = length j.layers.closed }) }

-- a plan that is made closes the open layer
abbrev pub planned_as : Planned → Job → Scope → Option ℕ → Job
planned_as Made j scope parts = with_plan scope (unwrap_or parts j.settings.parts) (after_flush j)
planned_as Busy j scope parts = j
planned_as Full j scope parts = j

abbrev pub after_plan : Job → Scope → Option ℕ → Job
after_plan j scope parts = planned_as (plan_answer j) j scope parts

-- what of the basis a plan covers, and what it leaves
abbrev pub basis_covered : Scope → List Delta → List Delta
basis_covered Own basis = []
basis_covered All basis = basis

abbrev pub basis_left : Scope → List Delta → List Delta
basis_left Own basis = basis
basis_left All basis = []

-- the change sets that a plan covers, the oldest first
abbrev pub covered_changes : Plan → Job → List Delta
covered_changes p j = basis_covered p.scope j.basis ++ map delta (take p.covered j.layers.closed)

-- their records as one list
abbrev pub covered_records : Plan → Job → List Record
covered_records p j = flat_map records_of (basis_covered p.scope j.basis) ++ flat_map (λ rs. rs) (take p.covered j.layers.closed)

-- a layer without a record takes no place
abbrev pub placed : List Record → List (List Record)
placed [] = []
placed (r ∷ rs) = (r ∷ rs) ∷ []

-- the last part puts one layer in the place of what the plan covers
abbrev pub join : Plan → Job → Job
join p j = record j {
  basis = basis_left p.scope j.basis;
  layers = record { closed = placed (covered_records p j) ++ drop p.covered j.layers.closed; open_ = j.layers.open_ };
  plan = None;
}

-- the parts of a plan, one more of them merged
abbrev pub with_part : List Bool → ℕ → List Bool
with_part merged part = slice_set merged part true

abbrev pub part_answer_of : Option Plan → ℕ → JobPart
part_answer_of None part = NoPlan
part_answer_of (Some p) part =
    if nat_le (length p.merged) part then Range
    else (if get_or p.merged part false then Done
    else (if list_all (λ b. b) (with_part p.merged part) then Last
    else Merged))

abbrev pub part_answer : Job → ℕ → JobPart
part_answer j part = part_answer_of j.plan part

-- the plan with one more part merged
abbrev pub marked : Option Plan → ℕ → Option Plan
marked None part = None
marked (Some p) part = Some (record p { merged = with_part p.merged part })

-- the job with the part merged, where it was
abbrev pub merged_as : JobPart → Job → ℕ → Job
merged_as Merged j part = record j { plan = marked j.plan part }
merged_as Last j part = record j { plan = marked j.plan part }
merged_as NoPlan j part = j
merged_as Range j part = j
merged_as Done j part = j

-- and, where it was the last one, without the plan
abbrev pub joined_as : Option Plan → Job → Job
joined_as None j = j
joined_as (Some p) j = join p j

abbrev pub parted_as : JobPart → Job → ℕ → Job
parted_as Last j part = joined_as j.plan j
parted_as Merged j part = merged_as Merged j part
parted_as NoPlan j part = j
parted_as Range j part = j
parted_as Done j part = j

abbrev pub after_part : Job → ℕ → Job
after_part j part = parted_as (part_answer j part) j part

-- The bytes that the job's log has room enough with: those of all records that it selected and made, once for each plan and twice more.
abbrev pub need : Job → ℕ
need j = 1024 + 1200 * (j.selected + j.ids.made) * (j.plans + 2)
