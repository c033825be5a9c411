-- What a part of a compaction is for the job, and the run of all parts.
use Rattle.std.specs.Prelude.{nat_lt, cond, List, [], ◌∷◌, length}
use Rattle.dfs_table.specs.declared.run.Run.{Run}
use Rattle.dfs_compact.specs.declared.compaction.Parted.{Parted}
use Rattle.dfs_compact.specs.declared.compaction.Parted.TheVariants as parted
use Rattle.dfs_job.specs.declared.answers.Planned.{Planned}
use Rattle.dfs_job.specs.declared.answers.Planned.TheVariants.{Made, Busy, Full}
use Rattle.dfs_job.specs.declared.answers.JobPart.{JobPart}
use Rattle.dfs_job.specs.declared.answers.JobPart.TheVariants.{Merged, Last, NoPlan, Range, Done}

abbrev pub answer_by : Parted → JobPart
answer_by parted.Merged = Merged
answer_by parted.Last = Last
answer_by parted.Range = Range
answer_by parted.Done = Done

-- nothing was merged: there is no plan, it has no such part, or that was merged before
abbrev pub IsRefusedPart : JobPart → Type 0
IsRefusedPart Merged = ⊥
IsRefusedPart Last = ⊥
IsRefusedPart NoPlan = Unit {0}
IsRefusedPart Range = Unit {0}
IsRefusedPart Done = Unit {0}

-- there is a plan already, or the job made as many as it may
abbrev pub IsRefusedPlan : Planned → Type 0
IsRefusedPlan Made = ⊥
IsRefusedPlan Busy = Unit {0}
IsRefusedPlan Full = Unit {0}

-- the run, where it has a record
abbrev pub placed_run : Run → List Run
placed_run run = cond (nat_lt 0 (length run.tables)) (run ∷ []) []
