-- What is decided before an operation's records are stored.
use Rattle.std.specs.Prelude.{◌≡◌, ◌≢◌, ◌≤◌, ◌+◌, Bool, false, if◌then◌else◌, List, [], ◌∷◌, length, Option, Some, None, Result, OnOk, OnErr, IsErrOf, IfSome}
use mathlib.Core.List.{IsPrefix}
use Rattle.dfs_host.specs.declared.fault.Fault.{Fault}
use Rattle.dfs_host.specs.declared.fault.Fault.TheVariants.{LogFull}
use Rattle.dfs_record.specs.declared.Key.{Key}
use Rattle.dfs_record.specs.declared.Entry.{Entry}
use Rattle.dfs_record.specs.declared.Record.{Record}
use Rattle.dfs_record.specs.Namespace.{Namespace}
use Rattle.dfs_record.specs.Record.{IsKey, IsEntry, IsRecord}
use Rattle.dfs_space.specs.Children.{has_child}
use Rattle.dfs_walk.specs.declared.Walked.{Walked}
use Rattle.dfs_ops.specs.declared.Ids.{Ids}
use Rattle.dfs_ops.specs.declared.OpReply.{OpReply}
use Rattle.dfs_ops.specs.declared.OpReply.TheVariants.{Done, NotEmpty}
use Rattle.dfs_ops.specs.declared.deciding.Plan.{Plan}
use Rattle.dfs_ops.specs.declared.deciding.Plan.TheVariants as plan
use Rattle.dfs_ops.specs.declared.deciding.Hit.{Hit}
use Rattle.dfs_ops.specs.declared.deciding.Hit.TheVariants as hit
use Rattle.dfs_ops.specs.declared.reaching.Spot.{Spot}
use Rattle.dfs_ops.specs.declared.reaching.Reached.{Reached}
use Rattle.dfs_ops.specs.declared.reaching.Reached.TheVariants as reached
use Rattle.dfs_ops.specs.declared.reaching.Looked.{Looked}
use Rattle.dfs_ops.specs.declared.reaching.Looked.TheVariants as looked
use Rattle.dfs_ops.specs.Op.{Outcome, only, ids_after}
use Rattle.dfs_ops.specs.Applied.{IsReply, IsShown, OnOther}

-- a plan as the outcome that it leads to
abbrev pub outcome_of : Plan → Outcome
outcome_of (plan.Answer answer) = only answer
outcome_of (plan.One rec used) = record { answer = Done; records = rec ∷ []; used = used }
outcome_of (plan.Two first second) = record { answer = Done; records = first ∷ second ∷ []; used = false }

-- valid records for which the job has room, or a valid answer
abbrev pub IsPlan : Ids → Plan → Type 0
IsPlan ids (plan.Answer answer) = IsReply answer
IsPlan ids (plan.One rec used) = IsRecord rec × (ids.made + 1 ≤ 1048576)
IsPlan ids (plan.Two first second) = IsRecord first × IsRecord second × (ids.made + 2 ≤ 1048576)

-- where the plan leads to Done, this is whether it uses an identity
abbrev pub Uses : Bool → Plan → Type 0
Uses used plan = (outcome_of plan).answer ≡ Done → (outcome_of plan).used ≡ used

-- an answer that refuses
pub record IsRefusal (answer : OpReply) : Type 0 where
  pub not_done : answer ≢ Done
  pub valid : IsReply answer

-- the end of a walk at a place
abbrev pub walked_of : Spot → Walked
walked_of spot = record { place = Some spot.key; found = spot.found; passed = spot.passed }

-- on at the place that was reached
abbrev pub on_reached : Reached → (Walked → Key → Outcome) → Outcome
on_reached (reached.At spot) f = f (walked_of spot) spot.key
on_reached (reached.Refused answer) f = only answer

-- a valid place, or a refusal
abbrev pub IsReached : Reached → Type 0
IsReached (reached.At spot) = IsKey spot.key × IfSome spot.found IsEntry
IsReached (reached.Refused answer) = IsRefusal answer

-- on with the entry that was found
abbrev pub on_looked : Looked → (Entry → Outcome) → Outcome
on_looked (looked.Found entry) f = f entry
on_looked (looked.Refused answer) f = only answer

abbrev pub IsLooked : Looked → Type 0
IsLooked (looked.Found entry) = IsShown entry
IsLooked (looked.Refused answer) = IsRefusal answer

-- on where nothing is in the way
abbrev pub on_hit : Namespace → Hit → Outcome → Outcome
on_hit m hit.Free o = o
on_hit m (hit.Refused answer) o = only answer
on_hit m (hit.Dir id) o = if has_child m id then only NotEmpty else o

abbrev pub IsHit : Hit → Type 0
IsHit hit.Free = Unit {0}
IsHit (hit.Refused answer) = IsRefusal answer
IsHit (hit.Dir id) = Unit {0}

abbrev pub on_unblocked : Option OpReply → Outcome → Outcome
on_unblocked None o = o
on_unblocked (Some answer) o = only answer

-- The space went on by some records: all with an answer, some first ones with a fault.
pub record CarriedOut {S : Type 0} (follows : S → S → List Record → Type 0) (old new : S) (ids ids_now : Ids) (all : Outcome) (result : Result OpReply Fault) : Type 0 where
  pub records : List Record
  pub went_on : follows old new records
  pub few : length records ≤ 2
  pub numbers : OnOk result (ids_now ≡ ids_after ids all)
  pub kept : OnOther result (ids_now ≡ ids)
  pub none : OnOther result (records ≡ [])
  pub whole : OnOk result (records ≡ all.records)
  pub first : OnErr result (IsPrefix records all.records)
  pub stored : IsErrOf result LogFull → 1 ≤ length records
