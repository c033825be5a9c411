-- What an operation did to a space and to the numbers of its job, on every space.
use Rattle.std.specs.Prelude.{◌≡◌, ◌≤◌, Bool, true, false, List, [], length, Result, Ok, Err, OnOk, OnErr, IsErrOf, All, ◌⊎◌}
use mathlib.Core.List.{IsPrefix}
use Rattle.dfs_host.specs.declared.fault.Fault.{Fault}
use Rattle.dfs_host.specs.declared.fault.Fault.TheVariants.{LogFull}
use Rattle.dfs_record.specs.declared.Record.{Record}
use Rattle.dfs_record.specs.declared.Entry.{Entry as AnEntry}
use Rattle.dfs_record.specs.Namespace.{Namespace}
use Rattle.dfs_record.specs.Record.{IsEntry}
use Rattle.dfs_path.specs.declared.Op.{Op}
use Rattle.dfs_path.specs.declared.Op.TheVariants.{Mkdir}
use Rattle.dfs_space.specs.Children.{IsChild}
use Rattle.dfs_walk.specs.Walk.{root_entry}
use Rattle.dfs_ops.specs.declared.Ids.{Ids}
use Rattle.dfs_ops.specs.declared.OpReply.{OpReply}
use Rattle.dfs_ops.specs.declared.OpReply.TheVariants.{Done, Entry, Listing}
use Rattle.dfs_ops.specs.Op.{outcome, counted}

-- a fact for the answer Done
abbrev pub OnDone : Result OpReply Fault → Type 0 → Type 0
OnDone (Ok Done) P = P
OnDone (Ok _) P = Unit {0}
OnDone (Err fault) P = Unit {0}

-- a fact for every other answer that is no fault
abbrev pub OnOther : Result OpReply Fault → Type 0 → Type 0
OnOther (Ok Done) P = Unit {0}
OnOther (Ok _) P = P
OnOther (Err fault) P = Unit {0}

-- a valid entry, or the root's
abbrev pub IsShown : AnEntry → Type 0
IsShown entry = (entry ≡ root_entry) ⊎ IsEntry entry

-- an answer whose parts are valid
abbrev pub IsReply : OpReply → Type 0
IsReply (Entry entry) = IsShown entry
IsReply (Listing listing) = All IsChild listing
IsReply _ = Unit {0}

-- whether an operation makes a directory, and so uses an identity where it is Done
abbrev pub makes_dir : Op → Bool
makes_dir (Mkdir path mode time) = true
makes_dir _ = false

-- The space went on by some records: all of the operation's with Done, some first ones with a fault, none with every other answer.
pub record Applied {S : Type 0} (follows : S → S → List Record → Type 0) (StandsFor : S → Namespace → Type 0) (old new : S) (ids ids_now : Ids) (op : Op) (result : Result OpReply Fault) : Type 0 where
  pub records : List Record
  pub went_on : follows old new records
  pub few : length records ≤ 2
  pub done : OnDone result (ids_now ≡ counted ids (length records) (makes_dir op))
  pub other : OnOther result ((ids_now ≡ ids) × (records ≡ []))
  pub whole : (m : Namespace) → StandsFor old m → OnOk result (records ≡ (outcome m ids op).records)
  pub first : (m : Namespace) → StandsFor old m → OnErr result (IsPrefix records (outcome m ids op).records)
  -- the log was full in a store of this operation
  pub stored : IsErrOf result LogFull → 1 ≤ length records
