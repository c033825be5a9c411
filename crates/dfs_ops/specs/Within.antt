-- Which identities a job's namespace may have: none of a later job, and of its own those that it has made.
use Rattle.std.specs.Prelude.{◌≡◌, ◌≢◌, ◌≤◌, List, [], length, All, Some}
use Rattle.dfs_record.specs.declared.DirId.{DirId}
use Rattle.dfs_record.specs.declared.Key.{Key}
use Rattle.dfs_record.specs.declared.Entry.{Entry}
use Rattle.dfs_record.specs.declared.Entry.TheVariants.{Dir, File}
use Rattle.dfs_record.specs.declared.Value.{Value}
use Rattle.dfs_record.specs.declared.Value.TheVariants.{Del, Put}
use Rattle.dfs_record.specs.declared.Record.{Record}
use Rattle.dfs_record.specs.KeyMap.{get}
use Rattle.dfs_record.specs.Namespace.{Namespace, after_records}
use Rattle.dfs_record.specs.Record.{IsRecord}
use Rattle.dfs_path.specs.Op.{IsOp}
use Rattle.dfs_path.specs.declared.Op.{Op}
use Rattle.dfs_ops.specs.declared.Ids.{Ids}
use Rattle.dfs_ops.specs.declared.OpReply.TheVariants.{Done}
use Rattle.dfs_ops.specs.Op.{Outcome, outcome, ids_after, AreIds, next_id, put}

-- an identity of an earlier job, or one that this job has made
pub record IsIdWithin (ids : Ids) (id : DirId) : Type 0 where
  pub job : id.job ≤ ids.job
  pub counter : id.job ≡ ids.job → id.counter ≤ ids.counter

abbrev pub IsEntryWithin : Ids → Entry → Type 0
IsEntryWithin ids (Dir id mode time) = IsIdWithin ids id
IsEntryWithin ids (File mode time size reference) = Unit {0}

abbrev pub IsValueWithin : Ids → Value → Type 0
IsValueWithin ids Del = Unit {0}
IsValueWithin ids (Put entry) = IsEntryWithin ids entry

-- a valid record with such identities, its parent and its entry's
pub record IsRecordWithin (ids : Ids) (rec : Record) : Type 0 where
  pub valid : IsRecord rec
  pub parent : IsIdWithin ids rec.key.parent
  pub value : IsValueWithin ids rec.value

-- what stands in the namespace is valid, with such identities
abbrev pub IsWithin : Ids → Namespace → Type 0
IsWithin ids m = (key : Key) (entry : Entry) → get m key ≡ Some entry → IsRecordWithin ids (put key entry)

-- the records of an operation are such records for the numbers after it
abbrev pub MakesWithin : Type 0
MakesWithin = (m : Namespace) (ids : Ids) (op : Op) → AreIds ids → IsOp op → IsWithin ids m → All (IsRecordWithin (ids_after ids (outcome m ids op))) (outcome m ids op).records

-- and they leave such a namespace
abbrev pub LeavesWithin : Type 0
LeavesWithin = (m : Namespace) (ids : Ids) (op : Op) → AreIds ids → IsOp op → IsWithin ids m → IsWithin (ids_after ids (outcome m ids op)) (after_records m (outcome m ids op).records)

-- such records leave such a namespace, whichever they are
abbrev pub StaysWithin : Type 0
StaysWithin = (m : Namespace) (ids : Ids) (rs : List Record) → IsWithin ids m → All (IsRecordWithin ids) rs → IsWithin ids (after_records m rs)

-- nothing stands in the directory
abbrev pub HasNothingIn : Namespace → DirId → Type 0
HasNothingIn m dir = (key : Key) (entry : Entry) → get m key ≡ Some entry → key.parent ≢ dir

-- After an operation nothing stands in the directory that it made, or would have made.
abbrev pub LeavesEmpty : Type 0
LeavesEmpty = (m : Namespace) (ids : Ids) (op : Op) → AreIds ids → IsOp op → IsWithin ids m → HasNothingIn (after_records m (outcome m ids op).records) (next_id ids)

-- A refusal makes no record and leaves the numbers, an operation makes at most two records, and the numbers after it may be given again.
pub record IsBounded (ids : Ids) (o : Outcome) : Type 0 where
  pub refused : o.answer ≢ Done → (o.records ≡ []) × (ids_after ids o ≡ ids)
  pub few : length o.records ≤ 2
  pub again : AreIds ids → AreIds (ids_after ids o)

abbrev pub EachBounded : Type 0
EachBounded = (m : Namespace) (ids : Ids) (op : Op) → IsBounded ids (outcome m ids op)
