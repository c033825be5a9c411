-- What an operation answers on a namespace, and which records it makes.
use Rattle.std.specs.Prelude.{◌<◌, ◌≤◌, ◌^◌, ℕ, ◌+◌, Bool, true, false, nat_lt, if◌then◌else◌, List, [], ◌∷◌, length, Option, Some, None}
use Rattle.std.specs.List.{list_any}
use Rattle.std.specs.Ordering.{is_eq}
use Rattle.dfs_record.specs.declared.DirId.{DirId}
use Rattle.dfs_record.specs.declared.Key.{Key}
use Rattle.dfs_record.specs.declared.Name.{Name}
use Rattle.dfs_record.specs.declared.Entry.{Entry}
use Rattle.dfs_record.specs.declared.Entry.TheVariants.{Dir, File}
use Rattle.dfs_record.specs.declared.Value.TheVariants.{Del, Put}
use Rattle.dfs_record.specs.declared.Record.{Record}
use Rattle.dfs_record.specs.Key.{key_cmp}
use Rattle.dfs_record.specs.Namespace.{Namespace}
use Rattle.dfs_path.specs.declared.Op.{Op}
use Rattle.dfs_path.specs.declared.Op.TheVariants.{Mkdir, Create, Unlink, Rmdir, Rename, Setattr, Stat, List as ListOp}
use Rattle.dfs_space.specs.Children.{is_same_dir, children, has_child}
use Rattle.dfs_walk.specs.declared.Walked.{Walked}
use Rattle.dfs_walk.specs.Walk.{Walk, no_entry, not_dir, at, walk}
use Rattle.dfs_ops.specs.declared.Ids.{Ids}
use Rattle.dfs_ops.specs.declared.OpReply.{OpReply}
use Rattle.dfs_ops.specs.declared.OpReply.TheVariants.{Done, Entry as EntryReply, Listing, Root, NoEnt, NotDir, IsDir, Exists, NotEmpty, Inside, Full}

-- the answer, the records made, and whether the next identity was used
pub record Outcome : Type 0 where
  pub answer : OpReply
  pub records : List Record
  pub used : Bool

-- an answer that makes no record
abbrev pub only : OpReply → Outcome
only answer = record { answer = answer; records = []; used = false }

-- Done, with these records, unless the job's operations would have made more than 1,048,576
abbrev pub makes : Ids → List Record → Bool → Outcome
makes ids records used = if nat_lt 1048576 (ids.made + length records) then only Full else record { answer = Done; records = records; used = used }

-- the record that puts an entry, and the one that deletes
abbrev pub put : Key → Entry → Record
put key entry = record { key = key; value = Put entry }

abbrev pub del : Key → Record
del key = record { key = key; value = Del }

-- the end of a walk, where it has one
abbrev pub where_it_ends : Walk → (Walked → Outcome) → Outcome
where_it_ends no_entry f = only NoEnt
where_it_ends not_dir f = only NotDir
where_it_ends (at w) f = f w

-- the place where a walk ends, which the root has not
abbrev pub at_place : Option Key → (Key → Outcome) → Outcome
at_place None f = only Root
at_place (Some key) f = f key

-- what was found, where something was
abbrev pub with_found : Option Entry → (Entry → Outcome) → Outcome
with_found None f = only NoEnt
with_found (Some entry) f = f entry

-- what a changing operation finds at a path: the root is refused first
abbrev pub below_root : Namespace → List Name → (Walked → Key → Outcome) → Outcome
below_root m path f = where_it_ends (walk m path) (λ w. at_place w.place (f w))

-- what a reading operation finds at a path
abbrev pub found_at : Namespace → List Name → (Entry → Outcome) → Outcome
found_at m path f = where_it_ends (walk m path) (λ w. with_found w.found f)

-- whether something was found
abbrev pub is_found : Option Entry → Bool
is_found None = false
is_found (Some entry) = true

-- puts an entry where nothing stands
abbrev pub adds : Ids → Entry → Bool → Walked → Key → Outcome
adds ids entry used w key = if is_found w.found then only Exists else makes ids (put key entry ∷ []) used

-- removes what is no directory
abbrev pub unlinks_entry : Ids → Key → Entry → Outcome
unlinks_entry ids key (Dir id mode time) = only IsDir
unlinks_entry ids key (File mode time size reference) = makes ids (del key ∷ []) false

abbrev pub unlinks : Ids → Walked → Key → Outcome
unlinks ids w key = with_found w.found (unlinks_entry ids key)

-- removes a directory that has no child
abbrev pub rmdirs_entry : Namespace → Ids → Key → Entry → Outcome
rmdirs_entry m ids key (File mode time size reference) = only NotDir
rmdirs_entry m ids key (Dir id mode time) = if has_child m id then only NotEmpty else makes ids (del key ∷ []) false

abbrev pub rmdirs : Namespace → Ids → Walked → Key → Outcome
rmdirs m ids w key = with_found w.found (rmdirs_entry m ids key)

-- an entry with another mode and time
abbrev pub with_attributes : Entry → ℕ → ℕ → Entry
with_attributes (Dir id mode time) mode' time' = Dir id mode' time'
with_attributes (File mode time size reference) mode' time' = File mode' time' size reference

abbrev pub sets_attributes : Ids → ℕ → ℕ → Walked → Key → Outcome
sets_attributes ids mode time w key = with_found w.found (λ entry. makes ids (put key (with_attributes entry mode time) ∷ []) false)

-- shows the children of a directory
abbrev pub lists : Namespace → Entry → Outcome
lists m (File mode time size reference) = only NotDir
lists m (Dir id mode time) = only (Listing (children m id))

-- whether an entry is a directory that stands among these
abbrev pub is_among : Entry → List DirId → Bool
is_among (File mode time size reference) passed = false
is_among (Dir id mode time) passed = list_any (is_same_dir id) passed

-- an entry in the place of what may stand at the target, where the kinds agree and a directory is empty
abbrev pub replaces : Namespace → Entry → Option Entry → Outcome → Outcome
replaces m entry None renamed = renamed
replaces m (File mode time size reference) (Some (File mode' time' size' reference')) renamed = renamed
replaces m (File mode time size reference) (Some (Dir id mode' time')) renamed = only IsDir
replaces m (Dir id mode time) (Some (File mode' time' size' reference')) renamed = only NotDir
replaces m (Dir id mode time) (Some (Dir id' mode' time')) renamed = if has_child m id' then only NotEmpty else renamed

-- moves what stands at a key to where another walk ends
abbrev pub moves : Namespace → Ids → Key → Entry → Walked → Key → Outcome
moves m ids from entry target to =
    if is_eq (key_cmp from to) then only Done
    else (if is_among entry target.passed then only Inside
    else replaces m entry target.found (makes ids (del from ∷ put to entry ∷ []) false))

-- takes what stands at a key to where a path leads
abbrev pub takes : Namespace → Ids → List Name → Walked → Key → Outcome
takes m ids to w key = with_found w.found (λ entry. below_root m to (moves m ids key entry))

-- whether the path is the root
abbrev pub is_root : List Name → Bool
is_root [] = true
is_root (name ∷ names) = false

-- the identity of the next directory
abbrev pub next_id : Ids → DirId
next_id ids = record { job = ids.job; counter = ids.counter + 1 }

-- What an operation does on a namespace, for a job with these numbers: the checks in their order.
abbrev pub outcome : Namespace → Ids → Op → Outcome
outcome m ids (Mkdir path mode time) = below_root m path (adds ids (Dir (next_id ids) mode time) true)
outcome m ids (Create path mode time size reference) = below_root m path (adds ids (File mode time size reference) false)
outcome m ids (Unlink path) = below_root m path (unlinks ids)
outcome m ids (Rmdir path) = below_root m path (rmdirs m ids)
outcome m ids (Rename from to) = if is_root to then only Root else below_root m from (takes m ids to)
outcome m ids (Setattr path mode time) = below_root m path (sets_attributes ids mode time)
outcome m ids (Stat path) = found_at m path (λ entry. only (EntryReply entry))
outcome m ids (ListOp path) = found_at m path (lists m)

-- The numbers that an operation may be given: a job that is not the root's, a counter that its records bound,
-- and at most as many records as a job may make.
pub record AreIds (ids : Ids) : Type 0 where
  pub job : 1 ≤ ids.job
  pub fits : ids.job < 2 ^ 32
  pub counter : ids.counter ≤ ids.made
  pub made : ids.made ≤ 1048576

-- the numbers after so many records, and an identity where one was used
abbrev pub counted : Ids → ℕ → Bool → Ids
counted ids records used = record { job = ids.job; counter = ids.counter + (if used then 1 else 0); made = ids.made + records }

-- the numbers after an operation
abbrev pub ids_after : Ids → Outcome → Ids
ids_after ids o = counted ids (length o.records) o.used
