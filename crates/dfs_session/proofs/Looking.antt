-- Lines that change nothing: which replies are those of operations without a record.
use Rattle.std.proofs.Common.{◌≡◌, ◌<◌, ap, arith, Bool, true, false, List, [], ◌∷◌, Option, Some, None, Result, refl, sym, subst, cond, length}
use Rattle.std.specs.Prelude.{nat_lt, ◌+◌}
use Rattle.std.specs.Ordering.{is_eq}
use Rattle.dfs_host.specs.Host.{HostState, OnlyReads}
use Rattle.dfs_host.specs.declared.fault.Fault.{Fault}
use Rattle.dfs_host.proofs.Moments.{reads_nothing}
use Rattle.dfs_record.specs.Key.{key_cmp}
use Rattle.dfs_record.specs.declared.Entry.{Entry}
use Rattle.dfs_record.specs.declared.Entry.TheVariants.{Dir, File}
use Rattle.dfs_record.specs.declared.Key.{Key}
use Rattle.dfs_record.specs.declared.Name.{Name}
use Rattle.dfs_record.specs.declared.Record.{Record}
use Rattle.dfs_record.specs.Namespace.{Namespace}
use Rattle.dfs_path.specs.declared.Op.{Op}
use Rattle.dfs_path.specs.declared.Op.TheVariants.{Mkdir, Create, Unlink, Rmdir, Rename, Setattr, Stat, List as ListOp}
use Rattle.dfs_space.specs.Children.{has_child}
use Rattle.dfs_walk.specs.declared.Walked.{Walked}
use Rattle.dfs_walk.specs.Walk.{Walk, no_entry, not_dir, at, walk}
use Rattle.dfs_ops.specs.declared.Ids.{Ids}
use Rattle.dfs_ops.specs.declared.OpReply.TheVariants.{Done, Full}
use Rattle.dfs_ops.specs.Op.{Outcome, only, makes, where_it_ends, at_place, with_found, below_root, is_found, adds, put, del, unlinks_entry, rmdirs_entry, with_attributes, lists, replaces, moves, is_among, is_root, next_id, outcome}
use Rattle.dfs_job.specs.declared.job.Job.{Job as LiveJob}
use Rattle.dfs_job.specs.declared.settings.Settings.{Settings}
use Rattle.dfs_job.specs.Job.{Job, does}
use Rattle.dfs_job.specs.Stands.{JobIsFit, JobStands}
use Rattle.dfs_session.specs.Session.{told}
use Rattle.dfs_session.specs.Worked.{IsSeen, StaysInMemory}

pub memory_reads : {T : Type 0} (result : Result T Fault) (before after : HostState) → StaysInMemory result before after → OnlyReads before after
memory_reads result before after stays = subst (OnlyReads before) (sym stays.1) (reads_nothing before)

-- the open layer of a live job has room where that of the job that it stands for has
pub room_for : (host : HostState) (live : LiveJob) (j : Job) (op : Op) → JobIsFit live → JobStands host live j → length j.layers.open_ + length (does j op).records < j.settings.buffer → live.layers.buffer.made + length (does j op).records < live.layers.limit
room_for host live j op fit stands fits = omega (arith, fits, stands.layers.open_.made, fit.buffer, ap (λ (s : Settings). s.buffer) stands.settings)

pub none_open : (host : HostState) (live : LiveJob) (j : Job) → JobStands host live j → j.layers.open_ ≡ [] → live.layers.buffer.made ≡ 0
none_open host live j stands none = omega (arith, stands.layers.open_.made, ap length none)

-- an outcome whose reply only shows something has no record
IsSilent : Outcome → Type 0
IsSilent o = IsSeen (told o.answer) → o.records ≡ []

made_silent : (ids : Ids) (records : List Record) (used : Bool) → IsSilent (makes ids records used)
unfolding IsSilent
made_silent ids records used = by (nat_lt 1048576 (ids.made + length records))
  where
    by : (b : Bool) → IsSeen (told (cond b (only Full) (record { answer = Done; records = records; used = used })).answer) → (cond b (only Full) (record { answer = Done; records = records; used = used })).records ≡ []
    by true seen = refl
    by false seen = absurd seen

silent_if : (b : Bool) (o p : Outcome) → IsSilent o → IsSilent p → IsSilent (cond b o p)
silent_if true o p first second = first
silent_if false o p first second = second

silent_end : (w : Walk) (f : Walked → Outcome) → ((x : Walked) → IsSilent (f x)) → IsSilent (where_it_ends w f)
unfolding IsSilent
silent_end no_entry f all seen = refl
silent_end not_dir f all seen = refl
silent_end (at w) f all seen = all w seen

silent_place : (place : Option Key) (f : Key → Outcome) → ((key : Key) → IsSilent (f key)) → IsSilent (at_place place f)
unfolding IsSilent
silent_place None f all seen = refl
silent_place (Some key) f all seen = all key seen

silent_found : (found : Option Entry) (f : Entry → Outcome) → ((entry : Entry) → IsSilent (f entry)) → IsSilent (with_found found f)
unfolding IsSilent
silent_found None f all seen = refl
silent_found (Some entry) f all seen = all entry seen

silent_below : (m : Namespace) (path : List Name) (f : Walked → Key → Outcome) → ((w : Walked) (key : Key) → IsSilent (f w key)) → IsSilent (below_root m path f)
silent_below m path f all = silent_end (walk m path) (λ w. at_place w.place (f w)) (λ w. silent_place w.place (f w) (all w))

none_silent : (o : Outcome) → o.records ≡ [] → IsSilent o
unfolding IsSilent
none_silent o none seen = none

added_silent : (ids : Ids) (entry : Entry) (used : Bool) (w : Walked) (key : Key) → IsSilent (adds ids entry used w key)
added_silent ids entry used w key = silent_if (is_found w.found) _ _ (none_silent _ refl) (made_silent ids (put key entry ∷ []) used)

unlinked_silent : (ids : Ids) (key : Key) (entry : Entry) → IsSilent (unlinks_entry ids key entry)
unlinked_silent ids key (Dir id mode time) = none_silent _ refl
unlinked_silent ids key (File mode time size reference) = made_silent ids (del key ∷ []) false

removed_silent : (m : Namespace) (ids : Ids) (key : Key) (entry : Entry) → IsSilent (rmdirs_entry m ids key entry)
removed_silent m ids key (File mode time size reference) = none_silent _ refl
removed_silent m ids key (Dir id mode time) = silent_if (has_child m id) _ _ (none_silent _ refl) (made_silent ids (del key ∷ []) false)

listed_silent : (m : Namespace) (entry : Entry) → IsSilent (lists m entry)
listed_silent m (File mode time size reference) = none_silent _ refl
listed_silent m (Dir id mode time) = none_silent _ refl

replaced_silent : (m : Namespace) (entry : Entry) (found : Option Entry) (renamed : Outcome) → IsSilent renamed → IsSilent (replaces m entry found renamed)
replaced_silent m entry None renamed is = is
replaced_silent m (File mode time size reference) (Some (File mode' time' size' reference')) renamed is = is
replaced_silent m (File mode time size reference) (Some (Dir id mode' time')) renamed is = none_silent _ refl
replaced_silent m (Dir id mode time) (Some (File mode' time' size' reference')) renamed is = none_silent _ refl
replaced_silent m (Dir id mode time) (Some (Dir id' mode' time')) renamed is = silent_if (has_child m id') _ _ (none_silent _ refl) is

moved_silent : (m : Namespace) (ids : Ids) (from : Key) (entry : Entry) (target : Walked) (to : Key) → IsSilent (moves m ids from entry target to)
moved_silent m ids from entry target to =
    silent_if (is_eq (key_cmp from to)) _ _ (none_silent _ refl) (silent_if (is_among entry target.passed) _ _ (none_silent _ refl)
    (replaced_silent m entry target.found (makes ids (del from ∷ put to entry ∷ []) false) (made_silent ids (del from ∷ put to entry ∷ []) false)))

outcome_silent : (m : Namespace) (ids : Ids) (op : Op) → IsSilent (outcome m ids op)
outcome_silent m ids (Mkdir path mode time) = silent_below m path _ (added_silent ids (Dir (next_id ids) mode time) true)
outcome_silent m ids (Create path mode time size reference) = silent_below m path _ (added_silent ids (File mode time size reference) false)
outcome_silent m ids (Unlink path) = silent_below m path _ (λ w key. silent_found w.found (unlinks_entry ids key) (unlinked_silent ids key))
outcome_silent m ids (Rmdir path) = silent_below m path _ (λ w key. silent_found w.found (rmdirs_entry m ids key) (removed_silent m ids key))
outcome_silent m ids (Rename from to) =
    silent_if (is_root to) _ _ (none_silent _ refl) (silent_below m from _ (λ w key. silent_found w.found _ (λ entry. silent_below m to (moves m ids key entry) (moved_silent m ids key entry))))
outcome_silent m ids (Setattr path mode time) = silent_below m path _ (λ w key. silent_found w.found _ (λ entry. made_silent ids (put key (with_attributes entry mode time) ∷ []) false))
outcome_silent m ids (Stat path) = silent_end (walk m path) _ (λ w. silent_found w.found _ (λ entry. none_silent _ refl))
outcome_silent m ids (ListOp path) = silent_end (walk m path) _ (λ w. silent_found w.found (lists m) (listed_silent m))

pub none_made : (m : Namespace) (ids : Ids) (op : Op) → IsSeen (told (outcome m ids op).answer) → (outcome m ids op).records ≡ []
unfolding IsSilent
none_made m ids op seen = outcome_silent m ids op seen
