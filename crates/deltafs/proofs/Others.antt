-- Files that no line writes: what is neither the registry nor the log of a job that the run begins.
use Rattle.std.proofs.Common.{◌≡◌, ◌≢◌, ◌∙◌, ◌⊎◌, inl, inr, ⊎_elim, ℕ, ◌+◌, ◌<◌, ◌≤◌, Bool, true, false, cond, List, [], ◌∷◌, Option, Some, None, Ok, Err, Result, refl, sym, subst, arith}
use Rattle.std.proofs.lemmas.Bool.{leb-false, ne_eqb, or_from}
use Rattle.std.proofs.lemmas.List.Elements.{All-nil, All-cons, All-head, All-tail}
use Rattle.std.proofs.lemmas.Map.Views.{All-values-insert_entry, All-values-set_value, All-map-remove_entry, IfSome-lookup_from_All}
use mathlib.Core.Bool.{true≢false}
use Rattle.std.specs.Prelude.{IsTrue, IfSome, is_some, length, find, nat_eq, nat_le, ◌||◌}
use Rattle.std.specs.BTreeMap.{is_at}
use Rattle.std.specs.List.{All, AllByRecursion, AllZip, list_all}
use Rattle.std.specs.Map.{values_of}
use Rattle.dfs_host.specs.Disk.{FileState, MayLeave}
use Rattle.dfs_host.specs.Host.{HostState, LeavesOnly, IsSaying, Only}
use Rattle.dfs_host.proofs.Moments.{goes_on, widened}
use Rattle.dfs_record.specs.declared.SnapName.{SnapName}
use Rattle.dfs_registry.specs.declared.listed.Listed.{Listed}
use Rattle.dfs_reply.specs.declared.Word.TheVariants as word
use Rattle.dfs_script.specs.declared.JobWord.{JobWord}
use Rattle.dfs_script.specs.declared.Line.{Line}
use Rattle.dfs_script.specs.declared.Line.TheVariants.{Nothing, Set, Snapshots, Begin, Space, Flush, Plan as PlanLine, Part, Stats, Publish, End}
use Rattle.dfs_script.specs.declared.LineFault.{LineFault}
use Rattle.dfs_script.specs.declared.LineFault.TheVariants.{Long, Syntax, NoMemory}
use Rattle.dfs_script.specs.Line.{meaning}
use Rattle.dfs_path.specs.declared.Scope.{Scope}
use Rattle.dfs_job.specs.declared.answers.JobPart.{JobPart}
use Rattle.dfs_job.specs.declared.answers.JobPart.TheVariants as parted
use Rattle.dfs_job.specs.declared.answers.Planned.{Planned}
use Rattle.dfs_job.specs.declared.answers.Planned.TheVariants as planned
use Rattle.dfs_job.specs.declared.job.Job.{Job as LiveJob}
use Rattle.dfs_job.specs.Job.{Job, Plan, after, after_flush, after_part, after_plan, does, joined_as, parted_as, part_answer, plan_answer, planned_as}
use Rattle.dfs_session.specs.declared.session.Session.{Session as LiveSession}
use Rattle.dfs_session.specs.Run.{session_after}
use Rattle.dfs_session.specs.Session.{LiveJobs, Publication, Registry, Session, Step, after_command, after_meaning, begins, begins_unless, begins_with, chosen, greatest_published, is_damaged, is_full, is_published, live_job, of_job, of_live, opened, publishes, publishes_anew, refused, step, with_job, without_job, word_cmp}
use Rattle.dfs_session.specs.Sound.{IsLive, IsSound, jobs_of, listed_in, live_in, number_of}
use Rattle.dfs_session.specs.Stands.{EntryStands, Stands}
use Rattle.dfs_session.specs.Worked.{IsRefusedAtOnce, job_is, own_log, refused_at_once, writes_by, writes_of}
use Rattle.dfs_session.specs.Writes.{FileStays, OnlyThese}
use Rattle.dfs_session.proofs.Writing.{file_idle, file_stays}
use Rattle.deltafs.specs.Others.{IsOther, OthersStay}

-- ---- the numbers of jobs

-- the job has a number above this one
abbrev IsAbove : ℕ → Job → Type 0
IsAbove least j = least < j.ids.job

abbrev AreAbove : ℕ → LiveJobs → Type 0
AreAbove least jobs = All (IsAbove least) (values_of jobs)

-- The jobs of a session have numbers above this one, and so has the next job.
record IsBehind (least : ℕ) (s : Session) : Type 0 where
  greatest : least ≤ s.greatest
  jobs : AreAbove least s.jobs

same_number_plan : (j : Job) (scope : Scope) (parts : Option ℕ) → (after_plan j scope parts).ids.job ≡ j.ids.job
same_number_plan j scope parts = by (plan_answer j)
  where
    by : (a : Planned) → (planned_as a j scope parts).ids.job ≡ j.ids.job
    by planned.Made = refl
    by planned.Busy = refl
    by planned.Full = refl

same_number_join : (o : Option Plan) (j : Job) → (joined_as o j).ids.job ≡ j.ids.job
same_number_join None j = refl
same_number_join (Some p) j = refl

same_number_part : (j : Job) (part : ℕ) → (after_part j part).ids.job ≡ j.ids.job
same_number_part j part = by (part_answer j part)
  where
    by : (a : JobPart) → (parted_as a j part).ids.job ≡ j.ids.job
    by parted.Merged = refl
    by parted.Last = same_number_join j.plan j
    by parted.NoPlan = refl
    by parted.Range = refl
    by parted.Done = refl

module _ (least : ℕ) where
  above_with : (j k : Job) → k.ids.job ≡ j.ids.job → IsAbove least j → IsAbove least k
  above_with j k same above = subst (λ (number : ℕ). least < number) (sym same) above

  behind_with : (s : Session) (w : JobWord) (k : Job) → IsBehind least s → IsAbove least k → IsBehind least (with_job s w k)
  behind_with s w k behind above = record { greatest = behind.greatest; jobs = All-values-set_value (is_at (word_cmp w)) (IsAbove least) s.jobs k behind.jobs above }

  behind_without : (s : Session) (w : JobWord) → IsBehind least s → IsBehind least (without_job s w)
  behind_without s w behind = record { greatest = behind.greatest; jobs = All-map-remove_entry (is_at (word_cmp w)) (λ e. e.1) (IsAbove least) s.jobs behind.jobs }

  behind_of_job : (s : Session) (w : JobWord) (g : Job → Step) → IsBehind least s → ((j : Job) → IsAbove least j → IsBehind least (g j).session) → IsBehind least (of_job s w g).session
  behind_of_job s w g behind each = by (live_job s w) (IfSome-lookup_from_All (IsAbove least) (is_at (word_cmp w)) s.jobs behind.jobs)
    where
      by : (o : Option Job) → IfSome o (IsAbove least) → IsBehind least (of_live o s g).session
      by None above = behind
      by (Some j) above = each j above

  behind_begins : (s : Session) (w : JobWord) (names : List SnapName) → IsBehind least s → IsBehind least (begins s w names).session
  behind_begins s w names behind = by (is_some (live_job s w)) (is_full s) (list_all (is_published s.registry) names)
    where
      unless : (d : Option Publication) → IsBehind least (begins_unless d s w (chosen s.registry names)).session
      unless None = record { greatest = omega (arith, behind.greatest); jobs = All-values-insert_entry word_cmp w _ (IsAbove least) s.jobs behind.jobs (omega (arith, behind.greatest)) }
      unless (Some p) = behind

      by : (a b c : Bool) → IsBehind least (cond a (refused s word.LiveJob) (cond b (refused s word.Full) (cond c (begins_with s w (chosen s.registry names)) (refused s word.NoSnap)))).session
      by true b c = behind
      by false true c = behind
      by false false true = unless (find is_damaged (chosen s.registry names))
      by false false false = behind

  behind_publishes : (s : Session) (w : JobWord) (j : Job) (name : SnapName) → IsBehind least s → IsBehind least (publishes s w j name).session
  behind_publishes s w j name behind = by (is_published s.registry name) (nat_le 4096 (length s.registry))
    where
      by : (a b : Bool) → IsBehind least (cond a (refused s word.Taken) (cond b (refused s word.Full) (publishes_anew s w j name))).session
      by true b = behind
      by false true = behind
      by false false = let gone = behind_without s w behind in record { greatest = gone.greatest; jobs = gone.jobs }

  behind_command : (s : Session) (line : Line) → IsBehind least s → IsBehind least (after_command s line).session
  behind_command s Nothing behind = behind
  behind_command s (Set what value) behind = record { greatest = behind.greatest; jobs = behind.jobs }
  behind_command s Snapshots behind = behind
  behind_command s (Begin w names) behind = behind_begins s w names behind
  behind_command s (Space w op) behind = behind_of_job s w _ behind (λ j above. behind_with s w (after j (does j op)) behind above)
  behind_command s (Flush w) behind = behind_of_job s w _ behind (λ j above. behind_with s w (after_flush j) behind above)
  behind_command s (PlanLine w scope parts) behind = behind_of_job s w _ behind (λ j above. behind_with s w (after_plan j scope parts) behind (above_with j (after_plan j scope parts) (same_number_plan j scope parts) above))
  behind_command s (Part w part) behind = behind_of_job s w _ behind (λ j above. behind_with s w (after_part j part) behind (above_with j (after_part j part) (same_number_part j part) above))
  behind_command s (Stats w) behind = behind_of_job s w _ behind (λ j above. behind)
  behind_command s (Publish w name) behind = behind_of_job s w _ behind (λ j above. behind_publishes s w j name behind)
  behind_command s (End w) behind = behind_of_job s w _ behind (λ j above. behind_without s w behind)

  behind_meaning : (s : Session) (m : Result Line LineFault) → IsBehind least s → IsBehind least (after_meaning s m).session
  behind_meaning s (Ok line) behind = behind_command s line behind
  behind_meaning s (Err Long) behind = behind
  behind_meaning s (Err Syntax) behind = behind
  behind_meaning s (Err NoMemory) behind = behind

  behind_lines : (s : Session) (lines : List (List ℕ)) → IsBehind least s → IsBehind least (session_after s lines)
  behind_lines s [] behind = behind
  behind_lines s (line ∷ lines) behind = behind_lines (step s line).session lines (behind_meaning s (meaning line) behind)

-- the jobs that lines begin have numbers above those of the publications that there were
behind_old : (old : Registry) (lines : List (List ℕ)) → IsBehind (greatest_published old) (session_after (opened old) lines)
behind_old old lines = behind_lines (greatest_published old) (opened old) lines (record { greatest = omega arith; jobs = All-nil _ })

-- ---- a file that stays

file_on : {old mid new : HostState} (n : ℕ) → FileStays n old mid → FileStays n mid new → FileStays n old new
file_on {old} {mid} {new} n first second = record {
  same = second.same ∙ first.same;
  images = goes_on first.images second.images (λ image may. subst (λ (file : FileState). MayLeave file (image.files n)) first.same may);
}

pub others_idle : (old : Registry) (host : HostState) → OthersStay old host host
others_idle old host n other = file_idle n host

pub others_on : {before mid after : HostState} (old : Registry) → OthersStay old before mid → OthersStay old mid after → OthersStay old before after
others_on old first second n other = file_on n (first n other) (second n other)

pub others_said : {before after : HostState} (old : Registry) (text : List ℕ) → ((n : ℕ) → after.disk.files n ≡ before.disk.files n) → LeavesOnly (IsSaying text before.disk) before after → OthersStay old before after
others_said old text files images n other = record { same = files n; images = widened images (λ image is. is.files n) }

-- opening the registry writes no other file
pub others_opened : (before after : HostState) (old : Registry) → Only 0 before after → IsTrue before.tells → OthersStay old before after
others_opened before after old only tells n other =
    let changes = only.content tells in
    record { same = changes.others n other.no_registry; images = widened changes.images (λ image with. with.others.files n other.no_registry) }

-- ---- no line writes such a file

-- what is so of a live job's number
abbrev IsBetween : ℕ → ℕ → LiveJob → Type 0
IsBetween least greatest job = (least < number_of job) × (number_of job ≤ greatest)

all_between : (host : HostState) (least greatest : ℕ) (listed : List Listed) (es : List (JobWord × LiveJob)) (fs : LiveJobs) → AllZip (EntryStands host) es fs → AreAbove least fs → AllByRecursion (λ e. IsLive greatest listed e.1) es
    → All (IsBetween least greatest) (values_of es)
all_between host least greatest listed [] [] zip above live = All-nil _
all_between host least greatest listed [] (f ∷ fs) zip above live = absurd zip
all_between host least greatest listed (e ∷ es) [] zip above live = absurd zip
all_between host least greatest listed (e ∷ es) (f ∷ fs) zip above live =
    All-cons (IsBetween least greatest) e.1 (values_of es) (subst (λ (number : ℕ). least < number) (λ i. (zip.0.job.ids i).job) (All-head (IsAbove least) f.1 (values_of fs) above), live.0.numbered)
    (all_between host least greatest listed es fs zip.1 (All-tail (IsAbove least) f.1 (values_of fs) above) live.1)

-- where the last number is taken no job begins
full_refused : (s : Session) (w : JobWord) (names : List SnapName) → nat_le 4294967294 s.greatest ≡ true → IsRefusedAtOnce (Begin w names) (begins s w names).reply
full_refused s w names last = by (is_some (live_job s w)) (is_full s) (full (nat_le 64 (length s.jobs)))
  where
    full : (b : Bool) → (b || nat_le 4294967294 s.greatest) ≡ true
    full true = refl
    full false = last

    by : (a b : Bool) → b ≡ true → IsRefusedAtOnce (Begin w names) (cond a (refused s word.LiveJob) (cond b (refused s word.Full) (cond (list_all (is_published s.registry) names) (begins_with s w (chosen s.registry names)) (refused s word.NoSnap)))).reply
    by true b is = tt
    by false true is = tt
    by false false is = absurd (true≢false (sym is))

module _ (host : HostState) (session : LiveSession) (s : Session) (old : Registry) (n : ℕ) (sound : IsSound host session) (stands : Stands host session s) (behind : IsBehind (greatest_published old) s) (other : IsOther old n) where
  own_free : (w : JobWord) → own_log session w n ≡ false
  own_free w =
      by (live_in session w)
      (IfSome-lookup_from_All (IsBetween (greatest_published old) session.greatest) (is_at (word_cmp w)) (jobs_of session) (all_between host (greatest_published old) session.greatest (listed_in session) (jobs_of session) s.jobs stands.jobs behind.jobs sound.memory.jobs))
    where
      apart : (live : LiveJob) → IsBetween (greatest_published old) session.greatest live → n ≢ number_of live
      apart live (above, within) is = ⊎_elim (λ (early : n ≤ greatest_published old). omega (arith, early, above, is)) (λ (late : 4294967294 < n). omega (arith, late, within, sound.memory.greatest, is)) other.no_job

      by : (o : Option LiveJob) → IfSome o (IsBetween (greatest_published old) session.greatest) → job_is (λ j. nat_eq n (number_of j)) o ≡ false
      by None between = refl
      by (Some live) between = ne_eqb n (number_of live) (apart live between)

  next_free : s.greatest < 4294967294 → n ≢ session.greatest + 1
  next_free below is = ⊎_elim
      (λ (early : n ≤ greatest_published old). omega (arith, early, behind.greatest, stands.greatest, is))
      (λ (late : 4294967294 < n). omega (arith, late, below, stands.greatest, is))
      other.no_job

  -- the file is not among those that the line writes, or the line is refused before it writes any
  free_or_refused : (line : Line) → (writes_of line session n ≡ false) ⊎ IsRefusedAtOnce line (after_command s line).reply
  free_or_refused Nothing = inl refl
  free_or_refused (Set what value) = inl refl
  free_or_refused Snapshots = inl refl
  free_or_refused (Begin w names) = by (nat_le 4294967294 s.greatest) refl
    where
      by : (b : Bool) → nat_le 4294967294 s.greatest ≡ b → (nat_eq n (session.greatest + 1) ≡ false) ⊎ IsRefusedAtOnce (Begin w names) (begins s w names).reply
      by true last = inr (full_refused s w names last)
      by false more = inl (ne_eqb n (session.greatest + 1) (next_free (leb-false 4294967294 s.greatest more)))
  free_or_refused (Space w op) = inl (own_free w)
  free_or_refused (Flush w) = inl (own_free w)
  free_or_refused (PlanLine w scope parts) = inl (own_free w)
  free_or_refused (Part w part) = inl (own_free w)
  free_or_refused (Stats w) = inl refl
  free_or_refused (Publish w name) = inl (or_from (nat_eq n 0) (own_log session w n) (ne_eqb n 0 other.no_registry) (own_free w))
  free_or_refused (End w) = inl refl

  by_meaning : (m : Result Line LineFault) → (writes_by m session n ≡ false) ⊎ refused_at_once m (after_meaning s m).reply
  by_meaning (Ok line) = free_or_refused line
  by_meaning (Err fault) = inl refl

  stays_by : (m : Result Line LineFault) (after : HostState) → IsTrue host.tells → OnlyThese (writes_by m session) host after → (refused_at_once m (after_meaning s m).reply → after ≡ host) → FileStays n host after
  stays_by m after tells only idle = ⊎_elim (λ (free : writes_by m session n ≡ false). file_stays n free (only.content tells)) (λ at_once. subst (FileStays n host) (sym (idle at_once)) (file_idle n host)) (by_meaning m)

-- a line behind others
pub others_step : (host after : HostState) (session : LiveSession) (old : Registry) (lines : List (List ℕ)) (m : Result Line LineFault) → IsTrue host.tells → IsSound host session → Stands host session (session_after (opened old) lines)
    → OnlyThese (writes_by m session) host after → (refused_at_once m (after_meaning (session_after (opened old) lines) m).reply → after ≡ host) → OthersStay old host after
others_step host after session old lines m tells sound stands only idle n other = stays_by host session (session_after (opened old) lines) old n sound stands (behind_old old lines) other m after tells only idle
