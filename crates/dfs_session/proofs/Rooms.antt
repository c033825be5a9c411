-- A job that has room at its end has room all its life.
use Rattle.std.proofs.Common.{◌≡◌, ◌∙◌, ◌+◌, ◌*◌, ◌≤◌, ℕ, Bool, true, false, cond, List, [], ◌∷◌, ◌++◌, Option, Some, None, Ok, Err, Result, Ordering, Less, Equal, Greater, refl, sym, ap, subst, arith}
use Rattle.std.proofs.lemmas.Map.{none_passes_from_lookup}
use Rattle.std.proofs.lemmas.Option.{none-some, same_Some}
use Rattle.std.proofs.lemmas.Slice.Eq.{bytes_eq-Decides}
use Rattle.std.proofs.Math.Nat.{mul-le-mul_left, mul-le-mul_right}
use Rattle.std.specs.Prelude.{find, is_some}
use Rattle.std.specs.BTreeMap.{insert_entry, is_at}
use Rattle.std.specs.Map.{lookup}
use Rattle.std.specs.Ordering.{is_eq, match_ordering}
use Rattle.std.specs.List.{list_all}
use Rattle.std.specs.Str.{bytes_eq}
use Rattle.dfs_record.specs.declared.SnapName.{SnapName}
use Rattle.dfs_path.specs.declared.Op.{Op}
use Rattle.dfs_path.specs.declared.Scope.{Scope}
use Rattle.dfs_script.specs.declared.JobWord.{JobWord}
use Rattle.dfs_script.specs.declared.Line.{Line}
use Rattle.dfs_script.specs.declared.Line.TheVariants.{Nothing, Set, Snapshots, Begin, Space, Flush, Plan as PlanLine, Part, Stats, Publish, End}
use Rattle.dfs_script.specs.declared.LineFault.{LineFault}
use Rattle.dfs_script.specs.declared.LineFault.TheVariants.{Long, Syntax, NoMemory}
use Rattle.dfs_script.specs.Line.{meaning}
use Rattle.dfs_reply.specs.declared.Word.TheVariants as word
use Rattle.dfs_job.specs.declared.answers.Planned.{Planned}
use Rattle.dfs_job.specs.declared.answers.Planned.TheVariants as planned
use Rattle.dfs_job.specs.declared.answers.JobPart.{JobPart}
use Rattle.dfs_job.specs.declared.answers.JobPart.TheVariants as parted
use Rattle.dfs_job.specs.Job.{Job, Plan, does, after, after_flush, after_part, after_plan, joined_as, need, part_answer, parted_as, plan_answer, planned_as}
use Rattle.dfs_session.specs.Session.{Publication, Registry, Session, Step, after_command, after_meaning, begins, begins_unless, begins_with, chosen, is_damaged, is_full, is_published, live_job, of_job, of_live, opened, plans_with, publishes, publishes_anew, refused, step, told, with_job, with_new_job, without_job, word_cmp}
use Rattle.dfs_session.specs.Room.{EndedHaveRoom, HasRoom, HaveRoom}
use Rattle.dfs_session.specs.Run.{session_after}
use Rattle.dfs_session.specs.Worked.{IsShort, job_by, with_op, with_plan_made}
use Rattle.dfs_session.proofs.Alone.{live-with_job, same_place, same_word}
use Rattle.dfs_session.proofs.Single.{IsSingle, found_remove, single_insert, single_remove, single_set}

-- ---- what a job may need grows

needs_more : (a b p q : ℕ) → a ≤ b → p ≤ q → 1024 + 1200 * a * (p + 2) ≤ 1024 + 1200 * b * (q + 2)
needs_more a b p q few plans =
    let records : 1200 * a ≤ 1200 * b = omega (arith, few) in
    let more : p + 2 ≤ q + 2 = omega (arith, plans) in
    omega (arith, mul-le-mul_right (p + 2) records, mul-le-mul_left (1200 * b) more)

-- it needs no less, of a log that may be as long
abbrev Grows : Job → Job → Type 0
Grows j k = (need j ≤ need k) × (k.settings.log_bytes ≡ j.settings.log_bytes)

grows_same : (j k : Job) → j ≡ k → Grows j k
grows_same j k same = subst (λ x. Grows j x) same (omega arith, refl)

grows_after : (j : Job) (op : Op) → Grows j (after j (does j op))
grows_after j op = (needs_more (j.selected + j.ids.made) (j.selected + (after j (does j op)).ids.made) j.plans j.plans (omega arith) (omega arith), refl)

grows_plan : (j : Job) (scope : Scope) (parts : Option ℕ) → Grows j (after_plan j scope parts)
grows_plan j scope parts = by (plan_answer j)
  where
    by : (a : Planned) → Grows j (planned_as a j scope parts)
    by planned.Made = (needs_more (j.selected + j.ids.made) (j.selected + j.ids.made) j.plans (j.plans + 1) (omega arith) (omega arith), refl)
    by planned.Busy = (omega arith, refl)
    by planned.Full = (omega arith, refl)

grows_join : (o : Option Plan) (j : Job) → Grows j (joined_as o j)
grows_join None j = (omega arith, refl)
grows_join (Some p) j = (omega arith, refl)

grows_part : (j : Job) (part : ℕ) → Grows j (after_part j part)
grows_part j part = by (part_answer j part)
  where
    by : (a : JobPart) → Grows j (parted_as a j part)
    by parted.Merged = (omega arith, refl)
    by parted.Last = grows_join j.plan j
    by parted.NoPlan = (omega arith, refl)
    by parted.Range = (omega arith, refl)
    by parted.Done = (omega arith, refl)

room_before : (j k : Job) → Grows j k → HasRoom k → HasRoom j
room_before j k grows room = omega (arith, grows.0, grows.1, room)

-- ---- a line leaves each live job growing

-- each word names one job at most
abbrev pub AreSingle : Session → Type 0
AreSingle s = (w : JobWord) → IsSingle (is_at (word_cmp w)) s.jobs

-- The words stay single, and a job that lives on has grown.
record LivesOn (s t : Session) : Type 0 where
  single : AreSingle t
  grows : (w : JobWord) (j k : Job) → live_job s w ≡ Some j → live_job t w ≡ Some k → Grows j k

lives_same : (s : Session) → AreSingle s → LivesOn s s
lives_same s single = record { single = single; grows = λ w j k was is. grows_same j k (same_Some j k (sym was ∙ is)) }

lives_with : (s : Session) (v : JobWord) (j k : Job) → AreSingle s → live_job s v ≡ Some j → Grows j k → LivesOn s (with_job s v k)
lives_with s v j k single is grows = record {
  single = λ w. single_set (is_at (word_cmp w)) (is_at (word_cmp v)) s.jobs k (single w);
  grows = λ w i l was now. by w (bytes_eq w v) refl i l was (sym (live-with_job s v w j k is) ∙ now);
}
  where
    by : (w : JobWord) (b : Bool) → bytes_eq w v ≡ b → (i l : Job) → live_job s w ≡ Some i → cond b (Some k) (live_job s w) ≡ Some l → Grows i l
    by w true t i l was now =
        let here : j ≡ i = same_Some j i (sym is ∙ sym (ap (live_job s) (same_word w v t)) ∙ was) in
        subst (λ x. Grows i x) (same_Some k l now) (subst (λ x. Grows x k) here grows)
    by w false t i l was now = grows_same i l (same_Some i l (sym was ∙ now))

lives_without : (s : Session) (v : JobWord) → AreSingle s → LivesOn s (without_job s v)
lives_without s v single = record {
  single = λ w. single_remove (is_at (word_cmp w)) (is_at (word_cmp v)) s.jobs (single w);
  grows = λ w i l was now. grows_same i l (same_Some i l (sym was ∙ found_remove (is_at (word_cmp w)) (is_at (word_cmp v)) s.jobs l (single w) now));
}

-- what is found beside a new entry was there before
module _ {K X : Type 0} (test : K → Bool) (cmp : K → K → Ordering) (k : K) (v : X) (fails : test k ≡ false) (others : (u : K) → cmp k u ≡ Equal → test u ≡ false) where
  found_beside : (es : List (K × X)) (x : X) → lookup test (insert_entry cmp es k v) ≡ Some x → lookup test es ≡ Some x
  found_beside [] x found = subst (λ b. cond b (Some v) None ≡ Some x) fails found
  found_beside (e ∷ es) x found = by (cmp k e.0) refl (found_beside es x) found
    where
      behind : (b : Bool) → (lookup test (insert_entry cmp es k v) ≡ Some x → lookup test es ≡ Some x) → cond b (Some e.1) (lookup test (insert_entry cmp es k v)) ≡ Some x → cond b (Some e.1) (lookup test es) ≡ Some x
      behind true rest now = now
      behind false rest now = rest now

      by : (o : Ordering) → cmp k e.0 ≡ o → (lookup test (insert_entry cmp es k v) ≡ Some x → lookup test es ≡ Some x)
          → lookup test (match_ordering o ((k, v) ∷ e ∷ es) ((e.0, v) ∷ es) (e ∷ insert_entry cmp es k v)) ≡ Some x → lookup test (e ∷ es) ≡ Some x
      by Less is rest now = subst (λ b. cond b (Some v) (lookup test (e ∷ es)) ≡ Some x) fails now
      by Equal is rest now = subst (λ b. cond b (Some e.1) (lookup test es) ≡ Some x) (sym (others e.0 is)) (subst (λ b. cond b (Some v) (lookup test es) ≡ Some x) (others e.0 is) now)
      by Greater is rest now = behind (test e.0) rest now

-- a new job stands under no word that another one has
lives_new : (s : Session) (v : JobWord) (k : Job) → AreSingle s → live_job s v ≡ None → LivesOn s (with_new_job (record s { greatest = s.greatest + 1 }) v k)
lives_new s v k single none = record {
  single = λ w. single_insert (is_at (word_cmp w)) word_cmp v k s.jobs (λ t. none_passes_from_lookup (is_at (word_cmp w)) s.jobs (ap (live_job s) (same_place w v t) ∙ none)) (single w);
  grows = λ w i l was now. by w (is_at (word_cmp w) v) refl i l was now;
}
  where
    by : (w : JobWord) (b : Bool) → is_at (word_cmp w) v ≡ b → (i l : Job) → live_job s w ≡ Some i → live_job (with_new_job s v k) w ≡ Some l → Grows i l
    by w true t i l was now = absurd (none-some i (sym none ∙ sym (ap (live_job s) (same_place w v t)) ∙ was))
    by w false t i l was now = grows_same i l (same_Some i l (sym was ∙ found_beside (is_at (word_cmp w)) word_cmp v k t (λ u e. subst (λ x. is_at (word_cmp w) x ≡ false) (same_place v u (ap is_eq e)) t) s.jobs l now))

-- ---- each command

lives_begins : (s : Session) (v : JobWord) (names : List SnapName) → AreSingle s → LivesOn s (begins s v names).session
lives_begins s v names single = by (live_job s v) refl (is_full s) (list_all (is_published s.registry) names)
  where
    unless : (d : Option Publication) → live_job s v ≡ None → LivesOn s (begins_unless d s v (chosen s.registry names)).session
    unless None none = lives_new s v _ single none
    unless (Some p) none = lives_same s single

    by : (o : Option Job) → live_job s v ≡ o → (a b : Bool)
        → LivesOn s (cond (is_some o) (refused s word.LiveJob) (cond a (refused s word.Full) (cond b (begins_with s v (chosen s.registry names)) (refused s word.NoSnap)))).session
    by (Some j) is a b = lives_same s single
    by None is true b = lives_same s single
    by None is false true = unless (find is_damaged (chosen s.registry names)) is
    by None is false false = lives_same s single

lives_publishes : (s : Session) (v : JobWord) (j : Job) (name : SnapName) → AreSingle s → LivesOn s (publishes s v j name).session
lives_publishes s v j name single = by (is_published s.registry name) _
  where
    gone : LivesOn s (without_job s v)
    gone = lives_without s v single

    by : (a b : Bool) → LivesOn s (cond a (refused s word.Taken) (cond b (refused s word.Full) (publishes_anew s v j name))).session
    by true b = lives_same s single
    by false true = lives_same s single
    by false false = record { single = gone.single; grows = gone.grows }

lives_of_job : (s : Session) (v : JobWord) (g : Job → Step) → AreSingle s → ((j : Job) → live_job s v ≡ Some j → LivesOn s (g j).session) → LivesOn s (of_job s v g).session
lives_of_job s v g single some = by (live_job s v) refl
  where
    by : (o : Option Job) → live_job s v ≡ o → LivesOn s (of_live o s g).session
    by None is = lives_same s single
    by (Some j) is = some j is

lives_command : (s : Session) (l : Line) → AreSingle s → LivesOn s (after_command s l).session
lives_command s Nothing single = lives_same s single
lives_command s (Set what value) single = let same = lives_same s single in record { single = same.single; grows = same.grows }
lives_command s Snapshots single = lives_same s single
lives_command s (Begin v names) single = lives_begins s v names single
lives_command s (Space v op) single = lives_of_job s v _ single (λ j is. lives_with s v j (after j (does j op)) single is (grows_after j op))
lives_command s (Flush v) single = lives_of_job s v _ single (λ j is. lives_with s v j (after_flush j) single is (omega arith, refl))
lives_command s (PlanLine v scope parts) single = lives_of_job s v _ single (λ j is. lives_with s v j (after_plan j scope parts) single is (grows_plan j scope parts))
lives_command s (Part v part) single = lives_of_job s v _ single (λ j is. lives_with s v j (after_part j part) single is (grows_part j part))
lives_command s (Stats v) single = lives_of_job s v _ single (λ j is. lives_same s single)
lives_command s (Publish v name) single = lives_of_job s v _ single (λ j is. lives_publishes s v j name single)
lives_command s (End v) single = lives_of_job s v _ single (λ j is. lives_without s v single)

lives_meaning : (s : Session) (m : Result Line LineFault) → AreSingle s → LivesOn s (after_meaning s m).session
lives_meaning s (Ok l) single = lives_command s l single
lives_meaning s (Err Long) single = lives_same s single
lives_meaning s (Err Syntax) single = lives_same s single
lives_meaning s (Err NoMemory) single = lives_same s single

-- ---- room at the end is room now

-- a job that ends here has room, and one that lives on had it, where it has it then
room_on : (s t : Session) → LivesOn s t → EndedHaveRoom s t → (w : JobWord) (j : Job) → live_job s w ≡ Some j → ((k : Job) → live_job t w ≡ Some k → HasRoom k) → HasRoom j
room_on s t lives ended w j is later = by (live_job t w) refl
  where
    by : (o : Option Job) → live_job t w ≡ o → HasRoom j
    by None gone = ended w j is gone
    by (Some k) now = room_before j k (lives.grows w j k is now) (later k now)

room_now : (s : Session) (lines : List (List ℕ)) → AreSingle s → HaveRoom s lines → (w : JobWord) (j : Job) → live_job s w ≡ Some j → HasRoom j
room_now s [] single room w j is = room w j is
room_now s (line ∷ lines) single room w j is =
    let lives = lives_meaning s (meaning line) single in
    room_on s (step s line).session lives room.0 w j is (λ k now. room_now (step s line).session lines lives.single room.1 w k now)

-- the job of a word, where it has room, is not short
never_short_job : (o : Option Job) → ((j : Job) → o ≡ Some j → HasRoom j) → IsShort o → ⊥
never_short_job None room short = short
never_short_job (Some j) room short = let enough : need j ≤ j.settings.log_bytes = room j refl in omega (arith, enough, short)

-- the same of a job that the line goes on with
never_short_next : (s : Session) (v : JobWord) (next : Job → Job) (o : Option Job) (more : Option Job → Option Job) → (more None ≡ None) → ((j : Job) → more (Some j) ≡ Some (next j)) → live_job s v ≡ o
    → ((j : Job) → live_job s v ≡ Some j → HasRoom (next j)) → IsShort (more o) → ⊥
never_short_next s v next None more none some is room short = subst IsShort none short
never_short_next s v next (Some j) more none some is room short =
    let short_next : IsShort (Some (next j)) = subst IsShort (some j) short in
    let enough : need (next j) ≤ (next j).settings.log_bytes = room j is in
    omega (arith, enough, short_next)

-- the job as the line leaves it
next_here : (s : Session) (v : JobWord) (j k : Job) (g : Job → Step) → (g j).session ≡ with_job s v k → live_job s v ≡ Some j → live_job (of_job s v g).session v ≡ Some k
next_here s v j k g next is =
    ap (λ o. live_job (of_live o s g).session v) is
    ∙ ap (λ (t : Session). live_job t v) next
    ∙ live-with_job s v v j k is
    ∙ ap (λ b. cond b (Some k) (live_job s v)) ((bytes_eq-Decides v v).1 refl)

room_then : (s : Session) (m : Result Line LineFault) (lines : List (List ℕ)) → AreSingle s → HaveRoom (after_meaning s m).session lines → (w : JobWord) (k : Job) → live_job (after_meaning s m).session w ≡ Some k → HasRoom k
room_then s m lines single later w k is = room_now (after_meaning s m).session lines (lives_meaning s m single).single later w k is

-- no line is short whose jobs have room at their ends
never_short_meaning : (s : Session) (m : Result Line LineFault) (lines : List (List ℕ)) → AreSingle s → ((w : JobWord) (j : Job) → live_job s w ≡ Some j → HasRoom j) → HaveRoom (after_meaning s m).session lines → IsShort (job_by s m) → ⊥
never_short_meaning s (Err fault) lines single now later short = short
never_short_meaning s (Ok Nothing) lines single now later short = short
never_short_meaning s (Ok (Set what value)) lines single now later short = short
never_short_meaning s (Ok Snapshots) lines single now later short = short
never_short_meaning s (Ok (Begin v names)) lines single now later short = short
never_short_meaning s (Ok (Stats v)) lines single now later short = short
never_short_meaning s (Ok (End v)) lines single now later short = short
never_short_meaning s (Ok (Flush v)) lines single now later short = never_short_job (live_job s v) (now v) short
never_short_meaning s (Ok (Part v part)) lines single now later short = never_short_job (live_job s v) (now v) short
never_short_meaning s (Ok (Publish v name)) lines single now later short = never_short_job (live_job s v) (now v) short
never_short_meaning s (Ok (Space v op)) lines single now later short =
    never_short_next s v (λ j. after j (does j op)) (live_job s v) (with_op op) refl (λ j. refl) refl
    (λ j is. room_then s (Ok (Space v op)) lines single later v (after j (does j op)) (next_here s v j (after j (does j op)) (λ i. record { session = with_job s v (after i (does i op)); reply = told (does i op).answer }) refl is)) short
never_short_meaning s (Ok (PlanLine v scope parts)) lines single now later short =
    never_short_next s v (λ j. after_plan j scope parts) (live_job s v) (with_plan_made scope parts) refl (λ j. refl) refl
    (λ j is. room_then s (Ok (PlanLine v scope parts)) lines single later v (after_plan j scope parts) (next_here s v j (after_plan j scope parts) (λ i. plans_with s v i scope parts) refl is)) short

-- no line of a script is short, where each job has room at its end
pub never_short : (s : Session) (before : List (List ℕ)) (line : List ℕ) (lines : List (List ℕ)) → AreSingle s → HaveRoom s (before ++ line ∷ lines) → IsShort (job_by (session_after s before) (meaning line)) → ⊥
never_short s [] line lines single room short = never_short_meaning s (meaning line) lines single (room_now s (line ∷ lines) single room) room.1 short
never_short s (first ∷ before) line lines single room short = never_short (step s first).session before line lines (lives_meaning s (meaning first) single).single room.1 short

-- a session that was just opened has no job
pub none_single : (registry : Registry) → AreSingle (opened registry)
none_single registry w = tt
