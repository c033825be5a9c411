-- While a job lives, what it sees and its numbers follow from its own operations.
use Rattle.std.proofs.Common.{◌≡◌, ◌∙◌, ⊎_elim, ℕ, ◌+◌, ◌≤◌, Bool, true, false, cond, List, [], ◌∷◌, ◌++◌, Option, Some, None, Ok, Err, Result, refl, sym, ap, subst, true≢false, arith}
use Rattle.std.proofs.lemmas.Cmp.{nat_list_cmp_total}
use Rattle.std.proofs.lemmas.Map.{NonePasses, lookup-set_value, none_passes_from_lookup}
use Rattle.std.proofs.lemmas.Map.Text.{is_eq-slice_cmp}
use Rattle.std.proofs.lemmas.Option.{none-some, same_Some}
use Rattle.std.proofs.lemmas.Slice.Eq.{bytes_eq-Decides}
use Rattle.std.specs.Prelude.{◌&&◌, find, is_some, not, option_map, option_and_then}
use Rattle.std.specs.BTreeMap.{is_at}
use Rattle.std.specs.Cmp.{IsEquivalence, eq_by_cmp_equiv}
use Rattle.std.specs.List.{cons_option, list_all}
use Rattle.std.specs.Ordering.{eq_by_cmp}
use Rattle.std.specs.Str.{bytes_eq}
use Rattle.dfs_record.specs.declared.SnapName.{SnapName}
use Rattle.dfs_record.specs.Delta.{Delta}
use Rattle.dfs_record.specs.Namespace.{Namespace, after_records, replay}
use Rattle.dfs_path.specs.declared.Op.{Op}
use Rattle.dfs_path.specs.declared.Scope.{Scope}
use Rattle.dfs_ops.specs.declared.Ids.{Ids}
use Rattle.dfs_ops.specs.Op.{outcome, ids_after}
use Rattle.dfs_script.specs.declared.JobWord.{JobWord}
use Rattle.dfs_script.specs.declared.Line.{Line}
use Rattle.dfs_script.specs.declared.Line.TheVariants.{Nothing, Set, Snapshots, Begin, Space, Flush, Plan as PlanLine, Part, Stats, Publish, End}
use Rattle.dfs_script.specs.declared.LineFault.{LineFault}
use Rattle.dfs_script.specs.declared.LineFault.TheVariants.{Long, Syntax, NoMemory}
use Rattle.dfs_script.specs.Line.{meaning}
use Rattle.dfs_reply.specs.declared.Reply.{Reply}
use Rattle.dfs_reply.specs.declared.Reply.TheVariants.{Job as JobReply}
use Rattle.dfs_reply.specs.declared.Word.TheVariants as word
use Rattle.dfs_job.specs.declared.answers.Planned.{Planned}
use Rattle.dfs_job.specs.declared.answers.Planned.TheVariants as planned
use Rattle.dfs_job.specs.declared.answers.JobPart.{JobPart}
use Rattle.dfs_job.specs.declared.answers.JobPart.TheVariants as parted
use Rattle.dfs_job.specs.Job.{Job, Plan, begun, namespace_of, does, after, after_flush, after_part, after_plan, first_ids, joined_as, part_answer, parted_as, plan_answer, planned_as}
use Rattle.dfs_job.proofs.Joins.{join_sees}
use Rattle.dfs_job.proofs.Layers.{joined-add, joined-flushed, replay-more}
use Rattle.dfs_view.specs.Lists.{joined}
use Rattle.dfs_session.specs.Session.{Publication, Registry, Session, Step, after_command, after_meaning, begins, begins_unless, begins_with, changes_of, chosen, is_damaged, is_full, is_published, live_job, of_job, of_live, opened_with, operates, published_as, publishes, publishes_anew, refused, step, told, with_job, with_new_job, without_job, word_cmp}
use Rattle.dfs_session.specs.Run.{session_after}
use Rattle.dfs_session.specs.Isolation.{answers_on, op_in, ops_for, selected_by, live_number, IsIsolated}
use Rattle.dfs_session.proofs.Runs.{session_after-append}
use Rattle.dfs_session.proofs.Single.{IsSingle, found_insert, found_remove, single_insert, single_none, single_remove, single_set}

-- ---- what a job sees, and its numbers

abbrev Seen : Type 0
Seen = Namespace × Ids

abbrev seen_by : Job → Seen
seen_by j = (namespace_of j, j.ids)

abbrev seen_next : Seen → Option Op → Seen
seen_next x None = x
seen_next x (Some op) = (after_records x.0 (outcome x.0 x.1 op).records, ids_after x.1 (outcome x.0 x.1 op))

abbrev seen_after : Seen → List Op → Seen
seen_after x [] = x
seen_after x (op ∷ ops) = seen_after (seen_next x (Some op)) ops

seen_after-cons_option : (x : Seen) (o : Option Op) (ops : List Op) → seen_after x (cons_option o ops) ≡ seen_after (seen_next x o) ops
seen_after-cons_option x None ops = refl
seen_after-cons_option x (Some op) ops = refl

answers-last : (x : Seen) (ops : List Op) (op : Op) → answers_on x.0 x.1 (ops ++ op ∷ []) ≡ answers_on x.0 x.1 ops ++ (outcome (seen_after x ops).0 (seen_after x ops).1 op).answer ∷ []
answers-last x [] op = refl
answers-last x (o ∷ ops) op = ap (λ l. (outcome x.0 x.1 o).answer ∷ l) (answers-last (seen_next x (Some o)) ops op)

same_number : (x : Seen) (o : Option Op) → (seen_next x o).1.job ≡ x.1.job
same_number x None = refl
same_number x (Some op) = refl

seen-after : (j : Job) (op : Op) → seen_by (after j (does j op)) ≡ seen_next (seen_by j) (Some op)
seen-after j op =
    let rs = (does j op).records in
    ap (λ m. (m, ids_after j.ids (does j op))) (ap (replay j.basis) (joined-add j.settings.buffer j.layers rs) ∙ replay-more j.basis (joined j.layers) rs)

seen-flush : (j : Job) → seen_by (after_flush j) ≡ seen_by j
seen-flush j = ap (λ rs. (replay j.basis rs, j.ids)) (joined-flushed j.layers)

seen-plan : (j : Job) (scope : Scope) (parts : Option ℕ) → seen_by (after_plan j scope parts) ≡ seen_by j
seen-plan j scope parts = by (plan_answer j)
  where
    by : (a : Planned) → seen_by (planned_as a j scope parts) ≡ seen_by j
    by planned.Made = seen-flush j
    by planned.Busy = refl
    by planned.Full = refl

seen-join : (o : Option Plan) (j : Job) → seen_by (joined_as o j) ≡ seen_by j
seen-join None j = refl
seen-join (Some p) j = ap (λ m. (m, j.ids)) (join_sees p j)

seen-part : (j : Job) (part : ℕ) → seen_by (after_part j part) ≡ seen_by j
seen-part j part = by (part_answer j part)
  where
    by : (a : JobPart) → seen_by (parted_as a j part) ≡ seen_by j
    by parted.Merged = refl
    by parted.Last = seen-join j.plan j
    by parted.NoPlan = refl
    by parted.Range = refl
    by parted.Done = refl

-- ---- words

words : IsEquivalence (eq_by_cmp word_cmp)
words = eq_by_cmp_equiv nat_list_cmp_total

pub same_word : (v w : JobWord) → bytes_eq v w ≡ true → v ≡ w
same_word v w is = (bytes_eq-Decides v w).0 is

pub same_place : (v w : JobWord) → is_at (word_cmp v) w ≡ true → v ≡ w
same_place v w is = same_word v w (sym (is_eq-slice_cmp v w) ∙ is)

pub live-with_job : (s : Session) (v w : JobWord) (j k : Job) → live_job s v ≡ Some j → live_job (with_job s v k) w ≡ cond (bytes_eq w v) (Some k) (live_job s w)
live-with_job s v w j k is =
    lookup-set_value words (is_at (word_cmp v)) (words.congr v) w k s.jobs (ap is_some is)
    ∙ ap (λ b. cond b (Some k) (live_job s w)) (words.symm v w ∙ is_eq-slice_cmp w v)

-- ---- the job of a word and a number

module _ (w : JobWord) (number : ℕ) where
  -- The job sees this and has these numbers, as long as it is the live one of its word. No later job has its number.
  record Follows (x : Seen) (s : Session) : Type 0 where
    old : number ≤ s.greatest
    single : IsSingle (is_at (word_cmp w)) s.jobs
    sees : (j : Job) → live_job s w ≡ Some j → j.ids.job ≡ number → seen_by j ≡ x

  -- another state of a live job, after an operation or none
  follows_with : (x : Seen) (s : Session) (v : JobWord) (j k : Job) (o : Option Op) → live_job s v ≡ Some j → seen_by k ≡ seen_next (seen_by j) o → (b : Bool) → bytes_eq w v ≡ b → Follows x s → Follows (seen_next x (cond b o None)) (with_job s v k)
  follows_with x s v j k o is next b t f = record {
    old = f.old;
    single = single_set (is_at (word_cmp w)) (is_at (word_cmp v)) s.jobs k f.single;
    sees = λ i e n. by b t i n (ap (λ c. cond c (Some k) (live_job s w)) (sym t) ∙ sym (live-with_job s v w j k is) ∙ e);
  }
    where
      by : (c : Bool) → bytes_eq w v ≡ c → (i : Job) → i.ids.job ≡ number → cond c (Some k) (live_job s w) ≡ Some i → seen_by i ≡ seen_next x (cond c o None)
      by true same i n e =
          let k_is : k ≡ i = same_Some k i e in
          let numbered : j.ids.job ≡ number = sym (same_number (seen_by j) o) ∙ ap (λ (y : Seen). y.1.job) (sym next) ∙ ap (λ (l : Job). l.ids.job) k_is ∙ n in
          ap seen_by (sym k_is) ∙ next ∙ ap (λ (y : Seen). seen_next y o) (f.sees j (ap (live_job s) (same_word w v same) ∙ is) numbered)
      by false same i n e = f.sees i e n

  -- one that sees the same
  follows_same : (x : Seen) (s : Session) (v : JobWord) (j k : Job) → live_job s v ≡ Some j → seen_by k ≡ seen_by j → Follows x s → Follows x (with_job s v k)
  follows_same x s v j k is same f = by (bytes_eq w v) refl
    where
      by : (b : Bool) → bytes_eq w v ≡ b → Follows x (with_job s v k)
      by true t = follows_with x s v j k None is same true t f
      by false t = follows_with x s v j k None is same false t f

  follows_without : (x : Seen) (s : Session) (v : JobWord) → Follows x s → Follows x (without_job s v)
  follows_without x s v f = record {
    old = f.old;
    single = single_remove (is_at (word_cmp w)) (is_at (word_cmp v)) s.jobs f.single;
    sees = λ i e n. f.sees i (found_remove (is_at (word_cmp w)) (is_at (word_cmp v)) s.jobs i f.single e) n;
  }

  -- a new job has another number
  follows_new : (x : Seen) (s : Session) (v : JobWord) (k : Job) → live_job s v ≡ None → k.ids.job ≡ s.greatest + 1 → Follows x s → Follows x (with_new_job (record s { greatest = s.greatest + 1 }) v k)
  follows_new x s v k none is f = record {
    old = omega (arith, f.old);
    single = single_insert (is_at (word_cmp w)) word_cmp v k s.jobs (λ t. none_passes_from_lookup (is_at (word_cmp w)) s.jobs (ap (live_job s) (same_place w v t) ∙ none)) f.single;
    sees = λ i e n. ⊎_elim (λ k_is. absurd (omega (arith, f.old, is, ap (λ (l : Job). l.ids.job) k_is, n))) (λ was. f.sees i was n) (found_insert (is_at (word_cmp w)) word_cmp v k s.jobs i e);
  }

  -- ---- each command

  follows_begins : (x : Seen) (s : Session) (v : JobWord) (names : List SnapName) → Follows x s → Follows x (begins s v names).session
  follows_begins x s v names f = by (live_job s v) refl (is_full s) (list_all (is_published s.registry) names)
    where
      unless : (d : Option Publication) → live_job s v ≡ None → Follows x (begins_unless d s v (chosen s.registry names)).session
      unless None none = follows_new x s v _ none refl f
      unless (Some p) none = f

      by : (o : Option Job) → live_job s v ≡ o → (a b : Bool)
          → Follows x (cond (is_some o) (refused s word.LiveJob) (cond a (refused s word.Full) (cond b (begins_with s v (chosen s.registry names)) (refused s word.NoSnap)))).session
      by (Some j) is a b = f
      by None is true b = f
      by None is false true = unless (find is_damaged (chosen s.registry names)) is
      by None is false false = f

  follows_publishes : (x : Seen) (s : Session) (v : JobWord) (j : Job) (name : SnapName) → Follows x s → Follows x (publishes s v j name).session
  follows_publishes x s v j name f = by (is_published s.registry name) _
    where
      gone : Follows x (without_job s v)
      gone = follows_without x s v f

      by : (a b : Bool) → Follows x (cond a (refused s word.Taken) (cond b (refused s word.Full) (publishes_anew s v j name))).session
      by true b = f
      by false true = f
      by false false = record { old = gone.old; single = gone.single; sees = gone.sees }

  -- with the live job of a word, or without one
  follows_of_job : (x : Seen) (s : Session) (v : JobWord) (g : Job → Step) (y : Seen) → (live_job s v ≡ None → Follows y s) → ((j : Job) → live_job s v ≡ Some j → Follows y (g j).session) → Follows y (of_job s v g).session
  follows_of_job x s v g y none some = by (live_job s v) refl
    where
      by : (o : Option Job) → live_job s v ≡ o → Follows y (of_live o s g).session
      by None is = none is
      by (Some j) is = some j is

  -- without a live job of the word nothing is said of it
  follows_idle : (x : Seen) (s : Session) (v : JobWord) (o : Option Op) → live_job s v ≡ None → Follows x s → Follows (seen_next x (cond (bytes_eq w v) o None)) s
  follows_idle x s v o none f = by (bytes_eq w v) refl
    where
      by : (b : Bool) → bytes_eq w v ≡ b → Follows (seen_next x (cond b o None)) s
      by true t = record { old = f.old; single = f.single; sees = λ i e n. absurd (none-some i (sym none ∙ sym (ap (live_job s) (same_word w v t)) ∙ e)) }
      by false t = f

  follows_command : (x : Seen) (s : Session) (l : Line) → Follows x s → Follows (seen_next x (op_in w (Ok l))) (after_command s l).session
  follows_command x s Nothing f = f
  follows_command x s (Set what value) f = record { old = f.old; single = f.single; sees = f.sees }
  follows_command x s Snapshots f = f
  follows_command x s (Begin v names) f = follows_begins x s v names f
  follows_command x s (Space v op) f =
      follows_of_job x s v _ (seen_next x (cond (bytes_eq w v) (Some op) None)) (λ none. follows_idle x s v (Some op) none f) (λ j is. follows_with x s v j (after j (does j op)) (Some op) is (seen-after j op) (bytes_eq w v) refl f)
  follows_command x s (Flush v) f = follows_of_job x s v _ x (λ none. f) (λ j is. follows_same x s v j (after_flush j) is (seen-flush j) f)
  follows_command x s (PlanLine v scope parts) f = follows_of_job x s v _ x (λ none. f) (λ j is. follows_same x s v j (after_plan j scope parts) is (seen-plan j scope parts) f)
  follows_command x s (Part v part) f = follows_of_job x s v _ x (λ none. f) (λ j is. follows_same x s v j (after_part j part) is (seen-part j part) f)
  follows_command x s (Stats v) f = follows_of_job x s v _ x (λ none. f) (λ j is. f)
  follows_command x s (Publish v name) f = follows_of_job x s v _ x (λ none. f) (λ j is. follows_publishes x s v j name f)
  follows_command x s (End v) f = follows_of_job x s v _ x (λ none. f) (λ j is. follows_without x s v f)

  follows_line : (x : Seen) (s : Session) (m : Result Line LineFault) → Follows x s → Follows (seen_next x (op_in w m)) (after_meaning s m).session
  follows_line x s (Ok l) f = follows_command x s l f
  follows_line x s (Err Long) f = f
  follows_line x s (Err Syntax) f = f
  follows_line x s (Err NoMemory) f = f

  follows_lines : (x : Seen) (s : Session) (lines : List (List ℕ)) → Follows x s → Follows (seen_after x (ops_for w lines)) (session_after s lines)
  follows_lines x s [] f = f
  follows_lines x s (line ∷ lines) f =
      subst (λ y. Follows y (session_after (step s line).session lines)) (sym (seen_after-cons_option x (op_in w (meaning line)) (ops_for w lines)))
      (follows_lines (seen_next x (op_in w (meaning line))) (step s line).session lines (follows_line x s (meaning line) f))

-- ---- the line that begins the job

-- publications that are not damaged have change sets
selects : (registry : Registry) (names : List SnapName) → list_all (is_published registry) names ≡ true → find is_damaged (chosen registry names) ≡ None → selected_by registry names ≡ Some (changes_of (chosen registry names))
selects registry [] all whole = refl
selects registry (name ∷ names) all whole = by (published_as registry name) (selects registry names) all whole
  where
    cs : List Publication
    cs = chosen registry names

    has : (p : Publication) (c : Option Delta) → cond (not (is_some c)) (Some p) (find is_damaged cs) ≡ None → (find is_damaged cs ≡ None → selected_by registry names ≡ Some (changes_of cs))
        → option_and_then (λ d. option_map (λ ds. d ∷ ds) (selected_by registry names)) c ≡ Some (cons_option c (changes_of cs))
    has p None whole rest = absurd (none-some p (sym whole))
    has p (Some d) whole rest = ap (option_map (λ (ds : List Delta). d ∷ ds)) (rest whole)

    by : (o : Option Publication) → (list_all (is_published registry) names ≡ true → find is_damaged cs ≡ None → selected_by registry names ≡ Some (changes_of cs))
        → (is_some o && list_all (is_published registry) names) ≡ true → find is_damaged (cons_option o cs) ≡ None
        → option_and_then (λ d. option_map (λ ds. d ∷ ds) (selected_by registry names)) (option_and_then (λ (p : Publication). p.change) o) ≡ Some (changes_of (cons_option o cs))
    by None rest all whole = absurd (true≢false (sym all))
    by (Some p) rest all whole = has p p.change whole (rest all)

-- what a job sees when it begins
abbrev fresh : ℕ → List Delta → Seen
fresh number basis = (replay basis [], first_ids number)

abbrev HasBegun : ℕ → JobWord → Session → List SnapName → Session → Type 0
HasBegun number w s names t = (basis : List Delta) × (selected_by s.registry names ≡ Some basis) × Follows w number (fresh number basis) t

job_number : Reply → ℕ
job_number (JobReply n) = n
job_number _ = 0

is_job : Reply → Bool
is_job (JobReply n) = true
is_job _ = false

module _ (s : Session) (w : JobWord) (names : List SnapName) (number : ℕ) where
  begun_over : (basis : List Delta) → live_job s w ≡ None → s.greatest + 1 ≡ number → Follows w number (fresh number basis) (with_new_job (record s { greatest = s.greatest + 1 }) w (begun (s.greatest + 1) basis s.settings))
  begun_over basis none is = record {
    old = omega (arith, is);
    single = single_insert (is_at (word_cmp w)) word_cmp w new s.jobs (λ t. absent) (single_none (is_at (word_cmp w)) s.jobs absent);
    sees = λ i e n. ⊎_elim (λ new_is. ap seen_by (sym new_is) ∙ ap (λ m. fresh m basis) is) (λ was. absurd (none-some i (sym none ∙ was))) (found_insert (is_at (word_cmp w)) word_cmp w new s.jobs i e);
  }
    where
      new : Job
      new = begun (s.greatest + 1) basis s.settings

      absent : NonePasses (is_at (word_cmp w)) s.jobs
      absent = none_passes_from_lookup (is_at (word_cmp w)) s.jobs none

  begun_unless : (d : Option Publication) → live_job s w ≡ None → list_all (is_published s.registry) names ≡ true → find is_damaged (chosen s.registry names) ≡ d
      → (begins_unless d s w (chosen s.registry names)).reply ≡ JobReply number → HasBegun number w s names (begins_unless d s w (chosen s.registry names)).session
  unfolding job_number is_job
  begun_unless None none all whole r = (changes_of (chosen s.registry names), selects s.registry names all whole, begun_over (changes_of (chosen s.registry names)) none (ap job_number r))
  begun_unless (Some p) none all whole r = absurd (true≢false (sym (ap is_job r)))

  has_begun : (begins s w names).reply ≡ JobReply number → HasBegun number w s names (begins s w names).session
  unfolding is_job
  has_begun r = by (live_job s w) refl (is_full s) (list_all (is_published s.registry) names) refl r
    where
      by : (o : Option Job) → live_job s w ≡ o → (a b : Bool) → list_all (is_published s.registry) names ≡ b
          → (cond (is_some o) (refused s word.LiveJob) (cond a (refused s word.Full) (cond b (begins_with s w (chosen s.registry names)) (refused s word.NoSnap)))).reply ≡ JobReply number
          → HasBegun number w s names (cond (is_some o) (refused s word.LiveJob) (cond a (refused s word.Full) (cond b (begins_with s w (chosen s.registry names)) (refused s word.NoSnap)))).session
      by (Some j) is a b all r = absurd (true≢false (sym (ap is_job r)))
      by None is true b all r = absurd (true≢false (sym (ap is_job r)))
      by None is false true all r = begun_unless (find is_damaged (chosen s.registry names)) is all refl r
      by None is false false all r = absurd (true≢false (sym (ap is_job r)))

-- ---- the law

told_alone : (s : Session) (w : JobWord) (op : Op) (number : ℕ) (x : Seen) → Follows w number x s → live_number s w ≡ Some number
    → (of_job s w (λ j. operates s w j (does j op))).reply ≡ told (outcome x.0 x.1 op).answer
told_alone s w op number x f n = by (live_job s w) refl n
  where
    by : (o : Option Job) → live_job s w ≡ o → option_map (λ j. j.ids.job) o ≡ Some number → (of_live o s (λ j. operates s w j (does j op))).reply ≡ told (outcome x.0 x.1 op).answer
    by None is n = absurd (none-some number n)
    by (Some j) is n = ap (λ (y : Seen). told (outcome y.0 y.1 op).answer) (f.sees j is (same_Some j.ids.job number n))

pub isolated : IsIsolated
isolated settings registry earlier later begin line w names op number is_begin begun_as still is_line =
    let first = opened_with settings registry in
    let s = session_after first earlier in
    let t = (step s begin).session in
    let now = session_after t later in
    let b = has_begun s w names number (sym (ap (λ m. (after_meaning s m).reply) is_begin) ∙ begun_as) in
    let start = fresh number b.0 in
    let started : Follows w number start t = subst (λ m. Follows w number start (after_meaning s m).session) (sym is_begin) b.2 in
    let x = seen_after start (ops_for w later) in
    let follows : Follows w number x now = follows_lines w number start t later started in
    let split : session_after first (earlier ++ begin ∷ later) ≡ now = session_after-append first earlier (begin ∷ later) in
    record {
      basis = b.0;
      answers = answers_on start.0 start.1 (ops_for w later);
      last = (outcome x.0 x.1 op).answer;
      selected = b.1;
      alone_gets = answers-last start (ops_for w later) op;
      tells = ap (λ u. (step u line).reply) split ∙ ap (λ m. (after_meaning now m).reply) is_line ∙ told_alone now w op number x follows (sym (ap (λ u. live_number u w) split) ∙ still);
    }
