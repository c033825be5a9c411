-- What a script publishes: what was promised so far, and what is promised later.
use Rattle.std.proofs.Common.{◌≡◌, inl, inr, ◌⊎◌, ℕ, ◌+◌, ◌<◌, ◌≤◌, Bool, true, false, cond, List, [], ◌∷◌, ◌++◌, length, take, drop, map, Option, Some, None, Ok, Err, refl, sym, ap, subst, ◌∙◌, append_assoc, append-nil, length-append, arith}
use Rattle.std.proofs.lemmas.Bool.{le-leb, lt-leb, leb-true, leb-false}
use Rattle.std.proofs.lemmas.List.{map-append, length-take, take-append-drop}
use Rattle.std.proofs.lemmas.List.Sums.{sum_by-append, sum_by-cons}
use Rattle.std.proofs.Math.Seq.{drop-append_seam, drop-length, take-append_seam, take-append-add, get_or-append_seam}
use Rattle.std.proofs.lemmas.Option.{slice_get-get_or}
use Rattle.std.specs.Prelude.{Result, nat_le, slice_get, if◌then◌else◌, is_some, find, codes, decimal}
use Rattle.std.specs.List.{count_by, list_all, join_with_byte}
use Rattle.dfs_host.specs.Disk.{Image}
use Rattle.dfs_record.specs.declared.SnapName.{SnapName}
use Rattle.dfs_record.specs.KeyMap.{len}
use Rattle.dfs_reply.specs.declared.Reply.TheVariants.{Ok as OkReply, Published, Stats as StatsReply}
use Rattle.dfs_reply.specs.declared.Word.TheVariants as word
use Rattle.dfs_reply.specs.Text.{text}
use Rattle.dfs_script.specs.declared.JobWord.{JobWord}
use Rattle.dfs_script.specs.declared.Line.{Line}
use Rattle.dfs_script.specs.declared.Line.TheVariants.{Nothing, Set, Snapshots, Begin, Space, Flush, Plan, Part, Stats, Publish, End}
use Rattle.dfs_script.specs.declared.LineFault.{LineFault}
use Rattle.dfs_script.specs.declared.LineFault.TheVariants.{Long, Syntax, NoMemory}
use Rattle.dfs_script.specs.Line.{meaning}
use Rattle.dfs_script.specs.Script.{lines_of}
use Rattle.dfs_session.specs.Files.{value}
use Rattle.dfs_job.specs.Job.{Job, after_flush, does, key_count, own_changes, run_count}
use Rattle.dfs_session.specs.Run.{session_after, written, output, Promise, promise_of, promises, published}
use Rattle.dfs_session.specs.Session.{Session, Publication, Registry, Step, opened, step, after_meaning, after_command, begins, begins_unless, chosen, is_damaged, is_full, is_published, live_job, merges_with, of_live, operates, plans_with, publication_by, publishes, publishes_anew, refused, stays, with_job, without_job}
use Rattle.dfs_session.proofs.Runs.{written-append, promises-append}
use Rattle.deltafs.specs.Keeps.{acknowledged, IsAhead, KeepsReplies}
use Rattle.dfs_host.specs.Host.{HostState}
use Rattle.dfs_session.proofs.Writing.{logs_first}
use Rattle.dfs_session.specs.Writes.{LogsStay}

-- A step.

-- it adds a publication to the registry, and has a reply
pub record Publishes (before : Registry) (t : Step) : Type 0 where
  pub publication : Publication
  pub added : t.session.registry ≡ before ++ publication ∷ []
  pub replied : 0 < length (text t.reply)

abbrev pub Adds : Registry → Step → Type 0
Adds before t = (t.session.registry ≡ before) ⊎ Publishes before t

either_adds : (before : Registry) (b : Bool) (t u : Step) → Adds before t → Adds before u → Adds before (if b then t else u)
either_adds before true t u first second = first
either_adds before false t u first second = second

published_text : (name : SnapName) (count : ℕ) → 0 < length (text (Published name count))
published_text name count = omega (arith, length-append (join_with_byte 32 (codes "ok" ∷ codes "published" ∷ name ∷ decimal count ∷ [])) (10 ∷ []))

publishes_adds : (s : Session) (w : JobWord) (j : Job) (name : SnapName) → Adds s.registry (publishes s w j name)
publishes_adds s w j name =
    let anew = publishes_anew s w j name in
    either_adds s.registry (is_published s.registry name) (refused s word.Taken) (if nat_le 4096 (length s.registry) then refused s word.Full else anew) (inl refl)
    (either_adds s.registry (nat_le 4096 (length s.registry)) (refused s word.Full) anew (inl refl)
    (inr (record { publication = publication_by j name; added = refl; replied = published_text name (len (own_changes j)) })))

unless_adds : (o : Option Publication) (s : Session) (w : JobWord) (ps : List Publication) → Adds s.registry (begins_unless o s w ps)
unless_adds None s w ps = inl refl
unless_adds (Some p) s w ps = inl refl

begins_adds : (s : Session) (w : JobWord) (names : List SnapName) → Adds s.registry (begins s w names)
begins_adds s w names =
    let publications = chosen s.registry names in
    let with = begins_unless (find is_damaged publications) s w publications in
    let named = if list_all (is_published s.registry) names then with else refused s word.NoSnap in
    either_adds s.registry (is_some (live_job s w)) (refused s word.LiveJob) (if is_full s then refused s word.Full else named) (inl refl)
    (either_adds s.registry (is_full s) (refused s word.Full) named (inl refl)
    (either_adds s.registry (list_all (is_published s.registry) names) with (refused s word.NoSnap) (unless_adds (find is_damaged publications) s w publications) (inl refl)))

of_live_adds : (o : Option Job) (s : Session) (f : Job → Step) → ((j : Job) → Adds s.registry (f j)) → Adds s.registry (of_live o s f)
of_live_adds None s f each = inl refl
of_live_adds (Some j) s f each = each j

command_adds : (s : Session) (line : Line) → Adds s.registry (after_command s line)
command_adds s Nothing = inl refl
command_adds s (Set what value) = inl refl
command_adds s Snapshots = inl refl
command_adds s (Flush w) = of_live_adds (live_job s w) s (λ j. record { session = with_job s w (after_flush j); reply = OkReply }) (λ j. inl refl)
command_adds s (Plan w scope parts) = of_live_adds (live_job s w) s (λ j. plans_with s w j scope parts) (λ j. inl refl)
command_adds s (Part w part) = of_live_adds (live_job s w) s (λ j. merges_with s w j part) (λ j. inl refl)
command_adds s (Stats w) = of_live_adds (live_job s w) s (λ j. stays s (StatsReply (run_count j) (key_count j))) (λ j. inl refl)
command_adds s (Begin w names) = begins_adds s w names
command_adds s (Space w op) = of_live_adds (live_job s w) s (λ j. operates s w j (does j op)) (λ j. inl refl)
command_adds s (Publish w name) = of_live_adds (live_job s w) s (λ j. publishes s w j name) (λ j. publishes_adds s w j name)
command_adds s (End w) = of_live_adds (live_job s w) s (λ j. record { session = without_job s w; reply = OkReply }) (λ j. inl refl)

meaning_adds : (s : Session) (r : Result Line LineFault) → Adds s.registry (after_meaning s r)
meaning_adds s (Ok line) = command_adds s line
meaning_adds s (Err Long) = inl refl
meaning_adds s (Err Syntax) = inl refl
meaning_adds s (Err NoMemory) = inl refl

-- what it adds to the registry is nothing or one publication
pub step_adds : (s : Session) (line : List ℕ) → Adds s.registry (step s line)
step_adds s line = meaning_adds s (meaning line)

-- the promises of one step
abbrev pub promised : ℕ → Registry → Step → List Promise
promised at before t = map (promise_of at t) (drop (length before) t.session.registry)

promised_none : (at : ℕ) (before : Registry) (t : Step) → t.session.registry ≡ before → promised at before t ≡ []
promised_none at before t same = ap (map (promise_of at t)) (ap (drop (length before)) same ∙ drop-length before)

promised_one : (at : ℕ) (before : Registry) (t : Step) (p : Publishes before t) → promised at before t ≡ promise_of at t p.publication ∷ []
promised_one at before t p = ap (map (promise_of at t)) (ap (drop (length before)) p.added ∙ drop-append_seam before (p.publication ∷ []))

-- the publications alone
abbrev pub made : List Promise → Registry
made ps = map (λ p. p.publication) ps

step_grows : (at : ℕ) (before : Registry) (t : Step) → Adds before t → t.session.registry ≡ before ++ made (promised at before t)
step_grows at before t (inl same) = same ∙ sym (append-nil before) ∙ ap (λ (ps : List Promise). before ++ made ps) (sym (promised_none at before t same))
step_grows at before t (inr p) = p.added ∙ ap (λ (ps : List Promise). before ++ made ps) (sym (promised_one at before t p))

-- the registry after lines is the one before them and what they promise
pub registry_grows : (at : ℕ) (s : Session) (lines : List (List ℕ)) → (session_after s lines).registry ≡ s.registry ++ made (promises at s lines)
registry_grows at s [] = sym (append-nil s.registry)
registry_grows at s (l ∷ ls) =
    let t = step s l in
    let end = at + length (text t.reply) in
    registry_grows end t.session ls
    ∙ ap (λ (registry : Registry). registry ++ made (promises end t.session ls)) (step_grows at s.registry t (step_adds s l))
    ∙ append_assoc s.registry (made (promised at s.registry t)) (made (promises end t.session ls))
    ∙ ap (λ (ps : Registry). s.registry ++ ps) (sym (map-append (λ (p : Promise). p.publication) (promised at s.registry t) (promises end t.session ls)))

-- the logs of the publications that there were before these lines
pub old_logs : (before after : HostState) (old : Registry) (lines : List (List ℕ)) → LogsStay (session_after (opened old) lines).registry before after → LogsStay old before after
old_logs before after old lines all = logs_first before after old (made (promises 0 (opened old) lines)) (subst (λ (registry : Registry). LogsStay registry before after) (registry_grows 0 (opened old) lines) all)

-- Those that end within so many bytes.

abbrev pub ended_by : ℕ → List Promise → ℕ
ended_by n ps = count_by (λ p. nat_le p.end n) ps

pub ended-append : (n : ℕ) (ps qs : List Promise) → ended_by n (ps ++ qs) ≡ ended_by n ps + ended_by n qs
ended-append n ps qs = sum_by-append (λ p. cond (nat_le p.end n) 1 0) ps qs

pub ended_yes : (n : ℕ) (p : Promise) (ps : List Promise) → p.end ≤ n → ended_by n (p ∷ ps) ≡ 1 + ended_by n ps
ended_yes n p ps within = sum_by-cons (λ (q : Promise). cond (nat_le q.end n) 1 0) p ps ∙ ap (λ (b : Bool). cond b 1 0 + ended_by n ps) (le-leb p.end n within)

pub ended_no : (n : ℕ) (p : Promise) (ps : List Promise) → n < p.end → ended_by n (p ∷ ps) ≡ ended_by n ps
ended_no n p ps below = sum_by-cons (λ (q : Promise). cond (nat_le q.end n) 1 0) p ps ∙ ap (λ (b : Bool). cond b 1 0 + ended_by n ps) (lt-leb p.end n below) ∙ omega arith

ended_here : (at n : ℕ) (before : Registry) (t : Step) (rest : List Promise) → Adds before t → at + length (text t.reply) ≤ n → ended_by n rest ≡ length rest → ended_by n (promised at before t ++ rest) ≡ length (promised at before t ++ rest)
ended_here at n before t rest (inl same) within behind = subst (λ (ps : List Promise). ended_by n (ps ++ rest) ≡ length (ps ++ rest)) (sym (promised_none at before t same)) behind
ended_here at n before t rest (inr p) within behind =
    let more : 1 + ended_by n rest ≡ length (promise_of at t p.publication ∷ rest) = omega (arith, behind) in
    subst (λ (ps : List Promise). ended_by n (ps ++ rest) ≡ length (ps ++ rest)) (sym (promised_one at before t p)) (ended_yes n (promise_of at t p.publication) rest within ∙ more)

-- all promises of lines end within what they write
pub all_ended : (at n : ℕ) (s : Session) (lines : List (List ℕ)) → at + length (written s lines) ≤ n → ended_by n (promises at s lines) ≡ length (promises at s lines)
all_ended at n s [] within = refl
all_ended at n s (l ∷ ls) within =
    let t = step s l in
    let end = at + length (text t.reply) in
    let long : end + length (written t.session ls) ≤ n = omega (arith, within, length-append (text t.reply) (written t.session ls)) in
    ended_here at n s.registry t (promises end t.session ls) (step_adds s l) (omega (arith, long)) (all_ended end n t.session ls long)

open_here : (at n : ℕ) (before : Registry) (t : Step) (rest : List Promise) → Adds before t → n ≤ at → ended_by n rest ≡ 0 → ended_by n (promised at before t ++ rest) ≡ 0
open_here at n before t rest (inl same) least behind = ap (λ (ps : List Promise). ended_by n (ps ++ rest)) (promised_none at before t same) ∙ behind
open_here at n before t rest (inr p) least behind =
    ap (λ (ps : List Promise). ended_by n (ps ++ rest)) (promised_one at before t p)
    ∙ ended_no n (promise_of at t p.publication) rest (omega (arith, least, p.replied))
    ∙ behind

-- and none of them before it
pub none_ended : (at n : ℕ) (s : Session) (lines : List (List ℕ)) → n ≤ at → ended_by n (promises at s lines) ≡ 0
none_ended at n s [] least = refl
none_ended at n s (l ∷ ls) least =
    let t = step s l in
    let end = at + length (text t.reply) in
    open_here at n s.registry t (promises end t.session ls) (step_adds s l) least (none_ended end n t.session ls (omega (arith, least)))

-- An image keeps the promise.

nth : {X : Type 0} (xs ys : List X) (x : X) → slice_get (xs ++ x ∷ ys) (length xs) ≡ Some x
nth xs ys x = slice_get-get_or (xs ++ x ∷ ys) (length xs) x (omega (arith, length-append xs (x ∷ ys))) ∙ ap Some (get_or-append_seam xs x ys x)

first_one : {X : Type 0} (xs ys : List X) (x : X) → take (length xs + 1) (xs ++ x ∷ ys) ≡ xs ++ x ∷ []
first_one xs ys x = take-append-add xs (x ∷ ys) 1

-- with the acknowledged publications
with_acknowledged : (old : Registry) (script : List ℕ) (image : Image) (unsaid : List ℕ) (ps qs : List Promise) → output old script ≡ image.said ++ unsaid → published old script ≡ ps ++ qs
    → ended_by (length image.said) (ps ++ qs) ≡ length ps → value image.files ≡ Some (old ++ made ps) → KeepsReplies old script image
with_acknowledged old script image unsaid ps qs begins all count holds = record {
  unsaid = unsaid;
  begins = begins;
  stands = inl (holds ∙ ap (λ (l : List Promise). Some (old ++ made l)) (sym (ap (λ (l : List Promise). take (acknowledged image.said l) l) all ∙ ap (λ (n : ℕ). take n (ps ++ qs)) count ∙ take-append_seam ps qs)));
}

-- with one more
with_next : (old : Registry) (script : List ℕ) (image : Image) (unsaid : List ℕ) (ps qs : List Promise) (p : Promise) → output old script ≡ image.said ++ unsaid → published old script ≡ ps ++ p ∷ qs
    → ended_by (length image.said) (ps ++ p ∷ qs) ≡ length ps → p.start ≤ length image.said → value image.files ≡ Some (old ++ made (ps ++ p ∷ [])) → KeepsReplies old script image
with_next old script image unsaid ps qs p begins all count reached holds = record {
  unsaid = unsaid;
  begins = begins;
  stands = inr (subst (λ (l : List Promise). IsAhead old l image) (sym all) (record {
    next = p;
    is_next = ap (slice_get (ps ++ p ∷ qs)) count ∙ nth ps qs p;
    reached = reached;
    stands = holds ∙ ap (λ (l : List Promise). Some (old ++ made l)) (sym (ap (λ (n : ℕ). take (n + 1) (ps ++ p ∷ qs)) count ∙ first_one ps qs p));
  }));
}

-- an image that has said the front of the reply of a step, and holds what the step left
keeps_step : (old : Registry) (script : List ℕ) (image : Image) (unsaid : List ℕ) (ps later : List Promise) (before : Registry) (t : Step) (at : ℕ) → Adds before t → before ≡ old ++ made ps → output old script ≡ image.said ++ unsaid
    → published old script ≡ ps ++ (promised at before t ++ later) → at ≤ length image.said → length image.said ≤ at + length (text t.reply)
    → ended_by (length image.said) ps ≡ length ps → ended_by (length image.said) later ≡ 0 → value image.files ≡ Some t.session.registry → KeepsReplies old script image
keeps_step old script image unsaid ps later before t at (inl same) grown begins all least most earlier none holds =
    with_acknowledged old script image unsaid ps later begins
    (all ∙ ap (λ (l : List Promise). ps ++ (l ++ later)) (promised_none at before t same))
    (omega (arith, ended-append (length image.said) ps later, earlier, none))
    (holds ∙ ap Some (same ∙ grown))
keeps_step old script image unsaid ps later before t at (inr p) grown begins all least most earlier none holds = by (nat_le (at + length (text t.reply)) (length image.said)) refl
  where
    one : published old script ≡ ps ++ promise_of at t p.publication ∷ later
    one = all ∙ ap (λ (l : List Promise). ps ++ (l ++ later)) (promised_one at before t p)

    files : value image.files ≡ Some (old ++ made (ps ++ promise_of at t p.publication ∷ []))
    files =
        holds
        ∙ ap Some (p.added
        ∙ ap (λ (registry : Registry). registry ++ p.publication ∷ []) grown
        ∙ append_assoc old (made ps) (p.publication ∷ [])
        ∙ ap (λ (registry : Registry). old ++ registry) (sym (map-append (λ (q : Promise). q.publication) ps (promise_of at t p.publication ∷ []))))

    by : (b : Bool) → nat_le (at + length (text t.reply)) (length image.said) ≡ b → KeepsReplies old script image
    by true is =
        let within : at + length (text t.reply) ≤ length image.said = leb-true (at + length (text t.reply)) (length image.said) is in
        with_acknowledged old script image unsaid (ps ++ promise_of at t p.publication ∷ []) later begins
        (one ∙ sym (append_assoc ps (promise_of at t p.publication ∷ []) later))
        (omega (
          arith,
          ended-append (length image.said) (ps ++ promise_of at t p.publication ∷ []) later,
          ended-append (length image.said) ps (promise_of at t p.publication ∷ []),
          ended_yes (length image.said) (promise_of at t p.publication) [] within,
          length-append ps (promise_of at t p.publication ∷ []),
          earlier,
          none,
        ))
        files
    by false is =
        let below : length image.said < at + length (text t.reply) = leb-false (at + length (text t.reply)) (length image.said) is in
        with_next old script image unsaid ps later (promise_of at t p.publication) begins one
        (omega (
          arith,
          ended-append (length image.said) ps (promise_of at t p.publication ∷ later),
          ended_no (length image.said) (promise_of at t p.publication) later below,
          earlier,
          none,
        ))
        least files

module _ (old : Registry) (script : List ℕ) (before : List (List ℕ)) where
  pub grown : (session_after (opened old) before).registry ≡ old ++ made (promises 0 (opened old) before)
  grown = registry_grows 0 (opened old) before

  pub published_is : (after : List (List ℕ)) → lines_of script ≡ before ++ after
      → published old script ≡ promises 0 (opened old) before ++ promises (length (written (opened old) before)) (session_after (opened old) before) after
  published_is after cut =
      let same : 0 + length (written (opened old) before) ≡ length (written (opened old) before) = omega arith in
      ap (promises 0 (opened old)) cut
      ∙ promises-append 0 (opened old) before after
      ∙ ap (λ (n : ℕ). promises 0 (opened old) before ++ promises n (session_after (opened old) before) after) same

  output_is : (after : List (List ℕ)) → lines_of script ≡ before ++ after → output old script ≡ written (opened old) before ++ written (session_after (opened old) before) after
  output_is after cut = ap (written (opened old)) cut ∙ written-append (opened old) before after

  -- an image that has said the replies to these lines, and holds what they left
  pub keeps_before : (after : List (List ℕ)) → lines_of script ≡ before ++ after → (image : Image) → image.said ≡ written (opened old) before → value image.files ≡ Some (session_after (opened old) before).registry → KeepsReplies old script image
  keeps_before after cut image said holds =
      let ps = promises 0 (opened old) before in
      let qs = promises (length (written (opened old) before)) (session_after (opened old) before) after in
      let n = length image.said in
      let long : n ≡ length (written (opened old) before) = ap length said in
      with_acknowledged old script image (written (session_after (opened old) before) after) ps qs
      (output_is after cut ∙ ap (λ (l : List ℕ). l ++ written (session_after (opened old) before) after) (sym said))
      (published_is after cut)
      (omega (arith, ended-append n ps qs, all_ended 0 n (opened old) before (omega (arith, long)), none_ended (length (written (opened old) before)) n (session_after (opened old) before) after (omega (arith, long))))
      (holds ∙ ap Some grown)

  -- an image that has said them and the front of the reply to one line more, and holds what that line left
  pub keeps_into : (line : List ℕ) (after : List (List ℕ)) → lines_of script ≡ before ++ line ∷ after → (image : Image) (count : ℕ)
      → image.said ≡ written (opened old) before ++ take count (text (step (session_after (opened old) before) line).reply)
      → value image.files ≡ Some (step (session_after (opened old) before) line).session.registry → KeepsReplies old script image
  keeps_into line after cut image count said holds =
      let s = session_after (opened old) before in
      let t = step s line in
      let at = length (written (opened old) before) in
      let reply = text t.reply in
      let behind = written t.session after in
      let n = length image.said in
      let long : n ≡ at + length (take count reply) = ap length said ∙ length-append (written (opened old) before) (take count reply) in
      keeps_step old script image (drop count reply ++ behind) (promises 0 (opened old) before) (promises (at + length reply) t.session after) s.registry t at (step_adds s line) grown
      (output_is (line ∷ after) cut
      ∙ ap (λ (l : List ℕ). written (opened old) before ++ (l ++ behind)) (sym (take-append-drop count reply))
      ∙ ap (λ (l : List ℕ). written (opened old) before ++ l) (append_assoc (take count reply) (drop count reply) behind)
      ∙ sym (append_assoc (written (opened old) before) (take count reply) (drop count reply ++ behind))
      ∙ ap (λ (l : List ℕ). l ++ (drop count reply ++ behind)) (sym said))
      (published_is (line ∷ after) cut)
      (omega (arith, long))
      (omega (arith, long, length-take count reply))
      (all_ended 0 n (opened old) before (omega (arith, long)))
      (none_ended (at + length reply) n t.session after (omega (arith, long, length-take count reply)))
      holds
