-- What a run ends with that no fault stops, and what it told each job.
use Rattle.std.proofs.Common.{◌≡◌, ◌∙◌, ◌≤◌, [], ◌<◌, ℕ, List, ◌∷◌, ◌++◌, length, Option, Some, None, take, drop, refl, sym, ap, subst, arith, append-nil, append_assoc, length-append, inl, inr, ⊎_elim}
use Rattle.std.proofs.lemmas.List.{take-append-drop, take-append-le}
use Rattle.std.proofs.Math.Seq.{take-append_seam}
use Rattle.dfs_gen.specs.Script.{script as generated}
use Rattle.dfs_host.specs.Counts.{Rose}
use Rattle.dfs_registry.specs.declared.fault.RegFault.{RegFault}
use Rattle.dfs_registry.specs.declared.fault.RegFault.TheVariants as reg
use Rattle.dfs_reply.specs.Text.{text}
use Rattle.dfs_script.specs.Script.{ended_lines, lines_of}
use Rattle.deltafs.proofs.Turns.{lines_continue}
use Rattle.dfs_session.specs.Room.{HaveRoom}
use Rattle.dfs_session.specs.Run.{output, session_after, written}
use Rattle.dfs_session.specs.Session.{Registry, Session, default_settings, opened, step}
use Rattle.dfs_session.proofs.Alone.{isolated}
use Rattle.dfs_session.proofs.Rooms.{never_short, none_single}
use Rattle.dfs_session.proofs.Runs.{written-append}
use Rattle.deltafs.specs.declared.status.Status.{Status}
use Rattle.deltafs.specs.declared.status.Status.TheVariants.{Done, Usage, NotRegistry, RegistryDamaged, DiskFault, OutputFault, SourceFault, NoMemory, LogFull, ScriptTooLong, Changed}
use Rattle.deltafs.specs.declared.words.Command.{Command}
use Rattle.deltafs.specs.declared.words.Command.TheVariants.{Run, Gen}
use Rattle.deltafs.specs.Causes.{DiskFaultsOf, SayFaultsOf, SourceFaultsOf}
use Rattle.deltafs.specs.Commands.{IsUnopened, Says}
use Rattle.deltafs.specs.Complete.{IsCompleted, JobsHaveRoom}
use Rattle.deltafs.specs.Isolated.{AreIsolated}
use Rattle.deltafs.specs.Refusals.{status_of}
use Rattle.deltafs.specs.Says.{SaysReplies, StopsInto, StopsShort, StopsTaken, Untaken}

-- no run of jobs that have room stops at a full log
never_full : (old : Registry) (heard : List (List ℕ) → List ℕ) (script said : List ℕ) (files : Option Registry) → HaveRoom (opened old) (lines_of script) → StopsShort (opened old) heard script said files → ⊥
never_full old heard script said files room stops =
    never_short (opened old) stops.before stops.line stops.after (none_single old) (subst (λ lines. HaveRoom (opened old) lines) stops.cut room) stops.short

-- no fault where no count rose
pub no_disk_fault : (status : Status) (a b : ℕ) → DiskFaultsOf status a b → ¬ (Rose a b) → status ≡ DiskFault → ⊥
no_disk_fault status a b faults none is = none ((subst (λ s. DiskFaultsOf s a b) is faults).1)

pub no_output_fault : (status : Status) (a b : ℕ) → SayFaultsOf status a b → ¬ (Rose a b) → status ≡ OutputFault → ⊥
no_output_fault status a b faults none is = none ((subst (λ s. SayFaultsOf s a b) is faults).1)

pub no_source_fault : (status : Status) (a b : ℕ) → SourceFaultsOf status a b → ¬ (Rose a b) → status ≡ SourceFault → ⊥
no_source_fault status a b faults none is = none ((subst (λ s. SourceFaultsOf s a b) is faults).1)

module _ (old : Registry) (limit : ℕ) (script rest said : List ℕ) (files : Option Registry) where
  completes_idle : (status : Status) → IsUnopened status old script rest said files → (status ≡ DiskFault → ⊥) → IsCompleted status
  completes_idle Done unopened disk = tt
  completes_idle Usage unopened disk = unopened
  completes_idle NotRegistry unopened disk = unopened
  completes_idle (RegistryDamaged place) unopened disk = unopened
  completes_idle DiskFault unopened disk = disk refl
  completes_idle OutputFault unopened disk = unopened
  completes_idle SourceFault unopened disk = unopened
  completes_idle NoMemory unopened disk = tt
  completes_idle LogFull unopened disk = unopened
  completes_idle ScriptTooLong unopened disk = unopened
  completes_idle Changed unopened disk = unopened

  completes_lines : (status : Status) → HaveRoom (opened old) (lines_of script) → length script < limit → SaysReplies status old script rest said files → Untaken status limit script rest
      → (status ≡ DiskFault → ⊥) → (status ≡ OutputFault → ⊥) → (status ≡ SourceFault → ⊥) → (status ≡ Changed → ⊥) → IsCompleted status
  completes_lines Done room within says untaken disk output input changed = tt
  completes_lines Usage room within says untaken disk output input changed = says
  completes_lines NotRegistry room within says untaken disk output input changed = says
  completes_lines (RegistryDamaged place) room within says untaken disk output input changed = says
  completes_lines DiskFault room within says untaken disk output input changed = disk refl
  completes_lines OutputFault room within says untaken disk output input changed = output refl
  completes_lines SourceFault room within says untaken disk output input changed = input refl
  completes_lines NoMemory room within says untaken disk output input changed = tt
  completes_lines LogFull room within says untaken disk output input changed = never_full old _ script said files room says
  completes_lines ScriptTooLong room within says untaken disk output input changed =
      let takes = untaken.0 in
      let limit_taken : length takes.taken ≡ limit = untaken.1 in
      absurd (omega (arith, within, limit_taken, ap length takes.whole, length-append takes.taken rest))
  completes_lines Changed room within says untaken disk output input changed = changed refl

  pub completes_run : (status : Status) → HaveRoom (opened old) (lines_of script) → length script < limit → Says (Some Run) status old script rest said files → Untaken status limit script rest
      → (status ≡ DiskFault → ⊥) → (status ≡ OutputFault → ⊥) → (status ≡ SourceFault → ⊥) → (status ≡ Changed → ⊥) → IsCompleted status
  completes_run status room within (inl unopened) untaken disk output input changed = completes_idle status unopened disk
  completes_run status room within (inr says) untaken disk output input changed = completes_lines status room within says untaken disk output input changed

  pub completes_gen : (creates : ℕ) (status : Status) → HaveRoom (opened old) (lines_of (generated creates)) → Says (Some (Gen creates)) status old script rest said files
      → (status ≡ DiskFault → ⊥) → (status ≡ OutputFault → ⊥) → (status ≡ Changed → ⊥) → IsCompleted status
  completes_gen creates Done room says disk output changed = tt
  completes_gen creates Usage room says disk output changed = says
  completes_gen creates NotRegistry room says disk output changed = says
  completes_gen creates (RegistryDamaged place) room says disk output changed = says
  completes_gen creates DiskFault room says disk output changed = disk refl
  completes_gen creates OutputFault room says disk output changed = output refl
  completes_gen creates SourceFault room says disk output changed = says
  completes_gen creates NoMemory room says disk output changed = tt
  completes_gen creates LogFull room says disk output changed = never_full old _ (generated creates) said files room says
  completes_gen creates ScriptTooLong room says disk output changed = says
  completes_gen creates Changed room says disk output changed = changed refl

  -- a registry that stands is opened, but for want of memory
  pub completes_unopened : (command : Option Command) (fault : RegFault) → JobsHaveRoom command old script → Says command (status_of fault) old script rest said files → (status_of fault ≡ DiskFault → ⊥) → IsCompleted (status_of fault)
  completes_unopened None fault room says disk = absurd room
  completes_unopened (Some Run) reg.NotRegistry room says disk = ⊎_elim (λ no. absurd no) (λ no. absurd no) says
  completes_unopened (Some Run) (reg.Damaged place) room says disk = ⊎_elim (λ no. absurd no) (λ no. absurd no) says
  completes_unopened (Some Run) reg.NoMemory room says disk = tt
  completes_unopened (Some Run) reg.Disk room says disk = disk refl
  completes_unopened (Some (Gen creates)) reg.NotRegistry room says disk = says
  completes_unopened (Some (Gen creates)) (reg.Damaged place) room says disk = says
  completes_unopened (Some (Gen creates)) reg.NoMemory room says disk = tt
  completes_unopened (Some (Gen creates)) reg.Disk room says disk = disk refl

pub disk_unopened : (fault : RegFault) → status_of fault ≡ DiskFault → fault ≡ reg.Disk
disk_unopened reg.NotRegistry is = absurd (cc is)
disk_unopened (reg.Damaged place) is = absurd (cc is)
disk_unopened reg.NoMemory is = absurd (cc is)
disk_unopened reg.Disk is = refl

pub none_by : (o : Option Command) → ((x : Command) → o ≡ Some x → ⊥) → o ≡ None
none_by None never = refl
none_by (Some x) never = absurd (never x refl)

-- words that ask for nothing have no script
pub no_words : (command : Option Command) (old : Registry) (script : List ℕ) → command ≡ None → JobsHaveRoom command old script → ⊥
no_words command old script none room = subst (λ k. JobsHaveRoom k old script) none room

-- ---- what each job was told

-- What was said begins what the script writes.
abbrev Begins : Registry → List ℕ → List ℕ → Type 0
Begins old script said = (unsaid : List ℕ) × (output old script ≡ said ++ unsaid)

begins_before : (old : Registry) (script said : List ℕ) (before after : List (List ℕ)) → lines_of script ≡ before ++ after → said ≡ written (opened old) before → Begins old script said
begins_before old script said before after cut is =
    (written (session_after (opened old) before) after, ap (written (opened old)) cut ∙ written-append (opened old) before after ∙ ap (λ (l : List ℕ). l ++ written (session_after (opened old) before) after) (sym is))

first_written : (s : Session) (line : List ℕ) (after : List (List ℕ)) → written s (line ∷ after) ≡ text (step s line).reply ++ written (step s line).session after
first_written s line after = refl

-- the reply to a line stands behind what the lines before it write
heard_behind : (s : Session) (lines after : List (List ℕ)) (line : List ℕ) (t : Session) → session_after s lines ≡ t → written s (lines ++ line ∷ after) ≡ written s lines ++ text (step t line).reply ++ written (step t line).session after
heard_behind s lines after line t is =
    written-append s lines (line ∷ after) ∙ ap (λ (x : Session). written s lines ++ written x (line ∷ after)) is ∙ ap (λ (l : List ℕ). written s lines ++ l) (first_written t line after)
    ∙ sym (append_assoc (written s lines) (text (step t line).reply) (written (step t line).session after))

begins_into : (old : Registry) (script said : List ℕ) (files : Option Registry) → StopsInto (opened old) script said files → Begins old script said
begins_into old script said files stops =
    let s = opened old in
    let t = session_after s stops.before in
    let more = written (step t stops.line).session stops.after in (
      stops.unsaid ++ more,
      ap (written s) stops.cut
          ∙ heard_behind s stops.before stops.after stops.line t refl
          ∙ ap (λ (l : List ℕ). written s stops.before ++ l ++ more) stops.reply
          ∙ ap (λ (l : List ℕ). l ++ more) (sym (append_assoc (written s stops.before) stops.front stops.unsaid))
          ∙ append_assoc (written s stops.before ++ stops.front) stops.unsaid more
          ∙ ap (λ (l : List ℕ). l ++ (stops.unsaid ++ more)) (sym stops.said_into),
    )

begins_taken : (old : Registry) (script rest said : List ℕ) (files : Option Registry) → StopsTaken (opened old) script rest said files → Begins old script said
begins_taken old script rest said files stops =
    let cut = lines_continue stops.takes.taken rest in
    begins_before old script said (ended_lines stops.takes.taken) cut.after (ap lines_of stops.takes.whole ∙ cut.cut) stops.said_taken

begins_lines : (old : Registry) (script rest said : List ℕ) (files : Option Registry) (status : Status) → SaysReplies status old script rest said files → Begins old script said
begins_lines old script rest said files Done says = ([], sym says.said_all ∙ sym (append-nil said))
begins_lines old script rest said files Usage says = absurd says
begins_lines old script rest said files NotRegistry says = absurd says
begins_lines old script rest said files (RegistryDamaged place) says = absurd says
begins_lines old script rest said files DiskFault says = begins_before old script said says.before (says.line ∷ says.after) says.cut says.said_before
begins_lines old script rest said files OutputFault says = begins_into old script said files says
begins_lines old script rest said files SourceFault says = begins_taken old script rest said files says
begins_lines old script rest said files NoMemory says = begins_before old script said says.before (says.line ∷ says.after) says.cut says.said_before
begins_lines old script rest said files LogFull says = begins_before old script said says.before (says.line ∷ says.after) says.cut says.said_before
begins_lines old script rest said files ScriptTooLong says = begins_taken old script rest said files says
begins_lines old script rest said files Changed says = begins_before old script said says.before (says.line ∷ says.after) says.cut says.said_before

begins_silent : (old : Registry) (script said : List ℕ) → said ≡ [] → Begins old script said
begins_silent old script said none = (output old script, ap (λ (l : List ℕ). l ++ output old script) (sym none))

begins_idle : (old : Registry) (script rest said : List ℕ) (files : Option Registry) (status : Status) → IsUnopened status old script rest said files → Begins old script said
begins_idle old script rest said files Done unopened = absurd unopened
begins_idle old script rest said files Usage unopened = absurd unopened
begins_idle old script rest said files NotRegistry unopened = absurd unopened
begins_idle old script rest said files (RegistryDamaged place) unopened = absurd unopened
begins_idle old script rest said files DiskFault unopened = begins_silent old script said unopened.0
begins_idle old script rest said files OutputFault unopened = absurd unopened
begins_idle old script rest said files SourceFault unopened = absurd unopened
begins_idle old script rest said files NoMemory unopened = begins_silent old script said unopened.none_said
begins_idle old script rest said files LogFull unopened = absurd unopened
begins_idle old script rest said files ScriptTooLong unopened = absurd unopened
begins_idle old script rest said files Changed unopened = absurd unopened

begins_run : (old : Registry) (script rest said : List ℕ) (files : Option Registry) (status : Status) → Says (Some Run) status old script rest said files → Begins old script said
begins_run old script rest said files status says = ⊎_elim (begins_idle old script rest said files status) (begins_lines old script rest said files status) says

-- of what begins a text, so much of the text's front is there as is long enough
front_said : (front more said unsaid : List ℕ) → front ++ more ≡ said ++ unsaid → length front ≤ length said → said ≡ front ++ drop (length front) said
front_said front more said unsaid same long =
    sym (take-append-drop (length front) said)
    ∙ ap (λ (l : List ℕ). l ++ drop (length front) said) (sym (take-append-le (length front) said unsaid long) ∙ ap (take (length front)) (sym same) ∙ take-append_seam front more)

pub tells_isolated : (old : Registry) (script rest said : List ℕ) (files : Option Registry) (command : Option Command) (status : Status) → command ≡ Some Run → Says command status old script rest said files → AreIsolated old script said
tells_isolated old script rest said files command status run says earlier later after begin line w names op number cut long is_begin begun still is_line =
    let lines = earlier ++ begin ∷ later in
    let now = session_after (opened old) lines in
    let reply = (step now line).reply in
    let front = written (opened old) lines ++ text reply in
    let begins = begins_run old script rest said files status (subst (λ k. Says k status old script rest said files) run says) in
    record {
      reply = reply;
      more = drop (length front) said;
      heard = front_said front (written (step now line).session after) said begins.0 (sym (ap (written (opened old)) cut ∙ heard_behind (opened old) lines after line now refl) ∙ begins.1) long;
      alone = isolated default_settings old earlier later begin line w names op number is_begin begun still is_line;
    }
