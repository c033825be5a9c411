use Rattle.std.proofs.Common.{◌≡◌, ◌∙◌, ℕ, true, false, List, Some, None, Result, Err, length, map, refl, sym, ap, subst}
use Rattle.std.proofs.lemmas.Result.{err_from_is_err_and}
use Rattle.std.specs.Prelude.{◌||◌, nat_le, IsTrue}
use Rattle.std.specs.Global.{Vec}
use Rattle.std.specs.List.{list_all}
use Rattle.dfs_host.specs.Fault.{HasFaultCause}
use Rattle.dfs_host.specs.Host.{bytes_of}
use Rattle.dfs_host.specs.declared.fault.Fault.{Fault}
use Rattle.dfs_host.specs.declared.fault.Fault.TheVariants.{Disk}
use Rattle.dfs_host.proofs.Causes.{none_yet, none_by}
use Rattle.dfs_record.specs.Delta.{Delta}
use Rattle.dfs_change.specs.declared.change.Change.{Change}
use Rattle.dfs_reply.specs.declared.Reply.TheVariants.{Error, Damaged as DamagedReply}
use Rattle.dfs_reply.specs.declared.Word.TheVariants as word
use Rattle.dfs_session.specs.declared.selection.Selection.{Selection}
use Rattle.dfs_session.specs.declared.selection.Selection.TheVariants.{Damaged}
use Rattle.dfs_session.specs.Files.{publications_of}
use Rattle.dfs_session.specs.Reads.{HasFirstReads}
use Rattle.dfs_session.specs.Selected.{AreChosen, AreEntries, AreInside, AreNamedBy, is_listed, is_selected, chosen_in, IsSelection}
use Rattle.dfs_session.specs.Session.{changes_of, stays}
use Rattle.dfs_session.specs.Sound.{jobs_of, listed_in}
use Rattle.dfs_session.specs.Worked.{IsWorked, beginning, beginning_over}
use Rattle.dfs_session.proofs.Begun.{names_kept}
use Rattle.dfs_session.proofs.Choosing.{begins_as, begins_chosen, begins_no_error, after_reads, read_fault_worked}
use Rattle.dfs_session.proofs.Kept.{all_opened, sound_reads, zip_read}
use Rattle.dfs_session.proofs.Reading.{begun_once, none_begun, session_knows}
use Rattle.dfs_session.proofs.Selecting.{no_fault}
use Rattle.dfs_session.proofs.Working.{on_ok, on_ok_by, stays_in_memory, stays_worked}
use Rattle.dfs_host.proofs.Moments.{reads_nothing}
use Rattle.dfs_session.specs.Session.{Step}
use Rattle.dfs_session.specs.Worked.{IsRefusal}
use Rattle.dfs_session.proofs.session.Session.begin.Goals as goal

pub returns-then-contains_key-clause-worked : goal.returns-then-contains_key-clause-worked
returns-then-contains_key-clause-worked g c =
    let session = c.args.self.now in
    let host = g.H.Host.state c.args.host.now in
    let names = c.args.names.now in
    stays_in_memory host session session.jobs (beginning c.args.word names) (Error word.LiveJob) c.text_of.result refl refl c.requires
    (λ s tells stands. begins_as host session s c.args.word names stands true (nat_le 64 (length (jobs_of session)) || nat_le 4294967294 session.greatest) (list_all (is_listed (listed_in session)) names) c.if-contains_key.ensures refl refl)
    c.text_of.ensures.text c.text_of.ensures.memory

pub returns-then-is_full-clause-worked : goal.returns-then-is_full-clause-worked
returns-then-is_full-clause-worked g c =
    let session = c.args.self.now in
    let host = g.H.Host.state c.args.host.now in
    let names = c.args.names.now in
    stays_in_memory host session session.jobs (beginning c.args.word names) (Error word.Full) c.text_of-then-is_full.result refl refl c.requires
    (λ s tells stands. begins_as host session s c.args.word names stands false true (list_all (is_listed (listed_in session)) names) c.if-contains_key.ensures c.if-is_full.ensures refl)
    c.text_of-then-is_full.ensures.text c.text_of-then-is_full.ensures.memory

pub returns-then-not-lists-clause-worked : goal.returns-then-not-lists-clause-worked
returns-then-not-lists-clause-worked g c =
    let session = c.args.self.now in
    let host = g.H.Host.state c.args.host.now in
    let names = c.args.names.now in
    stays_in_memory host session session.jobs (beginning c.args.word names) (Error word.NoSnap) c.text_of-then-not-lists.result refl refl c.requires
    (λ s tells stands. begins_as host session s c.args.word names stands false false false c.if-contains_key.ensures c.if-is_full.ensures c.if-not-lists.ensures)
    c.text_of-then-not-lists.ensures.text c.text_of-then-not-lists.ensures.memory

pub returns-in_err-changes-clause-worked : goal.returns-in_err-changes-clause-worked
returns-in_err-changes-clause-worked g c =
    let session = c.args.self.now in
    let before = g.H.Host.state c.args.host.now in
    let after = g.H.Host.state c.select.new.host in
    let fault = c.in_err-changes.field-0.0 in
    let work = beginning c.args.word c.args.names.now in
    let p = err_from_is_err_and c.from_residual.result c.from_residual.ensures.1 in
    let same : c.from_residual.result ≡ Err fault = p.1 ∙ ap Err p.2 in
    subst (λ (r : Result (Vec ℕ) Fault). IsWorked work before after session session r) (sym same)
    (read_fault_worked before after session work fault c.requires c.select.ensures.only (subst (λ (r : Result Selection Fault). HasFaultCause before after r) c.in_err-changes.was c.select.ensures.cause)
    (λ is. c.select.ensures.never_full (c.in_err-changes.was ∙ ap Err is)))

pub begin_over-requires-clause-sound : goal.begin_over-requires-clause-sound
begin_over-requires-clause-sound g c = sound_reads (g.H.Host.state c.args.host.now) (g.H.Host.state c.select.new.host) c.args.self.now c.select.ensures.only c.requires

pub begin_over-requires-clause-entries : goal.begin_over-requires-clause-entries
begin_over-requires-clause-entries g c = subst (λ (selection : Selection). AreEntries (listed_in c.args.self.now) selection) c.in-Changes.is c.in_ok-changes.ensures.entries

pub begin_over-requires-clause-inside : goal.begin_over-requires-clause-inside
begin_over-requires-clause-inside g c = subst (λ (selection : Selection). AreInside selection) c.in-Changes.is c.in_ok-changes.ensures.inside

pub begin_over-requires-clause-opened : goal.begin_over-requires-clause-opened
begin_over-requires-clause-opened g c = λ tells.
    let before = g.H.Host.state c.args.host.now in
    let mid = g.H.Host.state c.select.new.host in
    let only = c.select.ensures.only in
    let told = sym only.tells ∙ tells in
    let chosen = chosen_in (listed_in c.args.self.now) c.args.names.now in
    all_opened before mid only told (map (λ c. c.value) c.in-Changes.changes.items) (subst (λ (x : Selection). IsSelection before chosen x) c.in-Changes.is (c.in_ok-changes.ensures.selection told)).opened

pub returns-in-Changes-clause-worked : goal.returns-in-Changes-clause-worked
returns-in-Changes-clause-worked g c =
    let session = c.args.self.now in
    let names = c.args.names.now in
    let before = g.H.Host.state c.args.host.now in
    let mid = g.H.Host.state c.select.new.host in
    let after = g.H.Host.state c.begin_over.new.host in
    let only = c.select.ensures.only in
    let chosen = chosen_in (listed_in session) names in
    let basis : List Delta = changes_of (publications_of (bytes_of before) chosen) in
    let cs : List Change = map (λ c. c.value) c.in-Changes.changes.items in
    let selection : IsTrue before.tells → AreChosen before chosen cs = λ tells. subst (λ (x : Selection). IsSelection before chosen x) c.in-Changes.is (c.in_ok-changes.ensures.selection tells) in
    let worked = c.begin_over.ensures.worked basis (λ tells. let told = sym only.tells ∙ tells in zip_read before mid only told cs basis (selection told).stored) in
    after_reads before mid after session c.begin_over.new.self (beginning c.args.word names) (beginning_over c.args.word (map (λ c. c.listed.name) cs) basis) c.begin_over.result c.requires only
    (none_by (none_yet before) c.select.ensures.cause (no_fault c.select.result c.in_ok-changes.field-0 Disk c.in_ok-changes.was))
    (λ s tells stands. begins_as before session s c.args.word names stands false false true c.if-contains_key.ensures c.if-is_full.ensures c.if-not-lists.ensures
    ∙ begins_chosen before session s c.args.word names stands None (selection tells).whole)
    (λ s. refl) (λ t. refl)
    worked
    (λ quiet. on_ok_by c.begin_over.result (after.reads ≡ mid.reads) (after.reads ≡ before.reads) (λ reads. reads ∙ c.in_ok-changes.ensures.reads (names_kept session names c.requires.memory quiet)) (worked.reads tt))
    (ap Some (sym (subst (λ (x : Selection). AreNamedBy names x) c.in-Changes.is c.in_ok-changes.ensures.names))) refl refl (λ s tells stands many. many) refl

pub returns-in-Damaged-clause-worked : goal.returns-in-Damaged-clause-worked
returns-in-Damaged-clause-worked g c =
    let session = c.args.self.now in
    let names = c.args.names.now in
    let before = g.H.Host.state c.args.host.now in
    let after = g.H.Host.state c.select.new.host in
    let chosen = chosen_in (listed_in session) names in
    let selection : IsTrue before.tells → IsSelection before chosen (Damaged c.in-Damaged.name) = λ tells. subst (λ (x : Selection). IsSelection before chosen x) c.in-Damaged.is (c.in_ok-changes.ensures.selection tells) in
    stays_worked before after session session.jobs (beginning c.args.word names) (DamagedReply c.in-Damaged.name) c.text_of-in-Damaged.result refl refl c.requires c.select.ensures.only
    (none_by (none_yet before) c.select.ensures.cause (no_fault c.select.result c.in_ok-changes.field-0 Disk c.in_ok-changes.was))
    (λ s tells stands.
    let damaged = selection tells in
    begins_as before session s c.args.word names stands false false true c.if-contains_key.ensures c.if-is_full.ensures c.if-not-lists.ensures
    ∙ begins_chosen before session s c.args.word names stands (Some damaged.0) damaged.1 ∙ ap (λ (name : List ℕ). stays s (DamagedReply name)) damaged.2)
    c.text_of-in-Damaged.ensures.text c.text_of-in-Damaged.ensures.memory
    (λ quiet. on_ok c.text_of-in-Damaged.result (after.reads ≡ before.reads) (c.in_ok-changes.ensures.reads (names_kept session names c.requires.memory quiet)))

pub returns-in_err-changes-clause-once : goal.returns-in_err-changes-clause-once
returns-in_err-changes-clause-once g c =
    let session = c.args.self.now in
    let names = c.args.names.now in
    none_begun session session names refl (λ selected. c.select.ensures.reads (names_kept session names c.requires.memory selected))

pub returns-in-Changes-clause-once : goal.returns-in-Changes-clause-once
returns-in-Changes-clause-once g c =
    let session = c.args.self.now in
    let names = c.args.names.now in
    let before = g.H.Host.state c.args.host.now in
    let mid = g.H.Host.state c.select.new.host in
    let known = is_selected session in
    begun_once before.reads mid.reads (g.H.Host.state c.begin_over.new.host).reads session c.begin_over.new.self names (map (λ c. c.value) c.in-Changes.changes.items) c.begin_over.ensures.reads c.begin_over.ensures.begun
    (subst (HasFirstReads known before.reads mid.reads) c.in-Changes.is (c.in_ok-changes.ensures.anew known (session_knows session c.requires.memory)))
    (λ selected. c.select.ensures.reads (names_kept session names c.requires.memory selected))

pub returns-in-Damaged-clause-once : goal.returns-in-Damaged-clause-once
returns-in-Damaged-clause-once g c =
    let session = c.args.self.now in
    let names = c.args.names.now in
    none_begun session session names refl (λ selected. c.select.ensures.reads (names_kept session names c.requires.memory selected))

pub returns-then-contains_key-clause-at_once : goal.returns-then-contains_key-clause-at_once
returns-then-contains_key-clause-at_once g c = λ s tells stands is. (c.text_of.ensures.memory, refl)

pub returns-then-is_full-clause-at_once : goal.returns-then-is_full-clause-at_once
returns-then-is_full-clause-at_once g c = λ s tells stands is. (c.text_of-then-is_full.ensures.memory, refl)

pub returns-then-not-lists-clause-at_once : goal.returns-then-not-lists-clause-at_once
returns-then-not-lists-clause-at_once g c = λ s tells stands is. (c.text_of-then-not-lists.ensures.memory, refl)

pub returns-in_err-changes-clause-at_once : goal.returns-in_err-changes-clause-at_once
returns-in_err-changes-clause-at_once g c = λ s tells stands is.
    absurd (begins_no_error (g.H.Host.state c.args.host.now) c.args.self.now s c.args.word c.args.names.now stands c.if-contains_key.ensures c.if-is_full.ensures c.if-not-lists.ensures is)

pub returns-in-Changes-clause-at_once : goal.returns-in-Changes-clause-at_once
returns-in-Changes-clause-at_once g c = λ s tells stands is.
    absurd (begins_no_error (g.H.Host.state c.args.host.now) c.args.self.now s c.args.word c.args.names.now stands c.if-contains_key.ensures c.if-is_full.ensures c.if-not-lists.ensures is)

pub returns-in-Damaged-clause-at_once : goal.returns-in-Damaged-clause-at_once
returns-in-Damaged-clause-at_once g c = λ s tells stands is.
    absurd (begins_no_error (g.H.Host.state c.args.host.now) c.args.self.now s c.args.word c.args.names.now stands c.if-contains_key.ensures c.if-is_full.ensures c.if-not-lists.ensures is)

pub returns-then-contains_key-clause-looks : goal.returns-then-contains_key-clause-looks
returns-then-contains_key-clause-looks g c = λ s tells stands is. reads_nothing (g.H.Host.state c.args.host.now)

pub returns-then-is_full-clause-looks : goal.returns-then-is_full-clause-looks
returns-then-is_full-clause-looks g c = λ s tells stands is. reads_nothing (g.H.Host.state c.args.host.now)

pub returns-then-not-lists-clause-looks : goal.returns-then-not-lists-clause-looks
returns-then-not-lists-clause-looks g c = λ s tells stands is. reads_nothing (g.H.Host.state c.args.host.now)

pub returns-in_err-changes-clause-looks : goal.returns-in_err-changes-clause-looks
returns-in_err-changes-clause-looks g c = λ s tells stands is. c.select.ensures.only

pub returns-in-Damaged-clause-looks : goal.returns-in-Damaged-clause-looks
returns-in-Damaged-clause-looks g c = λ s tells stands is. c.select.ensures.only

pub returns-in-Changes-clause-looks : goal.returns-in-Changes-clause-looks
returns-in-Changes-clause-looks g c = λ s tells stands is.
    let session = c.args.self.now in
    let names = c.args.names.now in
    let before = g.H.Host.state c.args.host.now in
    let chosen = chosen_in (listed_in session) names in
    let selection : AreChosen before chosen (map (λ c. c.value) c.in-Changes.changes.items) = subst (λ (x : Selection). IsSelection before chosen x) c.in-Changes.is (c.in_ok-changes.ensures.selection tells) in
    absurd (subst (λ (step : Step). IsRefusal step.reply) (begins_as before session s c.args.word names stands false false true c.if-contains_key.ensures c.if-is_full.ensures c.if-not-lists.ensures
    ∙ begins_chosen before session s c.args.word names stands None selection.whole) is)
