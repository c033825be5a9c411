use Rattle.std.proofs.Common.{◌≡◌, ◌≢◌, ◌∙◌, ℕ, Option, Result, Err, refl, sym, ap, subst}
use Rattle.std.proofs.lemmas.Result.{err_from_is_err_and}
use Rattle.std.specs.BTreeMap.{BTreeMap, is_at}
use Rattle.std.specs.Global.{Vec}
use Rattle.std.specs.Prelude.{IsSome, None, is_some}
use Rattle.dfs_session.proofs.Faults.{not_true}
use Rattle.dfs_session.proofs.Sealing.{adds_sealed}
use Rattle.std.specs.Map.{remove_entry}
use Rattle.dfs_host.specs.Fault.{HasFaultCause, NoFault}
use Rattle.dfs_host.specs.declared.fault.Fault.{Fault}
use Rattle.dfs_host.specs.declared.fault.Fault.TheVariants.{NoMemory, Disk, LogFull}
use Rattle.dfs_host.proofs.Causes.{none_yet, none_by}
use Rattle.dfs_registry.specs.declared.listed.Listed.{Listed}
use Rattle.dfs_reply.specs.declared.Reply.TheVariants.{Error}
use Rattle.dfs_reply.specs.declared.Word.TheVariants as word
use Rattle.dfs_change.specs.declared.sealing.Sealed.{Sealed}
use Rattle.dfs_script.specs.declared.JobWord.{JobWord}
use Rattle.dfs_job.specs.declared.job.Job.{Job as LiveJob}
use Rattle.dfs_job.specs.Job.{Job}
use Rattle.dfs_job.specs.Stands.{publishes_too_many}
use Rattle.dfs_session.specs.Session.{live_job, of_live, publishes_anew, word_cmp}
use Rattle.dfs_session.specs.Sound.{jobs_of}
use Rattle.dfs_session.specs.Worked.{IsShort, IsWorked, PublicationPasses, publishing_anew}
use Rattle.dfs_session.proofs.Changing.{fault_worked, found_job, no_job, past_of, publication_passed, publication_passes, registry_still, so_of_job, still_unrefused, was_live, was_sound}
use Rattle.dfs_session.proofs.Handed.{fault_or, memory_not_full, none_unless}
use Rattle.dfs_session.proofs.Jobs.{Live, remove_set}
use Rattle.dfs_session.proofs.Publishing.{in_range, no_registry, published_worked, unlisted_stays, unlisted_worked}
use Rattle.dfs_session.proofs.Selecting.{no_fault}
use Rattle.dfs_session.proofs.Working.{memory_cause, stays_in_memory}
use Rattle.dfs_session.proofs.Writing.{file_idle, log_written, other_stays}
use Rattle.dfs_session.proofs.session.Session.publish_anew.Goals as goal

pub returns-in_default-clause-worked : goal.returns-in_default-clause-worked
returns-in_default-clause-worked g c =
    let session = c.args.self.now in
    let host = g.H.Host.state c.args.host.now in
    let w = c.args.word.now in
    stays_in_memory host session c.get_mut.follows.lender-at-none (publishing_anew w c.args.name) (Error word.NoJob) c.text_of.result (ap (λ (m : BTreeMap JobWord LiveJob). m.entries) c.get_mut.follows.holds-at-none) refl c.requires.sound
    (λ s tells stands. ap (λ (o : Option Job). of_live o s (λ j. publishes_anew s w j c.args.name)) (no_job host session s w stands (sym c.in_default.ensures.value)))
    c.text_of.ensures.text c.text_of.ensures.memory

pub publish_tables-requires : goal.publish_tables-requires
publish_tables-requires g c =
    let host = g.H.Host.state c.args.host.now in
    record { sound = was_sound host host c.args.self.now c.args.word.now c.in-Some.job.now c.requires.sound (sym c.in-Some.ensures.value) }

pub returns-in_err-sealed-clause-worked : goal.returns-in_err-sealed-clause-worked
returns-in_err-sealed-clause-worked g c =
    let session = c.args.self.now in
    let w = c.args.word.now in
    let before = g.H.Host.state c.args.host.now in
    let mid = g.H.Host.state c.publish_tables.new.host in
    let live = c.in-Some.job.now in
    let found = sym c.in-Some.ensures.value in
    let x = c.publish_tables.new.self in
    let jobs = c.get_mut.follows.lender x in
    let fault = c.in_err-sealed.field-0.0 in
    let was = c.in_err-sealed.was in
    let wrote = c.publish_tables.ensures in
    let p = err_from_is_err_and c.from_residual.result c.from_residual.ensures.1 in
    let same : c.from_residual.result ≡ Err fault = p.1 ∙ ap Err p.2 in
    subst (λ (r : Result (Vec ℕ) Fault). IsWorked (publishing_anew w c.args.name) before mid session (record session { jobs = jobs }) r) (sym same)
    (fault_worked before mid session w live c.requires.sound found wrote.only x jobs (c.get_mut.follows.holds x).0 (publishing_anew w c.args.name) fault refl (log_written session w live found)
    (subst (λ (r : Result Sealed Fault). HasFaultCause before mid r) was wrote.cause) (λ is. so_of_job session w live publishes_too_many found (wrote.full (was ∙ is))) (past_of before mid session w live c.requires.sound found x wrote.settings wrote.past) (λ some. sym was ∙ wrote.refuses some)
    (λ s tells stands is.
    let f = found_job before session s w live stands found in
    subst IsShort (sym f.found) (wrote.short f.plain tells f.is (was ∙ ap Err is)))
    (λ s tells stands is. let f = found_job before session s w live stands found in publication_passed before mid session w live c.requires.sound found s f (wrote.passes f.plain tells f.is (was ∙ ap Err is))))

pub returns-in_err-reply-clause-worked : goal.returns-in_err-reply-clause-worked
returns-in_err-reply-clause-worked g c =
    let session = c.args.self.now in
    let w = c.args.word.now in
    let before = g.H.Host.state c.args.host.now in
    let mid = g.H.Host.state c.publish_tables.new.host in
    let live = c.in-Some.job.now in
    let x = c.publish_tables.new.self in
    let jobs = c.get_mut.follows.lender x in
    let wrote = c.publish_tables.ensures in
    let ok = no_fault c.publish_tables.result c.in_ok-sealed.sealed in
    let p = err_from_is_err_and c.from_residual-in_err-reply.result c.from_residual-in_err-reply.ensures.1 in
    let same : c.from_residual-in_err-reply.result ≡ Err NoMemory = p.1 ∙ ap Err (p.2 ∙ c.in_err-reply.ensures.memory) in
    let none : NoFault before mid = none_by (none_yet before) wrote.cause (ok Disk c.in_ok-sealed.was) in
    subst (λ (r : Result (Vec ℕ) Fault). IsWorked (publishing_anew w c.args.name) before mid session (record session { jobs = jobs }) r) (sym same)
    (fault_worked before mid session w live c.requires.sound (sym c.in-Some.ensures.value) wrote.only x jobs (c.get_mut.follows.holds x).0 {T = Vec ℕ} (publishing_anew w c.args.name) NoMemory refl (log_written session w live (sym c.in-Some.ensures.value)) (memory_cause (Err NoMemory) none refl)
    (λ is. absurd (memory_not_full (ap fault_or is))) (past_of before mid session w live c.requires.sound (sym c.in-Some.ensures.value) x wrote.settings wrote.past) (λ some. absurd (ok LogFull c.in_ok-sealed.was (wrote.refuses some))) (λ s tells stands is. absurd (memory_not_full is)) (λ s tells stands is. absurd (memory_not_full is)))

pub list-requires-clause-stands : goal.list-requires-clause-stands
list-requires-clause-stands g c =
    registry_still (g.H.Host.state c.args.host.now) (g.H.Host.state c.publish_tables.new.host) c.args.self.now c.args.word.now c.in-Some.job.now c.requires.sound (sym c.in-Some.ensures.value) c.publish_tables.ensures.only

pub list-requires-clause-job_apart : goal.list-requires-clause-job_apart
list-requires-clause-job_apart g c =
    let host = g.H.Host.state c.args.host.now in
    (was_live host host c.args.self.now c.args.word.now c.in-Some.job.now c.requires.sound (sym c.in-Some.ensures.value)).unlisted

pub list-requires-clause-job_range : goal.list-requires-clause-job_range
list-requires-clause-job_range g c = in_range (g.H.Host.state c.args.host.now) c.args.self.now c.args.word.now c.in-Some.job.now c.requires.sound (sym c.in-Some.ensures.value)

pub returns-in_err-list-clause-worked : goal.returns-in_err-list-clause-worked
returns-in_err-list-clause-worked g c =
    let session = c.args.self.now in
    let w = c.args.word.now in
    let before = g.H.Host.state c.args.host.now in
    let mid = g.H.Host.state c.publish_tables.new.host in
    let after = g.H.Host.state c.list.new.host in
    let live = c.in-Some.job.now in
    let found = sym c.in-Some.ensures.value in
    let x = c.publish_tables.new.self in
    let jobs = c.get_mut.follows.lender x in
    let new = record session { registry = c.list.new.registry; jobs = jobs } in
    let fault = c.in_err-list.field-0.0 in
    let wrote = c.publish_tables.ensures in
    let listing = c.list.ensures in
    let was = c.in_err-list.was in
    let sealed = c.in_ok-sealed.sealed in
    let of = c.in_ok-sealed.ensures in
    let ok = no_fault c.publish_tables.result sealed in
    let listed : Listed = record { name = c.args.name; job = live.ids.job; at = sealed.at; len = sealed.len; count = sealed.count } in
    let p = err_from_is_err_and c.from_residual-in_err-list.result c.from_residual-in_err-list.ensures.1 in
    let same : c.from_residual-in_err-list.result ≡ Err fault = p.1 ∙ ap Err p.2 in
    subst (λ (r : Result (Vec ℕ) Fault). IsWorked (publishing_anew w c.args.name) before after session new r) (sym same)
    (unlisted_worked before mid after session w live c.requires.sound found wrote.only listing.only listed refl listing.images (λ j tells stands. of.changes j tells stands c.args.name) of.settled fault new
    (none_by (none_yet before) wrote.cause (ok Disk c.in_ok-sealed.was)) (subst (λ (r : Result (Unit {0}) Fault). HasFaultCause mid after r) was listing.cause)
    (λ is. listing.memory (was ∙ ap Err is)) (λ is. listing.never_full (was ∙ ap Err is)) (λ file at is. listing.never_changed file at (was ∙ ap Err is))
    (still_unrefused before mid session w live c.requires.sound found wrote.only x jobs (c.get_mut.follows.holds x).0 (none_unless x.layers.log.refused (λ some. ok LogFull c.in_ok-sealed.was (wrote.refuses some)))))

pub returns-clause-worked : goal.returns-clause-worked
returns-clause-worked g c =
    let session = c.args.self.now in
    let w = c.args.word.now in
    let before = g.H.Host.state c.args.host.now in
    let mid = g.H.Host.state c.publish_tables.new.host in
    let after = g.H.Host.state c.list.new.host in
    let live = c.in-Some.job.now in
    let x = c.publish_tables.new.self in
    let found = sym c.in-Some.ensures.value in
    let sealed = c.in_ok-sealed.sealed in
    let of = c.in_ok-sealed.ensures in
    let wrote = c.publish_tables.ensures in
    let listing = c.list.ensures in
    let listed : Listed = record { name = c.args.name; job = live.ids.job; at = sealed.at; len = sealed.len; count = sealed.count } in
    published_worked before mid after session w live c.requires.sound found wrote.only listing.only listed refl c.list.new.registry c.remove.new.self c.end.new.self (record { indexed = c.end.ensures.indexed; here = c.end.ensures.ended; others = c.end.ensures.others }) c.in_ok-list.ensures.listed
    (c.remove.ensures.entries ∙ ap (λ (es : Live). remove_entry (is_at (word_cmp w)) es) (c.get_mut.follows.holds x).0 ∙ remove_set (is_at (word_cmp w)) (jobs_of session) x)
    c.in_ok-list.ensures.live c.in_ok-list.ensures.stands listing.images c.in_ok-reply.reply sealed.count
    (none_by (none_by (none_yet before) wrote.cause (no_fault c.publish_tables.result sealed Disk c.in_ok-sealed.was)) listing.cause (no_fault c.list.result tt Disk c.in_ok-list.was))
    c.in_ok-reply.ensures.text of.count (λ j tells stands. of.changes j tells stands c.args.name) of.settled

pub end-requires : goal.end-requires
end-requires g c = c.requires.sound.memory.kept

pub returns-in_default-clause-too_many : goal.returns-in_default-clause-too_many
returns-in_default-clause-too_many g c = λ s tells stands many. absurd (subst (λ (o : Option LiveJob). PublicationPasses o (live_job s c.args.word.now)) (sym c.in_default.ensures.value) many)

pub returns-clause-too_many : goal.returns-clause-too_many
returns-clause-too_many g c = λ s tells stands many.
    let before = g.H.Host.state c.args.host.now in
    let session = c.args.self.now in
    let w = c.args.word.now in
    let live = c.in-Some.job.now in
    let found = sym c.in-Some.ensures.value in
    let f = found_job before session s w live stands found in
    c.in_ok-sealed.ensures.too_many f.plain tells f.is (publication_passes before before session w live c.requires.sound found s f many)

pub returns-in_default-clause-faults : goal.returns-in_default-clause-faults
returns-in_default-clause-faults g c = λ fault tells is other. file_idle 0 (g.H.Host.state c.args.host.now)

pub returns-in_err-sealed-clause-faults : goal.returns-in_err-sealed-clause-faults
returns-in_err-sealed-clause-faults g c = λ fault tells is other.
    other_stays 0 c.in-Some.job.now.ids.job (no_registry (g.H.Host.state c.args.host.now) c.args.self.now c.args.word.now c.in-Some.job.now c.requires.sound (sym c.in-Some.ensures.value)) c.publish_tables.ensures.only tells

pub returns-in_err-reply-clause-faults : goal.returns-in_err-reply-clause-faults
returns-in_err-reply-clause-faults g c = λ fault tells is other.
    other_stays 0 c.in-Some.job.now.ids.job (no_registry (g.H.Host.state c.args.host.now) c.args.self.now c.args.word.now c.in-Some.job.now c.requires.sound (sym c.in-Some.ensures.value)) c.publish_tables.ensures.only tells

pub returns-in_err-list-clause-faults : goal.returns-in_err-list-clause-faults
returns-in_err-list-clause-faults g c = λ fault tells is other.
    let p = err_from_is_err_and c.from_residual-in_err-list.result c.from_residual-in_err-list.ensures.1 in
    let same : c.in_err-list.field-0.0 ≡ fault = ap fault_or (sym (p.1 ∙ ap Err p.2) ∙ is) in
    let was = c.in_err-list.was ∙ ap Err same in
    unlisted_stays (g.H.Host.state c.args.host.now) (g.H.Host.state c.publish_tables.new.host) (g.H.Host.state c.list.new.host) fault
    (λ no. c.list.ensures.memory (was ∙ ap Err no)) (λ full. c.list.ensures.never_full (was ∙ ap Err full)) (λ file at changed. c.list.ensures.never_changed file at (was ∙ ap Err changed)) other
    (other_stays 0 c.in-Some.job.now.ids.job (no_registry (g.H.Host.state c.args.host.now) c.args.self.now c.args.word.now c.in-Some.job.now c.requires.sound (sym c.in-Some.ensures.value)) c.publish_tables.ensures.only tells)

pub returns-in_default-clause-sealed : goal.returns-in_default-clause-sealed
returns-in_default-clause-sealed g c = λ s tells stands some.
    absurd
    (not_true (is_some {T = Job} None) refl
    (subst (λ (o : Option Job). IsSome o) (no_job (g.H.Host.state c.args.host.now) c.args.self.now s c.args.word.now stands (sym c.in_default.ensures.value)) some))

pub returns-clause-sealed : goal.returns-clause-sealed
returns-clause-sealed g c = λ s tells stands some.
    let session = c.args.self.now in
    let w = c.args.word.now in
    let before = g.H.Host.state c.args.host.now in
    let mid = g.H.Host.state c.publish_tables.new.host in
    let live = c.in-Some.job.now in
    let found = sym c.in-Some.ensures.value in
    let sealed = c.in_ok-sealed.sealed in
    let of = c.in_ok-sealed.ensures in
    let f = found_job before session s w live stands found in
    let listed : Listed = record { name = c.args.name; job = live.ids.job; at = sealed.at; len = sealed.len; count = sealed.count } in
    let apart : live.ids.job ≢ 0 = λ same. absurd (no_registry before session w live c.requires.sound found (sym same)) in
    adds_sealed before mid (g.H.Host.state c.list.new.host) session _ s w live f found apart (of.cause.tells ∙ tells) c.list.ensures.only c.publish_tables.new.self.layers listed refl c.in_ok-list.ensures.listed (of.seals tells)
    (of.tables f.plain tells f.is) (of.file_ends tells)
