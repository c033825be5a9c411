use Rattle.std.proofs.Common.{inl, ◌≡◌, ◌∙◌, ℕ, Option, Result, Err, refl, sym, ap, subst, map}
use Rattle.std.proofs.lemmas.Result.{err_from_is_err_and}
use Rattle.std.specs.BTreeMap.{BTreeMap}
use Rattle.std.specs.Global.{Vec}
use Rattle.std.specs.Prelude.{[], IsSomeAnd}
use Rattle.dfs_session.proofs.Looking.{none_open}
use Rattle.dfs_host.specs.Fault.{HasFaultCause}
use Rattle.dfs_host.specs.declared.fault.Fault.{Fault}
use Rattle.dfs_host.specs.declared.fault.Fault.TheVariants.{Disk, LogFull}
use Rattle.dfs_host.proofs.Causes.{none_yet, none_by}
use Rattle.dfs_reply.specs.declared.Reply.TheVariants.{Error, Ok as OkReply}
use Rattle.dfs_reply.specs.declared.Word.TheVariants as word
use Rattle.dfs_script.specs.declared.JobWord.{JobWord}
use Rattle.dfs_job.specs.declared.job.Job.{Job as LiveJob}
use Rattle.dfs_job.specs.Job.{Job, after_flush}
use Rattle.dfs_session.specs.Session.{of_live, with_job}
use Rattle.dfs_session.specs.Worked.{IsError, IsShort, IsWorked, flushing}
use Rattle.dfs_session.proofs.Changing.{answered_worked, changed_stands, fault_worked, found_job, no_job, past_of, was_sound}
use Rattle.dfs_session.proofs.Handed.{none_unless}
use Rattle.dfs_session.proofs.Selecting.{no_fault}
use Rattle.dfs_session.proofs.Working.{stays_in_memory}
use Rattle.dfs_session.proofs.Writing.{own_written}
use Rattle.dfs_session.proofs.session.Session.flush.Goals as goal

pub flush-requires : goal.flush-requires
flush-requires g c =
    let host = g.H.Host.state c.args.host.now in
    record { sound = was_sound host host c.args.self.now c.args.word.now c.in-Some.job.now c.requires (sym c.in-Some.ensures.value) }

pub returns-in_default-clause-worked : goal.returns-in_default-clause-worked
returns-in_default-clause-worked g c =
    let session = c.args.self.now in
    let host = g.H.Host.state c.args.host.now in
    let w = c.args.word.now in
    stays_in_memory host session c.get_mut.follows.lender-at-none (flushing w) (Error word.NoJob) c.text_of.result (ap (λ (m : BTreeMap JobWord LiveJob). m.entries) c.get_mut.follows.holds-at-none) refl c.requires
    (λ s tells stands. ap (λ (o : Option Job). of_live o s (λ j. record { session = with_job s w (after_flush j); reply = OkReply })) (no_job host session s w stands (sym c.in_default.ensures.value)))
    c.text_of.ensures.text c.text_of.ensures.memory

pub returns-in_err-flush-clause-worked : goal.returns-in_err-flush-clause-worked
returns-in_err-flush-clause-worked g c =
    let session = c.args.self.now in
    let before = g.H.Host.state c.args.host.now in
    let after = g.H.Host.state c.flush.new.host in
    let w = c.args.word.now in
    let live = c.in-Some.job.now in
    let found = sym c.in-Some.ensures.value in
    let x = c.flush.new.self in
    let fault = c.in_err-flush.field-0.0 in
    let was = c.in_err-flush.was in
    let p = err_from_is_err_and c.from_residual.result c.from_residual.ensures.1 in
    let same : c.from_residual.result ≡ Err fault = p.1 ∙ ap Err p.2 in
    subst (λ (r : Result (Vec ℕ) Fault). IsWorked (flushing w) before after session (record session { jobs = c.get_mut.follows.lender x }) r) (sym same)
    (fault_worked before after session w live c.requires found c.flush.ensures.only x (c.get_mut.follows.lender x) (c.get_mut.follows.holds x).0 (flushing w) fault refl (own_written session w live found)
    (subst (λ (r : Result (Unit {0}) Fault). HasFaultCause before after r) was c.flush.ensures.cause) (λ is. inl (c.flush.ensures.full.0 (was ∙ is))) (past_of before after session w live c.requires found x c.flush.ensures.settings c.flush.ensures.past) (λ some. sym was ∙ c.flush.ensures.full.1 some)
    (λ s tells stands is.
    let f = found_job before session s w live stands found in
    subst IsShort (sym f.found) (c.flush.ensures.short f.plain tells f.is (was ∙ ap Err is)))
    (λ s tells stands is. inl (c.flush.ensures.full.0 (was ∙ ap Err is))))

pub returns-clause-worked : goal.returns-clause-worked
returns-clause-worked g c =
    let session = c.args.self.now in
    let before = g.H.Host.state c.args.host.now in
    let after = g.H.Host.state c.flush.new.host in
    let w = c.args.word.now in
    let live = c.in-Some.job.now in
    let found = sym c.in-Some.ensures.value in
    let x = c.flush.new.self in
    let jobs = c.get_mut.follows.lender x in
    let set = (c.get_mut.follows.holds x).0 in
    let of = c.in_ok-flush.ensures in
    let ok = no_fault c.flush.result tt in
    answered_worked before after session w live c.requires found c.flush.ensures.only x jobs set (flushing w) (λ s f. record { session = with_job s w (after_flush f.plain); reply = OkReply }) c.text_of-2.result
    (none_by (none_yet before) c.flush.ensures.cause (ok Disk c.in_ok-flush.was)) (none_unless x.layers.log.refused (λ some. ok LogFull c.in_ok-flush.was (c.flush.ensures.full.1 some))) refl of.sound (ap (λ (n : _). n.job) c.flush.ensures.number)
    (inl (ap (map (λ c. c.value)) c.flush.ensures.basis))
    (λ s f. ap (λ (o : Option Job). of_live o s (λ j. record { session = with_job s w (after_flush j); reply = OkReply })) f.found) (λ s f. refl) (λ s f tells. c.text_of-2.ensures.text)
    (λ s f tells stands. changed_stands before after session w live c.requires found c.flush.ensures.only x jobs set s (after_flush f.plain) tells stands (of.stands f.plain tells f.is)) c.text_of-2.ensures.memory (λ quiet. quiet) (own_written session w live found)

pub returns-in_default-clause-at_once : goal.returns-in_default-clause-at_once
returns-in_default-clause-at_once g c = λ s tells stands is. (c.text_of.ensures.memory, refl)

pub returns-in_err-flush-clause-at_once : goal.returns-in_err-flush-clause-at_once
returns-in_err-flush-clause-at_once g c = λ s tells stands is.
    let before = g.H.Host.state c.args.host.now in
    let session = c.args.self.now in
    let w = c.args.word.now in
    let live = c.in-Some.job.now in
    let found = sym c.in-Some.ensures.value in
    let f = found_job before session s w live stands found in
    absurd (subst IsError (ap (λ (o : Option Job). (of_live o s (λ j. record { session = with_job s w (after_flush j); reply = OkReply })).reply) f.found) is)

pub returns-clause-at_once : goal.returns-clause-at_once
returns-clause-at_once g c = λ s tells stands is.
    let before = g.H.Host.state c.args.host.now in
    let session = c.args.self.now in
    let w = c.args.word.now in
    let live = c.in-Some.job.now in
    let found = sym c.in-Some.ensures.value in
    let f = found_job before session s w live stands found in
    absurd (subst IsError (ap (λ (o : Option Job). (of_live o s (λ j. record { session = with_job s w (after_flush j); reply = OkReply })).reply) f.found) is)

pub returns-in_default-clause-idle : goal.returns-in_default-clause-idle
returns-in_default-clause-idle g c = λ s tells stands fits. refl

pub returns-in_err-flush-clause-idle : goal.returns-in_err-flush-clause-idle
returns-in_err-flush-clause-idle g c = λ s tells stands fits.
    let before = g.H.Host.state c.args.host.now in
    let live = c.in-Some.job.now in
    let f = found_job before c.args.self.now s c.args.word.now live stands (sym c.in-Some.ensures.value) in
    (c.flush.ensures.idle (none_open before live f.plain f.is (subst (λ (o : Option Job). IsSomeAnd o (λ j. j.layers.open_ ≡ [])) f.found fits))).idle

pub returns-clause-idle : goal.returns-clause-idle
returns-clause-idle g c = λ s tells stands fits.
    let before = g.H.Host.state c.args.host.now in
    let live = c.in-Some.job.now in
    let f = found_job before c.args.self.now s c.args.word.now live stands (sym c.in-Some.ensures.value) in
    (c.flush.ensures.idle (none_open before live f.plain f.is (subst (λ (o : Option Job). IsSomeAnd o (λ j. j.layers.open_ ≡ [])) f.found fits))).idle
