use Rattle.std.proofs.Common.{◌≡◌, ◌≢◌, ◌∙◌, ◌+◌, ℕ, arith, List, map, Result, Ok, Err, refl, sym, ap, subst}
use Rattle.std.proofs.lemmas.Result.{err_from_is_err_and}
use Rattle.std.specs.Prelude.{OnOk}
use Rattle.std.specs.Global.{Vec}
use Rattle.std.specs.List.{AllByRecursion}
use Rattle.dfs_host.specs.declared.fault.Fault.{Fault}
use Rattle.dfs_host.specs.declared.fault.Fault.TheVariants.{NoMemory, Disk}
use Rattle.dfs_host.proofs.Causes.{none_yet}
use Rattle.dfs_host.proofs.Moments.{reads_nothing}
use Rattle.dfs_change.specs.declared.change.Change.{Change}
use Rattle.dfs_job.specs.Stands.{IsSelectable}
use Rattle.dfs_session.specs.declared.session.Session.{Session as LiveSession}
use Rattle.dfs_session.specs.Kept.{IsInside, IsOwn}
use Rattle.dfs_session.specs.Sound.{IsEntry, IsLive, jobs_of, listed_in, number_of}
use Rattle.dfs_session.specs.Worked.{IsWorked, beginning_over}
use Rattle.dfs_session.proofs.Selecting.{listed_earlier}
use Rattle.dfs_session.proofs.Beginning.{begun_worked, begun_value, begun_images, no_memory_worked, disk_worked, failed_cause, fine_cause}
use Rattle.dfs_session.proofs.Faults.{sound_refused}
use Rattle.dfs_session.proofs.Lists.{mapped, when_ok}
use Rattle.dfs_session.proofs.Images.{read_images}
use Rattle.dfs_session.proofs.Values.{stands_value}
use Rattle.dfs_session.proofs.Working.{same_sound}
use Rattle.dfs_session.proofs.Writing.{next_written, one_of_these, reads_these}
use Rattle.dfs_session.proofs.session.Session.begin_over.Goals as goal

pub returns-in_err-reply-clause-worked : goal.returns-in_err-reply-clause-worked
returns-in_err-reply-clause-worked g c =
    let session = c.args.self.now in
    let host = g.H.Host.state c.args.host.now in
    let p = err_from_is_err_and c.from_residual.result c.from_residual.ensures.1 in
    let same : c.from_residual.result ≡ Err NoMemory = p.1 ∙ ap Err (p.2 ∙ c.in_err-reply.ensures.memory) in
    λ basis is.
    subst (λ (r : Result (Vec ℕ) Fault). IsWorked (beginning_over c.args.word (map (λ c. c.listed.name) (map (λ c. c.value) c.args.changes.items)) basis) host host session session r) (sym same)
    (no_memory_worked host host session session (beginning_over c.args.word (map (λ c. c.listed.name) (map (λ c. c.value) c.args.changes.items)) basis) (reads_these (reads_nothing host)) (none_yet host) (sound_refused session c.requires.sound.memory) refl
    (λ s tells stands. stands_value host session s tells c.requires.sound stands) (λ s tells stands. refl)
    (λ s tells stands. read_images host host session s s.registry tells c.requires.sound stands (reads_nothing host)))

pub returns-then-is_err-clause-worked : goal.returns-then-is_err-clause-worked
returns-then-is_err-clause-worked g c =
    let session = c.args.self.now in
    let host = g.H.Host.state c.args.host.now in
    let sound = c.requires.sound in
    λ basis is.
    no_memory_worked host host session (record session { kept = c.keep.new.self }) (beginning_over c.args.word (map (λ c. c.listed.name) (map (λ c. c.value) c.args.changes.items)) basis) (reads_these (reads_nothing host)) (none_yet host)
    (sound_refused session sound.memory) refl (λ s tells stands. stands_value host session s tells sound stands) (λ s tells stands. refl)
    (λ s tells stands. read_images host host session s s.registry tells sound stands (reads_nothing host))

pub returns-in_err-job-clause-worked : goal.returns-in_err-job-clause-worked
returns-in_err-job-clause-worked g c =
    let session = c.args.self.now in
    let new : LiveSession = record session { kept = c.keep.new.self } in
    let host = g.H.Host.state c.args.host.now in
    let after = g.H.Host.state c.begin.new.host in
    let p = err_from_is_err_and c.from_residual-in_err-job.result c.from_residual-in_err-job.ensures.1 in
    let same : c.from_residual-in_err-job.result ≡ Err Disk = p.1 ∙ ap Err p.2 in
    λ basis is.
    subst (λ (r : Result (Vec ℕ) Fault). IsWorked (beginning_over c.args.word (map (λ c. c.listed.name) (map (λ c. c.value) c.args.changes.items)) basis) host after session new r) (sym same)
    (disk_worked host after session new (beginning_over c.args.word (map (λ c. c.listed.name) (map (λ c. c.value) c.args.changes.items)) basis) (one_of_these (next_written session) c.begin.ensures.only) (failed_cause c.begin.result c.in_err-job.field-0.0 c.in_err-job.was c.begin.ensures.cause c.begin.ensures.reads)
    (sound_refused session c.requires.sound.memory)
    (λ s tells stands. begun_images host after session c.requires.sound c.requires.last c.begin.ensures.only s s.registry tells stands))

pub returns-in-Ok-clause-worked : goal.returns-in-Ok-clause-worked
returns-in-Ok-clause-worked g c =
    let session = c.args.self.now in
    let host = g.H.Host.state c.args.host.now in
    let after = g.H.Host.state c.begin.new.host in
    let begun = c.in_ok-job.ensures in
    let kept : (P : Type 0) → OnOk c.keep.result P → P = λ P. when_ok c.keep.result P c.if-is_err.ensures.value in
    let selected : map (λ c. c.value) c.args.changes.items ≡ map (λ c. c.value) c.in_ok-job.job.layers.basis.items = sym (ap (map (λ c. c.value)) begun.basis) in
    λ basis is.
    subst (λ (cs : List Change). IsWorked (beginning_over c.args.word (map (λ c. c.listed.name) cs) basis) host after session (record session { jobs = c.insert.new.self; greatest = session.greatest + 1; kept = c.keep.new.self }) (Ok c.in_ok-reply.reply)) (sym selected)
    (begun_worked host after session c.requires.sound c.requires.last c.begin.ensures.only c.args.word c.requires.absent c.in_ok-job.job c.insert.new.self c.in-Ok.ensures.entries begun.sound begun.ids
    (subst (AllByRecursion (IsEntry (listed_in session))) selected c.requires.entries) (subst (AllByRecursion IsInside) selected c.requires.inside) (λ tells. subst (AllByRecursion (IsOwn host)) selected (c.requires.opened tells))
    c.keep.new.self (kept _ c.keep.ensures.indexed) (kept _ c.keep.ensures.begun ∙ ap (map (λ r. r.value)) c.deref.ensures.value ∙ selected) (kept _ c.keep.ensures.others) basis c.in_ok-reply.reply (λ tells. begun.stands basis tells (is tells)) (fine_cause c.begin.result c.in_ok-job.job c.in_ok-job.was c.begin.ensures.cause c.begin.ensures.reads) c.begin.ensures.reads c.in_ok-reply.ensures.text)

pub returns-in-Err-clause-worked : goal.returns-in-Err-clause-worked
returns-in-Err-clause-worked g c =
    let session = c.args.self.now in
    let host = g.H.Host.state c.args.host.now in
    let after = g.H.Host.state c.begin.new.host in
    let sound = c.requires.sound in
    λ basis is.
    no_memory_worked host after session (record session { jobs = c.insert.new.self; kept = c.keep.new.self }) (beginning_over c.args.word (map (λ c. c.listed.name) (map (λ c. c.value) c.args.changes.items)) basis) (one_of_these (next_written session) c.begin.ensures.only)
    (fine_cause c.begin.result c.in_ok-job.job c.in_ok-job.was c.begin.ensures.cause c.begin.ensures.reads)
    (sound_refused (record session { jobs = c.insert.new.self }) (same_sound host session c.insert.new.self c.in-Err.ensures.err sound).memory) refl
    (λ s tells stands. begun_value host after session sound c.requires.last c.begin.ensures.only s tells stands) (λ s tells stands. refl)
    (λ s tells stands. begun_images host after session sound c.requires.last c.begin.ensures.only s s.registry tells stands)

pub begin-requires-clause-earlier : goal.begin-requires-clause-earlier
begin-requires-clause-earlier g c =
    let session = c.args.self.now in
    listed_earlier (listed_in session) (session.greatest + 1) (map (λ c. c.value) c.args.changes.items) (omega (arith, c.requires.sound.memory.listed)) c.requires.entries

pub begin-requires-clause-selectable : goal.begin-requires-clause-selectable
begin-requires-clause-selectable g c =
    let host = g.H.Host.state c.args.host.now in
    λ tells. mapped (IsOwn host) (IsSelectable host) (map (λ c. c.value) c.args.changes.items) (λ c is. is.selectable) (c.requires.opened tells)

pub keep-requires-clause-anew : goal.keep-requires-clause-anew
keep-requires-clause-anew g c =
    let session = c.args.self.now in
    c.requires.sound.memory.ended (session.greatest + 1) (mapped (λ e. IsLive session.greatest (listed_in session) e.1) (λ e. number_of e.1 ≢ session.greatest + 1) (jobs_of session) (λ e live is. absurd (omega (arith, is, live.numbered))) c.requires.sound.memory.jobs)

pub keep-requires-clause-indexed : goal.keep-requires-clause-indexed
keep-requires-clause-indexed g c = c.requires.sound.memory.kept
