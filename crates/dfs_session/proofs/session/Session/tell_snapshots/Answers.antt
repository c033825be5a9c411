use Rattle.std.proofs.Common.{◌≡◌, ◌∙◌, ℕ, List, Result, Err, refl, sym, ap, subst}
use Rattle.std.proofs.lemmas.Result.{err_from_is_err_and}
use Rattle.std.specs.Global.{Vec}
use Rattle.dfs_host.specs.declared.fault.Fault.{Fault}
use Rattle.dfs_host.specs.declared.fault.Fault.TheVariants.{NoMemory}
use Rattle.dfs_host.proofs.Causes.{none_yet}
use Rattle.dfs_host.proofs.Moments.{reads_nothing}
use Rattle.dfs_record.specs.declared.SnapName.{SnapName}
use Rattle.dfs_reply.specs.declared.Reply.TheVariants.{Snapshots as SnapshotsReply}
use Rattle.dfs_session.specs.Session.{tells_snapshots, stays}
use Rattle.dfs_session.specs.Worked.{IsWorked, plain}
use Rattle.dfs_session.proofs.Beginning.{no_memory_worked}
use Rattle.dfs_session.proofs.Choosing.{snapshots_same}
use Rattle.dfs_session.proofs.Faults.{sound_refused}
use Rattle.dfs_session.proofs.Images.{read_images}
use Rattle.dfs_session.proofs.Values.{stands_value}
use Rattle.dfs_session.proofs.Working.{stays_in_memory}
use Rattle.dfs_session.proofs.Writing.{reads_these}
use Rattle.dfs_session.proofs.session.Session.tell_snapshots.Goals as goal

pub returns-in_err-list-clause-worked : goal.returns-in_err-list-clause-worked
returns-in_err-list-clause-worked c =
    let session = c.args.self.now in
    let p = err_from_is_err_and c.from_residual.result c.from_residual.ensures.1 in
    let same : c.from_residual.result ≡ Err NoMemory = p.1 ∙ ap Err (p.2 ∙ c.in_err-list.ensures.memory) in
    λ host sound.
    subst (λ (r : Result (Vec ℕ) Fault). IsWorked (plain tells_snapshots) host host session session r) (sym same)
    (no_memory_worked host host session session (plain tells_snapshots) (reads_these (reads_nothing host)) (none_yet host) (sound_refused session sound.memory) refl
    (λ s tells stands. stands_value host session s tells sound stands) (λ s tells stands. refl)
    (λ s tells stands. read_images host host session s s.registry tells sound stands (reads_nothing host)))

pub returns-clause-worked : goal.returns-clause-worked
returns-clause-worked c =
    let session = c.args.self.now in
    λ host sound.
    stays_in_memory host session session.jobs (plain tells_snapshots) (SnapshotsReply c.in_ok-list.list) c.text_of.result refl refl sound
    (λ s tells stands. ap (λ (l : List (SnapName × ℕ)). stays s (SnapshotsReply l)) (snapshots_same host session s stands ∙ sym c.in_ok-list.ensures.list))
    c.text_of.ensures.text c.text_of.ensures.memory
