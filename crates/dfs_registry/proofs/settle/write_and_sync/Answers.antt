use Rattle.std.proofs.Common.{◌∙◌, length, ap, subst, arith}
use Rattle.dfs_host.specs.Disk.{FileState, MayLeave}
use Rattle.dfs_host.proofs.Files.{left_by_write, length-overwritten}
use Rattle.dfs_host.proofs.Moments.{changes_on, changes_widened, only_goes_on, only_of}
use Rattle.dfs_registry.proofs.settle.write_and_sync.Goals as goal

pub returns-in_err-write_at-clause-images : goal.returns-in_err-write_at-clause-images
returns-in_err-write_at-clause-images g c tells settled =
    changes_widened (c.write_at.ensures.crash tells) (left_by_write c.args.at c.args.bytes.now settled (c.requires.inside tells))

pub returns-clause-images : goal.returns-clause-images
returns-clause-images g c tells settled =
    let torn = left_by_write c.args.at c.args.bytes.now settled (c.requires.inside tells) in
    changes_on (changes_widened (c.write_at.ensures.crash tells) torn) (c.sync.ensures.crash (c.write_at.ensures.cause.tells ∙ tells))
    (λ bytes may. torn bytes (subst (λ file. MayLeave file bytes) (c.in_ok-write_at.ensures.ok tells) may))

pub returns-in_err-sync-clause-images : goal.returns-in_err-sync-clause-images
returns-in_err-sync-clause-images g c tells settled =
    let torn = left_by_write c.args.at c.args.bytes.now settled (c.requires.inside tells) in
    changes_on (changes_widened (c.write_at.ensures.crash tells) torn) (c.sync.ensures.crash (c.write_at.ensures.cause.tells ∙ tells))
    (λ bytes may. torn bytes (subst (λ file. MayLeave file bytes) (c.in_ok-write_at.ensures.ok tells) may))

pub returns-in_err-write_at-clause-only : goal.returns-in_err-write_at-clause-only
returns-in_err-write_at-clause-only g c = only_of c.write_at.ensures.cause c.write_at.ensures.crash

pub returns-in_err-sync-clause-only : goal.returns-in_err-sync-clause-only
returns-in_err-sync-clause-only g c = only_goes_on (only_of c.write_at.ensures.cause c.write_at.ensures.crash) (only_of c.sync.ensures.cause c.sync.ensures.crash)

pub returns-clause-only : goal.returns-clause-only
returns-clause-only g c = only_goes_on (only_of c.write_at.ensures.cause c.write_at.ensures.crash) (only_of c.sync.ensures.cause c.sync.ensures.crash)

pub returns-clause-longer : goal.returns-clause-longer
returns-clause-longer g c tells =
    let long = ap (λ (file : FileState). length file.bytes) (c.in_ok-sync.ensures.ok (c.write_at.ensures.cause.tells ∙ tells)) ∙ ap (λ (file : FileState). length file.bytes) (c.in_ok-write_at.ensures.ok tells) in
    omega (arith, long, length-overwritten c.args.at c.args.bytes.now _ (c.requires.inside tells))
