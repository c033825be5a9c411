use Rattle.std.proofs.Common.{◌∙◌, subst}
use Rattle.dfs_host.specs.Disk.{MayLeave}
use Rattle.dfs_host.proofs.Files.{left_by_cut}
use Rattle.dfs_host.proofs.Moments.{changes_on, changes_widened, only_goes_on, only_of}
use Rattle.dfs_registry.proofs.settle.cut_and_sync.Goals as goal

pub returns-in_err-cut-clause-images : goal.returns-in_err-cut-clause-images
returns-in_err-cut-clause-images g c tells settled =
    changes_widened (c.cut.ensures.crash tells) (left_by_cut c.args.len settled (c.requires.inside tells))

pub returns-clause-images : goal.returns-clause-images
returns-clause-images g c tells settled =
    let cropped = left_by_cut c.args.len settled (c.requires.inside tells) in
    changes_on (changes_widened (c.cut.ensures.crash tells) cropped) (c.sync.ensures.crash (c.cut.ensures.cause.tells ∙ tells))
    (λ bytes may. cropped bytes (subst (λ file. MayLeave file bytes) (c.in_ok-cut.ensures.ok tells) may))

pub returns-in_err-cut-clause-only : goal.returns-in_err-cut-clause-only
returns-in_err-cut-clause-only g c = only_of c.cut.ensures.cause c.cut.ensures.crash

pub returns-clause-only : goal.returns-clause-only
returns-clause-only g c = only_goes_on (only_of c.cut.ensures.cause c.cut.ensures.crash) (only_of c.sync.ensures.cause c.sync.ensures.crash)
