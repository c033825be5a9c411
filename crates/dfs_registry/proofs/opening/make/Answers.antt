use Rattle.std.proofs.Common.{◌∙◌}
use Rattle.dfs_host.proofs.Moments.{changes_on, changes_widened, only_goes_on}
use Rattle.dfs_registry.proofs.Steps.{make_first, make_second, make_done}
use Rattle.dfs_registry.proofs.opening.make.Goals as goal

pub returns-in_err-cut_and_sync-clause-images : goal.returns-in_err-cut_and_sync-clause-images
returns-in_err-cut_and_sync-clause-images g c tells settled = changes_widened (c.cut_and_sync.ensures.images tells settled) (make_first _ (c.requires.short tells))

pub returns-clause-file : goal.returns-clause-file
returns-clause-file g c tells = make_done _ _ (c.in_ok-cut_and_sync.ensures.cut tells) (c.in_ok-write_and_sync.ensures.written (c.cut_and_sync.ensures.cause.tells ∙ tells))

pub returns-in_err-write_and_sync-clause-images : goal.returns-in_err-write_and_sync-clause-images
returns-in_err-write_and_sync-clause-images g c tells settled =
    changes_on (changes_widened (c.cut_and_sync.ensures.images tells settled) (make_first _ (c.requires.short tells)))
    (c.write_and_sync.ensures.images (c.cut_and_sync.ensures.cause.tells ∙ tells) (c.in_ok-cut_and_sync.ensures.settled tells))
    (make_second _ (c.in_ok-cut_and_sync.ensures.cut tells))

pub returns-clause-images : goal.returns-clause-images
returns-clause-images g c tells settled =
    changes_on (changes_widened (c.cut_and_sync.ensures.images tells settled) (make_first _ (c.requires.short tells)))
    (c.write_and_sync.ensures.images (c.cut_and_sync.ensures.cause.tells ∙ tells) (c.in_ok-cut_and_sync.ensures.settled tells))
    (make_second _ (c.in_ok-cut_and_sync.ensures.cut tells))

pub returns-in_err-write_and_sync-clause-only : goal.returns-in_err-write_and_sync-clause-only
returns-in_err-write_and_sync-clause-only g c = only_goes_on c.cut_and_sync.ensures.only c.write_and_sync.ensures.only

pub returns-clause-only : goal.returns-clause-only
returns-clause-only g c = only_goes_on c.cut_and_sync.ensures.only c.write_and_sync.ensures.only
