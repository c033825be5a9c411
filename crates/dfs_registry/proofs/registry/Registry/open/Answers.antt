use Rattle.std.proofs.Common.{◌∙◌, sym, subst}
use Rattle.dfs_host.specs.Disk.{IsSettled}
use Rattle.dfs_registry.proofs.Steps.{opened_after, shut_after}
use Rattle.dfs_registry.proofs.registry.Registry.open.Goals as goal

pub returns-then-len-le-EMPTY_LEN-clause-images : goal.returns-then-len-le-EMPTY_LEN-clause-images
returns-then-len-le-EMPTY_LEN-clause-images g c tells settled =
    let same = c.in-Ok.ensures.content tells in
    opened_after settled same (c.open_short.ensures.images (c.in-Ok.ensures.cause.tells ∙ tells) (subst (λ d. IsSettled (d.files 0)) (sym same.disk) settled))

pub returns-else-len-le-EMPTY_LEN-clause-images : goal.returns-else-len-le-EMPTY_LEN-clause-images
returns-else-len-le-EMPTY_LEN-clause-images g c tells settled =
    let same = c.in-Ok.ensures.content tells in
    opened_after settled same (c.open_long.ensures.images (c.in-Ok.ensures.cause.tells ∙ tells) (subst (λ d. IsSettled (d.files 0)) (sym same.disk) settled))

pub returns-then-len-le-EMPTY_LEN-clause-shut : goal.returns-then-len-le-EMPTY_LEN-clause-shut
returns-then-len-le-EMPTY_LEN-clause-shut g c = shut_after c.in-Ok.ensures.cause c.in-Ok.ensures.content c.open_short.ensures.shut

pub returns-else-len-le-EMPTY_LEN-clause-shut : goal.returns-else-len-le-EMPTY_LEN-clause-shut
returns-else-len-le-EMPTY_LEN-clause-shut g c = shut_after c.in-Ok.ensures.cause c.in-Ok.ensures.content c.open_long.ensures.shut
