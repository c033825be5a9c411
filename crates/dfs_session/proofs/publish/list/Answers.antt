use Rattle.std.proofs.Common.{◌∙◌, inl, ap}
use Rattle.dfs_host.proofs.Files.{left_when_settled}
use Rattle.dfs_host.proofs.Moments.{nothing_done}
use Rattle.dfs_registry.specs.Reading.{registry as reading}
use Rattle.dfs_registry.proofs.Standing.{standing_list}
use Rattle.dfs_session.proofs.publish.list.Goals as goal

pub returns-in-Err-NoMemory-clause-images : goal.returns-in-Err-NoMemory-clause-images
returns-in-Err-NoMemory-clause-images g c = λ tells.
    let host = g.H.Host.state c.args.host.now in
    let stands = c.requires.stands tells in
    nothing_done host (λ bytes may. inl (ap reading (left_when_settled stands.settled bytes may) ∙ standing_list host c.args.registry.now stands))
