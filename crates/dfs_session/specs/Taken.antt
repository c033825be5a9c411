-- What a change must be that is taken for an entry.
use Rattle.std.specs.Prelude.{◌≡◌}
use Rattle.dfs_host.specs.Host.{HostState, Told}
use Rattle.dfs_change.specs.declared.change.Change.{Change}
use Rattle.dfs_registry.specs.declared.listed.Listed.{Listed}
use Rattle.dfs_session.specs.Kept.{IsInside, IsOwn}

-- It is that of the entry where both are of one job, its tables lie in its own file, and it is opened.
pub record IsFor (host : HostState) (l : Listed) (c : Change) : Type 0 where
  pub own : c.listed.job ≡ l.job → c.listed ≡ l
  pub inside : IsInside c
  pub opened : Told host (IsOwn host c)
