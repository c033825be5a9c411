-- What the list ends as, once a reference into it has ended.
use Rattle.std.specs.Prelude.{◌≡◌, ⊤}
use Rattle.std.specs.Borrow.{Fml, MutBor, follows_so}
use mathlib.Core.Option.{none}
use Rattle.dfs_cache.specs.Latest.{Latest}
use Rattle.dfs_cache.specs.contracts.Lookups.{the_row}

abbrev pub ends_as : MutBor Latest → Latest → Fml
ends_as l after = follows_so the_row the_row l.ghost_name none (λ _ _. ⊤) (λ n. n ≡ after)
