use Rattle.std.proofs.Common.{◌≡◌, take}
use Rattle.std.specs.Prelude.{true}
use Rattle.std.specs.List.{list_all}
use Rattle.dfs_session.specs.Selected.{is_listed}
use Rattle.dfs_session.specs.Sound.{listed_in}
use Rattle.dfs_session.proofs.session.Session.lists.Given as goal

-- the names before the index are listed
abbrev pub invariant-loop-index : goal.invariant-loop-index
invariant-loop-index l = list_all (is_listed (listed_in l.self)) (take l.index l.names) ≡ true
