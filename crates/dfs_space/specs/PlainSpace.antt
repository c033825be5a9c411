-- A plain space makes no promise on its past, and nothing of it can fail but memory.
use Rattle.std.specs.Prelude.{List, [], ◌++◌, true, false}
use Rattle.dfs_record.specs.declared.Key.{Key}
use Rattle.dfs_record.specs.declared.Entry.{Entry}
use Rattle.dfs_record.specs.declared.Record.{Record}
use Rattle.dfs_record.specs.Record.{IsKey, IsEntry}
use Rattle.dfs_record.specs.Namespace.{Namespace}
use Rattle.dfs_space.specs.Space.{SpaceState}

abbrev pub plain_state : SpaceState
plain_state = record { tells = true; disk_faults = 0; reads = 0; spent = false; refused = 0 }

abbrev pub plain_follows : Namespace → Namespace → List Record → Type 0
plain_follows old new rs = Unit {0}

pub plain_follows_itself : (x : Namespace) → plain_follows x x []
plain_follows_itself x = tt

pub plain_follows_on : (x y z : Namespace) (rs ss : List Record) → plain_follows x y rs → plain_follows y z ss → plain_follows x z (rs ++ ss)
plain_follows_on x y z rs ss p q = tt

-- a valid key with a valid entry
pub record IsStored (e : Key × Entry) : Type 0 where
  pub key : IsKey e.0
  pub entry : IsEntry e.1
