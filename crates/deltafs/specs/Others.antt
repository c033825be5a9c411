-- Files that a run leaves alone.
use Rattle.std.specs.Prelude.{◌≢◌, ◌≤◌, ◌<◌, ◌⊎◌, ℕ}
use Rattle.dfs_host.specs.Host.{HostState}
use Rattle.dfs_session.specs.Session.{Registry, greatest_published}
use Rattle.dfs_session.specs.Writes.{FileStays}

-- The file is not the registry, and no job that begins over the registry is given its number: that is at most the greatest one of a
-- publication, or above the last number of a job.
pub record IsOther (old : Registry) (n : ℕ) : Type 0 where
  pub no_registry : n ≢ 0
  pub no_job : (n ≤ greatest_published old) ⊎ (4294967294 < n)

-- No such file is written: each is as it was, and an image since has of it what one at the start might have.
abbrev pub OthersStay : Registry → HostState → HostState → Type 0
OthersStay old before after = (n : ℕ) → IsOther old n → FileStays n before after
