-- Where a run starts.
use Rattle.std.specs.Prelude.{◌≡◌, ℕ, [], Option, Some, IsTrue}
use Rattle.dfs_host.specs.Disk.{IsSettled}
use Rattle.dfs_host.specs.Host.{HostState, said_of}
use Rattle.dfs_host.specs.Source.{SourceState}
use Rattle.dfs_session.specs.Files.{value_on}
use Rattle.dfs_session.specs.Session.{Registry}
use Rattle.deltafs.specs.declared.words.Command.{Command}
use Rattle.deltafs.specs.declared.words.Command.TheVariants.{Run}

-- The host tells, and so does the source where the script is its own. Nothing is touched and nothing said, and the files stand for a
-- registry.
pub record StartsFrom (command : Option Command) (old : Registry) (host : HostState) (source : SourceState) : Type 0 where
  pub host_tells : IsTrue host.tells
  pub source_tells : command ≡ Some Run → IsTrue source.tells
  pub settled : (file : ℕ) → IsSettled (host.disk.files file)
  pub silent : said_of host ≡ []
  pub value : value_on host ≡ Some old
