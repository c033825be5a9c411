-- What a crash leaves of a session's files.
use Rattle.std.specs.Prelude.{◌≡◌, ◌⊎◌, Some}
use Rattle.dfs_host.specs.Disk.{Image}
use Rattle.dfs_host.specs.Host.{HostState, LeavesNow}
use Rattle.dfs_session.specs.Files.{value}
use Rattle.dfs_session.specs.Session.{Registry}

-- the files of an image stand for the registry
abbrev pub Holds : Registry → Image → Type 0
Holds registry image = value image.files ≡ Some registry

abbrev pub HoldsEither : Registry → Registry → Image → Type 0
HoldsEither before after image = Holds before image ⊎ Holds after image

-- whatever a crash leaves now stands for the registry
abbrev pub HoldsNow : Registry → HostState → Type 0
HoldsNow registry host = (image : Image) → LeavesNow host image → Holds registry image
