use Rattle.std.proofs.Common.{◌≡◌, ℕ, take}
use Rattle.dfs_host.specs.Disk.{settled_file}
use Rattle.dfs_mem.specs.Files.{bytes_in}
use Rattle.dfs_mem.specs.Track.{track_at}
use Rattle.dfs_mem.proofs.replay.started.Given as goal

abbrev pub invariant-loop-number : goal.invariant-loop-number
invariant-loop-number l = (n : ℕ) → track_at l.tracks n ≡ settled_file (bytes_in (take l.number-index l.given) n)
