use Rattle.std.proofs.Common.{◌≡◌, ℕ, drop}
use Rattle.dfs_host.specs.Disk.{settled_file}
use Rattle.dfs_mem.specs.Deeds.{deeds_until}
use Rattle.dfs_mem.specs.Files.{bytes_in}
use Rattle.dfs_mem.specs.Track.{track_at, file_after}
use Rattle.dfs_mem.proofs.replay.tracks_until.Given as goal

abbrev pub invariant-loop-kept : goal.invariant-loop-kept
invariant-loop-kept l =
    (n : ℕ) → file_after n (deeds_until l.moment (drop l.kept-index l.deeds)) (track_at l.tracks n) ≡ file_after n (deeds_until l.moment l.deeds) (settled_file (bytes_in l.given n))
