use Rattle.std.proofs.Common.{◌≡◌}
use Rattle.dfs_mem.specs.Images.{left_at, values_of}
use Rattle.dfs_mem.specs.Track.{file_of}
use Rattle.dfs_mem.proofs.track.Track.image.Given as goal

abbrev pub invariant-loop-place : goal.invariant-loop-place
invariant-loop-place l = l.bytes.items ≡ values_of (left_at l.choice.fill (file_of l.self)) l.place
