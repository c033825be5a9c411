use Rattle.std.proofs.Common.{◌≡◌, drop}
use Rattle.dfs_mem.specs.Deeds.{deeds_until}
use Rattle.dfs_mem.specs.Track.{said_after}
use Rattle.dfs_mem.proofs.track.heard_until.Given as goal

abbrev pub invariant-loop-kept : goal.invariant-loop-kept
invariant-loop-kept l =
    said_after (deeds_until l.moment (drop l.kept-index l.deeds)) l.said.items ≡ said_after (deeds_until l.moment l.deeds) l.before
