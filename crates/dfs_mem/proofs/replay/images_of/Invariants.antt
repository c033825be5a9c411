use Rattle.std.proofs.Common.{◌≡◌, ℕ, List, ◌++◌}
use Rattle.dfs_mem.specs.declared.track.Track.{Track}
use Rattle.dfs_mem.proofs.Images.{AreImages}
use Rattle.dfs_mem.proofs.replay.images_of.Given as goal

abbrev pub invariant-loop-number : goal.invariant-loop-number
invariant-loop-number l = record {
  before : List (ℕ × Track);
  split : before ++ l.number-iterator ≡ l.tracks.entries;
  images : AreImages l.choice before l.images.items;
}
