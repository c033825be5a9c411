use Rattle.std.proofs.Common.{◌≡◌, ◌-◌, ◌≤◌, ℕ, length}
use Rattle.dfs_mem.specs.Track.{IsMarked, marks}
use Rattle.dfs_mem.proofs.track.mark.Given as goal

abbrev pub invariant-loop-touched : goal.invariant-loop-touched
invariant-loop-touched l = (place : ℕ) → marks l.touched.items place ≡ marks l.initial.touched.items place

abbrev pub decreases-loop-touched : goal.decreases-loop-touched
decreases-loop-touched l = l.end - length l.touched.items

abbrev pub invariant-loop-place : goal.invariant-loop-place
invariant-loop-place l = (l.end ≤ length l.touched.items) × (l.at ≤ l.place) × IsMarked l.at (l.place - l.at) l.initial.touched.items l.touched.items
