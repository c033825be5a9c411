use Rattle.std.proofs.Common.{◌≡◌, ◌≤◌, ◌-◌, ◌++◌, length, take}
use Rattle.dfs_gen.proofs.source.GenSourceSource.take.Given as goal

abbrev pub invariant-loop-filled : goal.invariant-loop-filled
invariant-loop-filled l = record { within : l.filled ≤ length l.out; moved : l.initial.self ≡ take l.filled l.out ++ l.self }

abbrev pub decreases-loop-filled : goal.decreases-loop-filled
decreases-loop-filled l = length l.out - l.filled
