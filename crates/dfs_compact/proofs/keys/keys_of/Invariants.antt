use Rattle.std.proofs.Common.{◌≡◌, take, map}
use Rattle.dfs_compact.specs.Parts.{first_keys}
use Rattle.dfs_compact.proofs.keys.keys_of.Given as goal

abbrev pub invariant-loop-run : goal.invariant-loop-run
invariant-loop-run l = l.keys.items ≡ first_keys (map (λ r. r.value) (take l.run-index l.sources))
