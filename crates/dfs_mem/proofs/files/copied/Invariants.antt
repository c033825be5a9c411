use Rattle.std.proofs.Common.{◌≡◌, ℕ, take}
use Rattle.dfs_mem.specs.Files.{bytes_at, bytes_in}
use Rattle.dfs_mem.proofs.files.copied.Given as goal

abbrev pub invariant-loop-number : goal.invariant-loop-number
invariant-loop-number l = (n : ℕ) → bytes_at l.files n ≡ bytes_in (take l.number-index l.given) n
