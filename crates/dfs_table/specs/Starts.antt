-- Where the blocks of a table begin among the bytes that it holds.
use Rattle.std.specs.Prelude.{ℕ, ◌+◌, List, [], ◌∷◌}
use Rattle.dfs_fence.specs.declared.fence.Fence.{Fence}

-- The first begins at the given place, and each other where the one before it ends.
abbrev pub starts_from : ℕ → List Fence → List ℕ
starts_from place [] = []
starts_from place (f ∷ fs) = place ∷ starts_from (place + f.len) fs
