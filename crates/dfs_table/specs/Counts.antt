-- How many records blocks have.
use Rattle.std.specs.Prelude.{ℕ, List}
use Rattle.std.specs.List.{sum_by}
use Rattle.dfs_fence.specs.declared.fence.Fence.{Fence}

-- how many records the blocks of these fences have
abbrev pub count_of : List Fence → ℕ
count_of fs = sum_by (λ f. f.count) fs
