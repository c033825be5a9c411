-- The tables of a run.
use Rattle.std.specs.Prelude.{◌≤◌, List, length, flat_map}
use Rattle.std.specs.List.{AllByRecursion}
use Rattle.dfs_fence.specs.declared.fence.Fence.{Fence}
use Rattle.dfs_fence.specs.Index.{AreApart, AreFences}
use Rattle.dfs_table.specs.declared.table.Table.{Table}

abbrev pub all_fences : List Table → List Fence
all_fences ts = flat_map (λ t. t.fences) ts

-- No table is empty, the fences of each may stand in one index, and the keys rise over all of them.
pub record AreTables (ts : List Table) : Type 0 where
  pub each : AllByRecursion (λ t. AreFences t.fences) ts
  pub some : AllByRecursion (λ t. 1 ≤ length t.fences) ts
  pub rise : AreApart (all_fences ts)
