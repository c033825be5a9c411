-- What a plan is seen as.
use Rattle.std.specs.Prelude.{ℕ, List, ◌≤◌}
use Rattle.dfs_record.specs.declared.Key.{Key}
use Rattle.dfs_plan.specs.Parts.{AreSorted}

-- the first keys of all blocks, sorted, and how many parts are made of them
pub record PlanState : Type 0 where
  pub keys : List Key
  pub parts : ℕ

-- a plan's keys are sorted, and it has 1 to 256 parts
pub record IsPlan (keys : List Key) (parts : ℕ) : Type 0 where
  pub sorted : AreSorted keys
  pub some : 1 ≤ parts
  pub most : parts ≤ 256
