use Rattle.std.proofs.Common.{◌≡◌, ◌++◌, take, map}
use Rattle.dfs_table.specs.Tables.{all_fences}
use Rattle.dfs_compact.proofs.keys.add_run.Given as goal

abbrev pub invariant-loop-index : goal.invariant-loop-index
invariant-loop-index l = l.keys.items ≡ l.initial.keys.items ++ map (λ f. f.first) (all_fences (take l.index l.run.tables))
