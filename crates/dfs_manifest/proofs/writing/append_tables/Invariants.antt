use Rattle.std.proofs.Common.{◌≡◌, ◌++◌, take}
use Rattle.std.specs.List.{flat_map}
use Rattle.dfs_manifest.specs.Manifest.{extent_bytes}
use Rattle.dfs_manifest.proofs.writing.append_tables.Given as goal

abbrev pub invariant-loop-table : goal.invariant-loop-table
invariant-loop-table l = l.out.items ≡ l.initial.out.items ++ flat_map extent_bytes (take l.table-index l.tables)
