-- Lists of the names of snapshots.
use Rattle.std.specs.Prelude.{Bool, ◌&&◌, nat_le, List, length, IsTrue}
use Rattle.std.specs.List.{list_all}
use Rattle.dfs_record.specs.declared.SnapName.{SnapName}
use Rattle.dfs_record.specs.Name.{is_snap_name}

-- at most 64 names
abbrev pub is_names : List SnapName → Bool
is_names names = list_all is_snap_name names && nat_le (length names) 64

abbrev pub IsNames : List SnapName → Type 0
IsNames names = IsTrue (is_names names)
