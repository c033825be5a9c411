-- What a namespace has in a directory.
use Rattle.std.specs.Prelude.{Bool, List, map, filter}
use Rattle.std.specs.List.{list_any}
use Rattle.std.specs.Ordering.{is_eq}
use Rattle.dfs_record.specs.declared.DirId.{DirId}
use Rattle.dfs_record.specs.declared.Key.{Key}
use Rattle.dfs_record.specs.declared.Name.{Name}
use Rattle.dfs_record.specs.declared.Entry.{Entry}
use Rattle.dfs_record.specs.Name.{IsName}
use Rattle.dfs_record.specs.Record.{IsEntry}
use Rattle.dfs_record.specs.Key.{dir_cmp}
use Rattle.dfs_record.specs.Namespace.{Namespace}

abbrev pub is_same_dir : DirId → DirId → Bool
is_same_dir a b = is_eq (dir_cmp a b)

abbrev pub is_in : DirId → Key × Entry → Bool
is_in dir e = is_same_dir e.0.parent dir

-- the name in its directory, with its entry
abbrev pub child_of : Key × Entry → Name × Entry
child_of e = (e.0.name, e.1)

-- the names in a directory with their entries, by the bytes of the names
abbrev pub children : Namespace → DirId → List (Name × Entry)
children m dir = map child_of (filter (is_in dir) m.entries)

-- whether the directory has a child
abbrev pub has_child : Namespace → DirId → Bool
has_child m dir = list_any (is_in dir) m.entries

-- a valid name with a valid entry
pub record IsChild (child : Name × Entry) : Type 0 where
  pub name : IsName child.0
  pub entry : IsEntry child.1
