-- What the steps of a walk say of the whole walk.
use Rattle.std.specs.Prelude.{◌≡◌, ◌-◌, List, length, slice_get, Option, Some, Result, Ok, Err}
use Rattle.dfs_record.specs.declared.DirId.{DirId}
use Rattle.dfs_record.specs.declared.Key.{Key}
use Rattle.dfs_record.specs.declared.Name.{Name}
use Rattle.dfs_record.specs.declared.Entry.{Entry}
use Rattle.dfs_record.specs.KeyMap.{get}
use Rattle.dfs_record.specs.Namespace.{Namespace}
use Rattle.dfs_walk.specs.declared.Walked.{Walked}
use Rattle.dfs_walk.specs.declared.WalkFault.{WalkFault}
use Rattle.dfs_walk.specs.declared.WalkFault.TheVariants.{NoEnt, NotDir, Fault}
use Rattle.dfs_walk.specs.Walk.{Walk, no_entry, not_dir, at, passing_by, through, walk}

-- how the walk goes on through what was found under a name
abbrev pub Steps : DirId → Option Entry → Result DirId WalkFault → Type 0
Steps dir found (Ok id) = (on : DirId → Walk) → through dir found on ≡ passing_by dir (on id)
Steps dir found (Err NoEnt) = (on : DirId → Walk) → through dir found on ≡ no_entry
Steps dir found (Err NotDir) = (on : DirId → Walk) → through dir found on ≡ not_dir
Steps dir found (Err (Fault fault)) = Unit {0}

-- the end of a walk under a name
abbrev pub place_in : Namespace → DirId → Name → List DirId → Walked
place_in m dir name passed =
    let key : Key = record { parent = dir; name = name } in
    record { place = Some key; found = get m key; passed = passed }

-- where all names but the last one lead
abbrev pub Leads : Namespace → List Name → List DirId → Result DirId WalkFault → Type 0
Leads m path passed (Ok dir) = (name : Name) → slice_get path (length path - 1) ≡ Some name → walk m path ≡ at (place_in m dir name passed)
Leads m path passed (Err NoEnt) = walk m path ≡ no_entry
Leads m path passed (Err NotDir) = walk m path ≡ not_dir
Leads m path passed (Err (Fault fault)) = Unit {0}
