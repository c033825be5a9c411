-- The answers of readers, against what a definition reads.
use Rattle.std.specs.Prelude.{◌≡◌, Option, Some, None, Result, Ok, Err}
use Rattle.dfs_path.specs.declared.PathFault.{PathFault}
use Rattle.dfs_path.specs.declared.PathFault.TheVariants.{Bad, NoMemory}

-- The value that is read, `Bad` where none is. Want of memory says nothing.
abbrev pub IsRead : {A : Type 0} → Result A PathFault → Option A → Type 0
IsRead (Ok x) o = o ≡ Some x
IsRead (Err Bad) o = o ≡ None
IsRead (Err NoMemory) o = Unit {0}
