-- The names of snapshots, word by word.
use Rattle.std.proofs.Common.{ℕ, List, ◌++◌}
use Rattle.std.specs.Prelude.{map, Option, option_and_then}
use Rattle.dfs_record.specs.declared.SnapName.{SnapName}
use Rattle.dfs_record.specs.Pieces.{each, passing}
use Rattle.dfs_script.specs.Names.{is_names}
use Rattle.dfs_script.specs.Word.{snap_name_of}

-- the names that were read and those still to come
abbrev pub joined : List SnapName → Option (List SnapName) → Option (List SnapName)
joined done more = option_and_then (λ names. passing (is_names (done ++ names)) (done ++ names)) more

abbrev pub snap_names_of : List (List ℕ) → Option (List SnapName)
snap_names_of ws = each (map snap_name_of ws)
