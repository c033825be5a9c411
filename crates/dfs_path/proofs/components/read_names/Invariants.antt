use Rattle.std.proofs.Common.{◌≡◌, ◌≤◌, true, length}
use Rattle.std.specs.List.{list_all}
use Rattle.dfs_record.specs.Name.{is_name}
use Rattle.dfs_record.specs.Pieces.{pieces}
use Rattle.dfs_path.specs.Path.{below_root}
use Rattle.dfs_path.proofs.Joined.{joined, names_of, left}
use Rattle.dfs_path.proofs.Cuts.{pieces_behind}
use Rattle.dfs_path.proofs.components.read_names.Given as goal

abbrev pub invariant-loop-rest : goal.invariant-loop-rest
invariant-loop-rest l = record {
  read : joined l.names.items (names_of (pieces_behind 47 l.rest)) ≡ below_root (pieces 47 l.components);
  valid : list_all is_name l.names.items ≡ true;
  few : length l.names.items ≤ 64;
}

abbrev pub decreases-loop-rest : goal.decreases-loop-rest
decreases-loop-rest l = left l.rest
