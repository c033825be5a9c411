use Rattle.std.proofs.Common.{◌≡◌, ◌≤◌, true, length}
use Rattle.std.specs.List.{list_all}
use Rattle.dfs_record.specs.Name.{is_snap_name}
use Rattle.dfs_record.specs.Pieces.{words}
use Rattle.dfs_script.specs.Line.{names_of}
use Rattle.dfs_script.proofs.Selected.{joined, snap_names_of}
use Rattle.dfs_script.proofs.read.read_names.Given as goal

abbrev pub invariant-loop-word : goal.invariant-loop-word
invariant-loop-word l = record {
  read : joined l.names.items (snap_names_of (words 32 l.rest)) ≡ names_of (words 32 l.line);
  valid : list_all is_snap_name l.names.items ≡ true;
  few : length l.names.items ≤ 64;
}

abbrev pub decreases-loop-word : goal.decreases-loop-word
decreases-loop-word l = length l.rest
