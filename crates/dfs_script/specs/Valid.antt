-- Which commands are valid: their words, names, paths, modes, references and numbers are, and what they set is in its range.
use Rattle.std.specs.Prelude.{IfSome, IsTrue}
use Rattle.dfs_record.specs.Name.{IsSnapName}
use Rattle.dfs_path.specs.Op.{IsNumber, IsOp}
use Rattle.dfs_script.specs.declared.Line.{Line}
use Rattle.dfs_script.specs.declared.Line.TheVariants.{Nothing, Set, Snapshots, Begin, Space, Flush, Plan, Part, Stats, Publish, End}
use Rattle.dfs_script.specs.Names.{IsNames}
use Rattle.dfs_script.specs.Scopes.{is_parts}
use Rattle.dfs_script.specs.Settings.{is_in_range}
use Rattle.dfs_script.specs.Word.{IsJobWord}

abbrev pub IsLine : Line → Type 0
IsLine Nothing = Unit {0}
IsLine (Set what value) = IsTrue (is_in_range what value)
IsLine Snapshots = Unit {0}
IsLine (Begin job names) = IsJobWord job × IsNames names
IsLine (Space job op) = IsJobWord job × IsOp op
IsLine (Flush job) = IsJobWord job
IsLine (Plan job scope parts) = IsJobWord job × IfSome parts (λ parts. IsTrue (is_parts parts))
IsLine (Part job part) = IsJobWord job × IsNumber part
IsLine (Stats job) = IsJobWord job
IsLine (Publish job name) = IsJobWord job × IsSnapName name
IsLine (End job) = IsJobWord job
