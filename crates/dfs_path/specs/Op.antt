-- Which operations are valid: their paths, modes and references are, and their numbers have 64 bits.
use Rattle.std.specs.Prelude.{ℕ, ◌<◌, ◌^◌}
use Rattle.dfs_record.specs.Name.{IsReference}
use Rattle.dfs_record.specs.Record.{IsMode}
use Rattle.dfs_path.specs.declared.Op.{Op}
use Rattle.dfs_path.specs.declared.Op.TheVariants.{Mkdir, Create, Unlink, Rmdir, Rename, Setattr, Stat, List}
use Rattle.dfs_path.specs.Path.{IsPath}

abbrev pub IsNumber : ℕ → Type 0
IsNumber number = number < 2 ^ 64

abbrev pub IsOp : Op → Type 0
IsOp (Mkdir path mode time) = IsPath path × IsMode mode × IsNumber time
IsOp (Create path mode time size reference) = IsPath path × IsMode mode × IsNumber time × IsNumber size × IsReference reference
IsOp (Unlink path) = IsPath path
IsOp (Rmdir path) = IsPath path
IsOp (Rename from to) = IsPath from × IsPath to
IsOp (Setattr path mode time) = IsPath path × IsMode mode × IsNumber time
IsOp (Stat path) = IsPath path
IsOp (List path) = IsPath path
