-- The jobs of the identities in a record.
use Rattle.std.specs.Prelude.{ℕ, Bool, true, ◌&&◌, nat_le, IsTrue}
use Rattle.dfs_record.specs.declared.Entry.TheVariants.{Dir, File}
use Rattle.dfs_record.specs.declared.Record.{Record}
use Rattle.dfs_record.specs.declared.Value.{Value}
use Rattle.dfs_record.specs.declared.Value.TheVariants.{Del, Put}

abbrev pub is_value_within : ℕ → Value → Bool
is_value_within job Del = true
is_value_within job (Put (Dir id mode time)) = nat_le id.job job
is_value_within job (Put (File mode time size reference)) = true

-- the parent and, of a directory, its own identity are of jobs up to this one
abbrev pub is_within : ℕ → Record → Bool
is_within job r = nat_le r.key.parent.job job && is_value_within job r.value

abbrev pub IsWithin : ℕ → Record → Type 0
IsWithin job r = IsTrue (is_within job r)
