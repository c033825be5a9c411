-- What was sealed.
use Rattle.std.specs.Prelude.{ℕ, List}
use Rattle.dfs_registry.specs.declared.listed.Listed.{Listed}
use Rattle.dfs_change.specs.declared.sealing.Sealed.{Sealed}

-- the entry of a sealed extent in the log of a job
abbrev pub entry_of : List ℕ → ℕ → Sealed → Listed
entry_of name job sealed = record { name = name; job = job; at = sealed.at; len = sealed.len; count = sealed.count }
