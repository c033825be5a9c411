-- What a plan is asked for: the word of each scope, and how many parts it can have.
use Rattle.std.specs.Prelude.{ℕ, Bool, List, codes}
use Rattle.dfs_record.specs.Name.{is_between}
use Rattle.dfs_path.specs.declared.Scope.{Scope}
use Rattle.dfs_path.specs.declared.Scope.TheVariants.{Own, All}

abbrev pub scope_word : Scope → List ℕ
scope_word Own = codes "own"
scope_word All = codes "all"

-- how many parts a plan can have, both ends among them
abbrev pub is_parts : ℕ → Bool
is_parts parts = is_between 1 256 parts
