-- A source of one kind or of another.
use Rattle.std.specs.Prelude.{List}
use Rattle.dfs_record.specs.declared.Record.{Record}
use Rattle.dfs_record.specs.Records.{Files}
use Rattle.dfs_cursor.specs.declared.either.EitherRecords.{EitherRecords}
use Rattle.dfs_cursor.specs.declared.either.EitherRecords.TheVariants.{First, Second}

-- what a meaning of the two kinds gives at the source inside
abbrev pub of_inside : {A B T : Type 0} → (A → T) → (B → T) → EitherRecords A B → T
of_inside first second (First x) = first x
of_inside first second (Second y) = second y

-- the same for the records still to come, whose meaning is a relation
abbrev pub ComesInside : {A B : Type 0} → (A → Files → List Record → Type 0) → (B → Files → List Record → Type 0) → EitherRecords A B → Files → List Record → Type 0
ComesInside first second (First x) = first x
ComesInside first second (Second y) = second y
