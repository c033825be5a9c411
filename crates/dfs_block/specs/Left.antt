-- What is left of the records of a block.
use Rattle.std.specs.Prelude.{ℕ, List, [], ◌∷◌, Option, Some, None}
use mathlib.Core.HLevel.{Unit-prop}
use Rattle.dfs_record.specs.declared.Record.{Record}
use Rattle.dfs_record.specs.declared.RecordRef.{RecordRef}
use Rattle.dfs_record.specs.Lend.{record_of}
use Rattle.dfs_record.specs.Record.{IsRecord}
use Rattle.dfs_record.specs.Valid.{IsRecord-prop}
use Rattle.dfs_block.specs.Front.{records_front}

-- the first record, and up to so many behind it
abbrev pub records_left : Option RecordRef → ℕ → List ℕ → List Record
records_left None left behind = []
records_left (Some r) left behind = record_of r ∷ records_front left behind

abbrev pub IsFirst : Option RecordRef → Type 0
IsFirst None = Unit {0}
IsFirst (Some r) = IsRecord (record_of r)

pub IsFirst-prop : (o : Option RecordRef) → IsProp (IsFirst o)
IsFirst-prop None = Unit-prop
IsFirst-prop (Some r) = IsRecord-prop (record_of r)
