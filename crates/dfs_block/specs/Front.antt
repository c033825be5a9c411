-- What bytes begin with.
use Rattle.std.specs.Prelude.{ℕ, zero, suc, List, [], ◌∷◌, Option, Some, None}
use Rattle.dfs_record.specs.declared.Record.{Record}
use Rattle.dfs_record.specs.Reading.{record_at}

abbrev pub first_and : {A : Type 0} → Option (A × List ℕ) → (List ℕ → List A) → List A
first_and None more = []
first_and (Some x) more = x.0 ∷ more x.1

-- up to so many things that the first bytes spell, one after the other
unfoldable pub so_many : {A : Type 0} → (List ℕ → Option (A × List ℕ)) → ℕ → List ℕ → List A
so_many read zero bytes = []
so_many read (suc count) bytes = first_and (read bytes) (λ rest. so_many read count rest)

-- up to so many records
unfoldable pub records_front : ℕ → List ℕ → List Record
unfolding so_many
records_front count bytes = so_many record_at count bytes
