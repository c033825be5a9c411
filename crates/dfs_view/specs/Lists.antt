-- The layers of a job as lists of records.
use Rattle.std.specs.Prelude.{ℕ, ◌==◌, if◌then◌else◌, List, [], ◌∷◌, ◌++◌, length, flat_map}
use Rattle.dfs_record.specs.declared.Record.{Record}

-- The closed layers, the oldest first, and the open one.
pub record Layered : Type 0 where
  pub closed : List (List Record)
  pub open_ : List Record

-- a record goes to the end of the open layer, which closes where it then has so many
abbrev pub add_one : ℕ → Layered → Record → Layered
add_one limit l r =
    if length (l.open_ ++ r ∷ []) == limit then record { closed = l.closed ++ (l.open_ ++ r ∷ []) ∷ []; open_ = [] }
    else record { closed = l.closed; open_ = l.open_ ++ r ∷ [] }

abbrev pub add_all : ℕ → Layered → List Record → Layered
add_all limit l [] = l
add_all limit l (r ∷ rs) = add_all limit (add_one limit l r) rs

-- all their records in order
abbrev pub joined : Layered → List Record
joined l = flat_map (λ rs. rs) l.closed ++ l.open_

abbrev pub closed_by : List Record → Layered → Layered
closed_by [] l = l
closed_by (r ∷ rs) l = record { closed = l.closed ++ (r ∷ rs) ∷ []; open_ = [] }

-- the open layer closes, where it has a record
abbrev pub flushed : Layered → Layered
flushed l = closed_by l.open_ l
