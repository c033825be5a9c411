-- What a registry is seen as, and what is so of every one.
use Rattle.std.specs.Prelude.{◌≡◌, ℕ, Bool, List, [], ◌∷◌, ◌++◌, map}
use Rattle.std.specs.HashSet.{HashSet, contains}
use Rattle.std.specs.Prelude.{nat_eq}
use Rattle.std.specs.Map.{keys_of, values_of}
use Rattle.dfs_registry.specs.declared.listed.Listed.{Listed}
use Rattle.dfs_registry.specs.Body.{body, greatest_job, lists_job}
use Rattle.dfs_registry.specs.Reading.{IsBody, IsListing, gate_of}

-- A registry: its publications in order, how many more it has room for, and whether it is spent.
pub record RegistryState : Type 0 where
  pub entries : List Listed
  pub spare : ℕ
  pub spent : Bool

-- its publications, and how many more it has room for
pub record EntriesState : Type 0 where
  pub items : List Listed
  pub spare : ℕ

-- each publication stands at its name
abbrev pub AreNamed : List (List ℕ × Listed) → Type 0
AreNamed entries = keys_of entries ≡ map (λ b. b.name) (values_of entries)

-- an index of the publications by name, and their greatest job
pub record IsIndexed (entries : List (List ℕ × Listed)) (job : ℕ) : Type 0 where
  pub named : AreNamed entries
  pub greatest : job ≡ greatest_job (values_of entries)

-- the standing gate is behind these publications
pub record IsPlaced (bs : List Listed) (gate : ℕ) : Type 0 where
  pub listing : IsListing bs
  pub place : gate ≡ gate_of bs

-- a publication with its name once more, and its bytes with a closed gate
pub record IsPrepared (b : Listed) (name bytes : List ℕ) : Type 0 where
  pub named : name ≡ b.name
  pub spelled : bytes ≡ body b ++ 0 ∷ []
  pub fits : IsBody b

-- the set has the jobs of these publications
abbrev pub HasJobs : {S : Type 0} → HashSet ℕ S → List Listed → Type 0
HasJobs jobs bs = (job : ℕ) → contains nat_eq jobs job ≡ lists_job bs job
