-- What records show of a directory.
use Rattle.std.specs.Prelude.{◌≡◌, List, [], ◌∷◌, flat_map, Option, Some, None}
use Rattle.dfs_record.specs.declared.DirId.{DirId}
use Rattle.dfs_record.specs.declared.Entry.{Entry}
use Rattle.dfs_record.specs.declared.Key.{Key}
use Rattle.dfs_record.specs.declared.Name.{Name}
use Rattle.dfs_record.specs.declared.Record.{Record}
use Rattle.dfs_record.specs.declared.Value.{Value}
use Rattle.dfs_record.specs.declared.Value.TheVariants.{Del, Put}
use Rattle.dfs_space.specs.Span.{first_key, next_dir}

-- a put shows its name and entry, a deletion nothing
abbrev pub shown : Name → Value → List (Name × Entry)
shown name Del = []
shown name (Put entry) = (name, entry) ∷ []

abbrev pub shown_of : Record → List (Name × Entry)
shown_of r = shown r.key.name r.value

abbrev pub listed : List Record → List (Name × Entry)
listed rs = flat_map shown_of rs

abbrev pub first_of : Option DirId → Option Key
first_of None = None
first_of (Some dir) = Some (first_key dir)

-- the keys of a directory lie below this one, where there is one
abbrev pub end_key : DirId → Option Key
end_key dir = first_of (next_dir dir)

-- what is answered of a record is what it shows
abbrev pub shows : Record → Option (Name × Entry) → Type 0
shows r None = shown_of r ≡ []
shows r (Some child) = shown_of r ≡ child ∷ []
