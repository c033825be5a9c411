-- The files that are open.
use Rattle.std.specs.Prelude.{◌≡◌, ◌<◌, ℕ, List, [], ◌∷◌, ◌++◌, Some, slice_get, remove, vec_len}
use Rattle.std.specs.declared.fs.File.{File}
use Rattle.dfs_folder.specs.declared.opened.OpenFile.{OpenFile}
use Rattle.dfs_folder.specs.declared.opened.OpenFiles.{OpenFiles}

-- some file is open, so one was used last
abbrev pub HasLatest : OpenFiles → Type 0
HasLatest open_files = 0 < vec_len open_files.files

-- the file used last is that of this number
abbrev pub IsLatest : ℕ → OpenFiles → Type 0
IsLatest number open_files = (others : List OpenFile) × (used : OpenFile) × (open_files.files.items ≡ others ++ used ∷ []) × (used.number ≡ number)

-- one of these open files has this number; it stands last now, and the others as before
pub record MovesLast (number : ℕ) (old new : List OpenFile) : Type 0 where
  pub place : ℕ
  pub used : OpenFile
  pub found : slice_get old place ≡ Some used
  pub numbered : used.number ≡ number
  pub moved : new ≡ remove old place ++ used ∷ []

-- the file used last is this one
abbrev pub EndsWith : File → OpenFiles → Type 0
EndsWith file open_files = (others : List OpenFile) × (number : ℕ) × (open_files.files.items ≡ others ++ record { number = number; file = file } ∷ [])
