-- The state of one file as a Track has it, and what deeds do to it.
use Rattle.std.specs.Prelude.{◌≡◌, ℕ, Bool, false, ◌||◌, nat_eq, slice_index_or, List, [], ◌∷◌, ◌++◌, take, if◌then◌else◌, ◌==◌}
use Rattle.std.specs.Option.{option_map_or}
use Rattle.std.specs.HashMap.{HashMap, get}
use Rattle.std.specs.declared.hash.FoldHasher.{FoldHasher}
use Rattle.std.specs.declared.hash.BuildHasherDefault.{BuildHasherDefault}
use Rattle.dfs_host.specs.Disk.{FileState, is_within, settled_file, written, cut_to, synced}
use Rattle.dfs_mem.specs.declared.deed.Deed.{Deed}
use Rattle.dfs_mem.specs.declared.deed.Deed.TheVariants.{Write, Cut, Sync, Say}
use Rattle.dfs_mem.specs.declared.deed.Kept.{Kept}
use Rattle.dfs_mem.specs.declared.track.Track.{Track}
use Rattle.dfs_mem.specs.Deeds.{tried}

-- whether the place is marked
abbrev pub marks : List Bool → ℕ → Bool
marks touched place = slice_index_or touched place false

-- so many more places from one on
abbrev pub IsMarked : ℕ → ℕ → List Bool → List Bool → Type 0
IsMarked at count old new = (place : ℕ) → marks new place ≡ (marks old place || is_within at count place)

abbrev pub file_of : Track → FileState
file_of track = record {
  bytes = track.bytes.items;
  settled = track.settled.items;
  touched = λ place. marks track.touched.items place;
  least = track.least;
  greatest = track.greatest;
}

-- in a map: a file that is missing has no bytes and nothing touched
abbrev pub track_at : HashMap ℕ Track (BuildHasherDefault FoldHasher) → ℕ → FileState
track_at tracks n = option_map_or file_of (get nat_eq tracks n) (settled_file [])

-- what a deed does to file n
abbrev pub file_step : ℕ → Deed → FileState → FileState
file_step n (Write m patch done) file = if n == m then tried done (written patch.at patch.bytes.items file) file else file
file_step n (Cut m len done) file = if n == m then tried done (cut_to len file) file else file
file_step n (Sync m) file = if n == m then synced file else file
file_step n (Say bytes count) file = file

-- what these deeds do to file n, the first of them first
abbrev pub file_after : ℕ → List Kept → FileState → FileState
file_after n [] file = file
file_after n (kept ∷ deeds) file = file_after n deeds (file_step n kept.deed file)

-- what a deed does to what was said
abbrev pub said_step : Deed → List ℕ → List ℕ
said_step (Write m patch done) said = said
said_step (Cut m len done) said = said
said_step (Sync m) said = said
said_step (Say bytes count) said = said ++ take count bytes.items

abbrev pub said_after : List Kept → List ℕ → List ℕ
said_after [] said = said
said_after (kept ∷ deeds) said = said_after deeds (said_step kept.deed said)
