-- The example of docs/DISK.md: `abcd` at rest, then `XY` at 1, `Z` at 4, a cut to 2 and a sync.
use Rattle.std.proofs.Common.{◌≡◌, true, false, [], ◌∷◌, refl}
use Rattle.dfs_host.specs.Disk.{FileState, settled_file, written, cut_to, synced}

abbrev first : FileState
first = settled_file (97 ∷ 98 ∷ 99 ∷ 100 ∷ [])

abbrev second : FileState
second = written 1 (88 ∷ 89 ∷ []) first

abbrev third : FileState
third = written 4 (90 ∷ []) second

abbrev fourth : FileState
fourth = cut_to 2 third

reads : fourth.bytes ≡ 97 ∷ 88 ∷ []
reads = refl

grown : third.bytes ≡ 97 ∷ 88 ∷ 89 ∷ 100 ∷ 90 ∷ []
grown = refl

lengths : fourth.least ∷ fourth.greatest ∷ third.least ∷ third.greatest ∷ second.least ∷ second.greatest ∷ [] ≡ 2 ∷ 5 ∷ 4 ∷ 5 ∷ 4 ∷ 4 ∷ []
lengths = refl

places : fourth.touched 0 ∷ fourth.touched 1 ∷ fourth.touched 2 ∷ fourth.touched 3 ∷ fourth.touched 4 ∷ fourth.touched 5 ∷ [] ≡ false ∷ true ∷ true ∷ false ∷ true ∷ false ∷ []
places = refl

settled : (synced fourth) ≡ settled_file (97 ∷ 88 ∷ [])
settled = refl
