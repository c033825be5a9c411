-- The state of one file, followed through the deeds.
use Rattle.std.proofs.Common.{◌≡◌, inl, inr, Option, Some, ℕ, ◌+◌, ◌<◌, ◌≤◌, Bool, true, false, cond, eqb, leb, List, [], ◌∷◌, ◌++◌, length, get_or, drop, refl, sym, ◌∙◌, ap, add-one}
use Rattle.std.proofs.lemmas.Bool.{le-leb, lt-leb}
use Rattle.std.proofs.lemmas.Bool.Decides.{eqb_tells}
use Rattle.std.proofs.lemmas.List.{drop_more}
use Rattle.std.specs.Option.{option_map_or}
use Rattle.std.specs.HashMap.{HashMap, get}
use Rattle.std.specs.declared.hash.FoldHasher.{FoldHasher}
use Rattle.std.specs.declared.hash.BuildHasherDefault.{BuildHasherDefault}
use Rattle.dfs_host.specs.Disk.{FileState, Disk, settled_file, written, cut_to, synced}
use Rattle.dfs_mem.specs.declared.deed.Deed.{Deed}
use Rattle.dfs_mem.specs.declared.deed.Deed.TheVariants.{Write, Cut, Sync, Say}
use Rattle.dfs_mem.specs.declared.deed.Kept.{Kept}
use Rattle.dfs_mem.specs.Deeds.{step, disk_after, deeds_until, put, tried}
use Rattle.dfs_mem.specs.Images.{values_of}
use Rattle.dfs_mem.specs.declared.track.Track.{Track}
use Rattle.dfs_mem.proofs.Given.{picked}
use Rattle.dfs_mem.specs.Track.{file_of, track_at, file_step, file_after, said_step, said_after}

pub same_file : (a b : FileState) → a.bytes ≡ b.bytes → a.settled ≡ b.settled → ((place : ℕ) → a.touched place ≡ b.touched place) → a.least ≡ b.least → a.greatest ≡ b.greatest → a ≡ b
same_file a b bytes settled touched least greatest = λ i. record { bytes = bytes i; settled = settled i; touched = λ place. touched place i; least = least i; greatest = greatest i }

pub values_more : (f : ℕ → ℕ) (n : ℕ) → values_of f (n + 1) ≡ values_of f n ++ f n ∷ []
values_more f n = ap (λ k. values_of f k) (add-one n)

-- the deed at place i, and the rest

until_drop : (deeds : List Kept) (i moment : ℕ) (kept : Kept) → i < length deeds → kept ≡ get_or deeds i kept
    → deeds_until moment (drop i deeds) ≡ cond (leb kept.call moment) (kept ∷ deeds_until moment (drop (i + 1) deeds)) []
until_drop deeds i moment kept below is =
    ap (λ (l : List Kept). deeds_until moment l) (drop_more deeds i kept below ∙ ap (λ (k : Kept). k ∷ drop (i + 1) deeds) (sym is))

pub until_goes : (deeds : List Kept) (i moment : ℕ) (kept : Kept) → i < length deeds → kept ≡ get_or deeds i kept → kept.call ≤ moment
    → deeds_until moment (drop i deeds) ≡ kept ∷ deeds_until moment (drop (i + 1) deeds)
until_goes deeds i moment kept below is early =
    until_drop deeds i moment kept below is
    ∙ ap (λ b. cond b (kept ∷ deeds_until moment (drop (i + 1) deeds)) []) (le-leb kept.call moment early)

pub until_ends : (deeds : List Kept) (i moment : ℕ) (kept : Kept) → i < length deeds → kept ≡ get_or deeds i kept → moment < kept.call
    → deeds_until moment (drop i deeds) ≡ []
until_ends deeds i moment kept below is late =
    until_drop deeds i moment kept below is
    ∙ ap (λ b. cond b (kept ∷ deeds_until moment (drop (i + 1) deeds)) []) (lt-leb kept.call moment late)

put_file : (n m : ℕ) (next : FileState → FileState) (disk : Disk) → (put m (next (disk.files m)) disk).files n ≡ cond (eqb n m) (next (disk.files n)) (disk.files n)
put_file n m next disk = elim (eqb_tells n m) [
  | inl hit ↦ ap (λ b. cond b (next (disk.files m)) (disk.files n)) hit.0 ∙ ap (λ k. next (disk.files k)) (sym hit.1) ∙ sym (ap (λ b. cond b (next (disk.files n)) (disk.files n)) hit.0)
  | inr miss ↦ ap (λ b. cond b (next (disk.files m)) (disk.files n)) miss.0 ∙ sym (ap (λ b. cond b (next (disk.files n)) (disk.files n)) miss.0)
]

step_file : (n : ℕ) (deed : Deed) (disk : Disk) → (step deed disk).files n ≡ file_step n deed (disk.files n)
step_file n (Write m patch done) disk = put_file n m (λ file. tried done (written patch.at patch.bytes.items file) file) disk
step_file n (Cut m len done) disk = put_file n m (λ file. tried done (cut_to len file) file) disk
step_file n (Sync m) disk = put_file n m (λ file. synced file) disk
step_file n (Say bytes count) disk = refl

pub disk_file : (n : ℕ) (deeds : List Kept) (disk : Disk) → (disk_after deeds disk).files n ≡ file_after n deeds (disk.files n)
disk_file n [] disk = refl
disk_file n (kept ∷ deeds) disk = disk_file n deeds (step kept.deed disk) ∙ ap (λ (file : FileState). file_after n deeds file) (step_file n kept.deed disk)

step_said : (deed : Deed) (disk : Disk) → (step deed disk).said ≡ said_step deed disk.said
step_said (Write m patch done) disk = refl
step_said (Cut m len done) disk = refl
step_said (Sync m) disk = refl
step_said (Say bytes count) disk = refl

pub disk_said : (deeds : List Kept) (disk : Disk) → (disk_after deeds disk).said ≡ said_after deeds disk.said
disk_said [] disk = refl
disk_said (kept ∷ deeds) disk = disk_said deeds (step kept.deed disk) ∙ ap (λ (said : List ℕ). said_after deeds said) (step_said kept.deed disk)

-- All files, followed in a map.

-- a file more
pub track_at-put : (old new : HashMap ℕ Track (BuildHasherDefault FoldHasher)) (k n : ℕ) (track : Track) → get eqb new n ≡ cond (eqb k n) (Some track) (get eqb old n)
    → track_at new n ≡ cond (eqb k n) (file_of track) (track_at old n)
track_at-put old new k n track is =
    ap (λ (o : Option Track). option_map_or file_of o (settled_file [])) is ∙ picked (eqb k n) file_of track (get eqb old n) (settled_file [])

pub settled_cond : (b : Bool) (bytes other : List ℕ) → cond b (settled_file bytes) (settled_file other) ≡ settled_file (cond b bytes other)
settled_cond true bytes other = refl
settled_cond false bytes other = refl
