-- The images of a disk: each is possible, and all files are among them.
use Rattle.std.proofs.Common.{◌≡◌, ◌⊎◌, inl, inr, ⊎_elim, ℕ, suc, zero, ◌+◌, ◌-◌, ◌<◌, ◌≤◌, Bool, true, false, not, cond, eqb, leb, List, [], ◌∷◌, ◌++◌, length, get_or, map, refl, sym, ◌∙◌, ap, subst, add-one, arith, Vec, Option, Some, length-append}
use Rattle.std.proofs.lemmas.Bool.{and_from, cases_lt}
use Rattle.std.proofs.lemmas.Bool.Decides.{nat_tests}
use Rattle.std.proofs.lemmas.List.{get_or_append_left, get_or-append_right}
use Rattle.std.proofs.lemmas.Map.Keys.{IsDistinct-head, IsDistinct-tail}
use Rattle.std.specs.List.{IsDistinct, AllByRecursion}
use Rattle.std.specs.Map.{lookup}
use Rattle.std.specs.Option.{option_map_or}
use Rattle.std.specs.declared.alloc.Global.{Global}
use Rattle.dfs_host.specs.Disk.{FileState, Disk, Image, MayLeave, IsImage, settled_file, written, cut_to, synced}
use Rattle.dfs_host.specs.Host.{LeftBy}
use Rattle.dfs_mem.specs.declared.choice.Choice.{Choice}
use Rattle.dfs_mem.specs.declared.choice.Length.{Length}
use Rattle.dfs_mem.specs.declared.choice.Length.TheVariants.{Least, Greatest}
use Rattle.dfs_mem.specs.declared.deed.Deed.{Deed}
use Rattle.dfs_mem.specs.declared.deed.Deed.TheVariants.{Write, Cut, Sync, Say}
use Rattle.dfs_mem.specs.declared.deed.Kept.{Kept}
use Rattle.dfs_mem.specs.declared.disk.MemDisk.{MemDisk}
use Rattle.dfs_mem.specs.declared.track.Track.{Track}
use Rattle.dfs_mem.specs.Deeds.{step, passed, disk_after, disks_before, deeds_until, start_disk, tried}
use Rattle.dfs_mem.specs.Files.{bytes_in, is_missing, numbers_differ}
use Rattle.dfs_mem.specs.Images.{disk_until, length_of, fill_at, left_at, values_of, image_of}
use Rattle.dfs_mem.specs.Track.{file_of, file_step, file_after}
use Rattle.dfs_mem.proofs.Steps.{left_first, left_last, first_spoken}
use Rattle.dfs_mem.proofs.Tracks.{disk_file}

-- An image is possible.

length_values : (f : ℕ → ℕ) (n : ℕ) → length (values_of f n) ≡ n
length_values f zero = refl
length_values f (suc n) = length-append (values_of f n) (f n ∷ []) ∙ ap (λ k. k + 1) (length_values f n) ∙ add-one n

value_at : (f : ℕ → ℕ) (n place : ℕ) → place < n → get_or (values_of f n) place 0 ≡ f place
value_at f zero place below = absurd (omega arith)
value_at f (suc n) place below = elim (cases_lt place n) [
  | inl lt ↦ get_or_append_left (values_of f n) (f n ∷ []) 0 place (omega (arith, lt, length_values f n)) ∙ value_at f n place lt
  | inr le ↦
      let is : place ≡ n = omega (arith, below, le) in
      let first : place - n ≡ 0 = omega (arith, is) in
      get_or-append_right (values_of f n) (f n ∷ []) n place 0 (length_values f n) le
      ∙ ap (λ k. get_or (f n ∷ []) k 0) first
      ∙ ap f (sym is)
]

length_between : (length : Length) (file : FileState) → file.least ≤ file.greatest → (file.least ≤ length_of length file) × (length_of length file ≤ file.greatest)
length_between Least file order = (omega arith, order)
length_between Greatest file order = (order, omega arith)

pub image_possible : (choice : Choice) (file : FileState) → file.least ≤ file.greatest → MayLeave file (image_of choice file)
image_possible choice file order =
    let long = length_values (left_at choice.fill file) (length_of choice.length file) in
    let between = length_between choice.length file order in
    record {
      no_shorter = omega (arith, long, between.0);
      no_longer = omega (arith, long, between.1);
      untouched = λ place below out.
          value_at (left_at choice.fill file) (length_of choice.length file) place (omega (arith, below, long))
          ∙ ap (λ b. cond b (fill_at choice.fill file place) (get_or file.settled place 0)) out;
    }

pick_order : (b : Bool) (next file : FileState) → next.least ≤ next.greatest → file.least ≤ file.greatest → (cond b next file).least ≤ (cond b next file).greatest
pick_order true next file here there = here
pick_order false next file here there = there

step_order : (n : ℕ) (deed : Deed) (file : FileState) → file.least ≤ file.greatest → (file_step n deed file).least ≤ (file_step n deed file).greatest
step_order n (Write m patch done) file order = pick_order (eqb n m) (tried done (written patch.at patch.bytes.items file) file) file (omega (arith, order)) order
step_order n (Cut m len done) file order = pick_order (eqb n m) (tried done (cut_to len file) file) file (omega (arith, order)) order
step_order n (Sync m) file order = pick_order (eqb n m) (synced file) file (omega arith) order
step_order n (Say bytes count) file order = order

after_order : (n : ℕ) (deeds : List Kept) (file : FileState) → file.least ≤ file.greatest → (file_after n deeds file).least ≤ (file_after n deeds file).greatest
after_order n [] file order = order
after_order n (kept ∷ deeds) file order = after_order n deeds (file_step n kept.deed file) (step_order n kept.deed file order)

-- the least length is not above the greatest
pub in_order : (mem : MemDisk) (moment n : ℕ) → ((disk_until mem moment).files n).least ≤ ((disk_until mem moment).files n).greatest
in_order mem moment n =
    subst (λ (file : FileState). file.least ≤ file.greatest) (sym (disk_file n (deeds_until moment mem.deeds.items) (start_disk mem.start.items mem.start_said.items)))
    (after_order n (deeds_until moment mem.deeds.items) (settled_file (bytes_in mem.start.items n)) (omega arith))

-- The disk at a moment is the present one or one of the past.

first_passed : (deed : Deed) (disk : Disk) (image : Image) → IsImage disk image → LeftBy (passed deed disk) image
first_passed (Write n patch done) disk image is = inl is
first_passed (Cut n len done) disk image is = inl is
first_passed (Sync n) disk image is = inl is
first_passed (Say bytes count) disk image is = first_spoken bytes.items disk image is

pub left_at_moment : (moment : ℕ) (deeds : List Kept) (disk : Disk) (image : Image) → IsImage (disk_after (deeds_until moment deeds) disk) image
    → IsImage (disk_after deeds disk) image ⊎ LeftBy (disks_before deeds disk) image
left_at_moment moment [] disk image is = inl is
left_at_moment moment (kept ∷ deeds) disk image is = at_first (left_at_moment moment deeds (step kept.deed disk) image) (leb kept.call moment) is
  where
    at_first : (IsImage (disk_after (deeds_until moment deeds) (step kept.deed disk)) image
        → IsImage (disk_after deeds (step kept.deed disk)) image ⊎ LeftBy (disks_before deeds (step kept.deed disk)) image)
        → (b : Bool) → IsImage (disk_after (cond b (kept ∷ deeds_until moment deeds) []) disk) image
        → IsImage (disk_after (kept ∷ deeds) disk) image ⊎ LeftBy (disks_before (kept ∷ deeds) disk) image
    at_first later true here =
        ⊎_elim (λ now. inl now) (λ back. inr (left_last (passed kept.deed disk) (disks_before deeds (step kept.deed disk)) image back)) (later here)
    at_first later false here = inr (left_first (passed kept.deed disk) (disks_before deeds (step kept.deed disk)) image (first_passed kept.deed disk image here))

-- All files have an image.

flip : (a b : ℕ) → eqb a b ≡ eqb b a
flip a b = grind (arith, nat_tests)

-- at the place of each track there is the file's image
abbrev pub AreImages : Choice → List (ℕ × Track) → List (ℕ × Vec ℕ Global) → Type 0
AreImages choice [] [] = Unit {0}
AreImages choice [] (file ∷ files) = ⊥
AreImages choice (entry ∷ entries) [] = ⊥
AreImages choice (entry ∷ entries) (file ∷ files) = (file.0 ≡ entry.0) × (file.1.items ≡ image_of choice (file_of entry.1)) × AreImages choice entries files

pub AreImages-push : (choice : Choice) (entries : List (ℕ × Track)) (files : List (ℕ × Vec ℕ Global)) (entry : ℕ × Track) (file : ℕ × Vec ℕ Global)
    → AreImages choice entries files → file.0 ≡ entry.0 → file.1.items ≡ image_of choice (file_of entry.1) → AreImages choice (entries ++ entry ∷ []) (files ++ file ∷ [])
AreImages-push choice [] [] entry file are number bytes = (number, bytes, tt)
AreImages-push choice [] (first ∷ files) entry file are number bytes = absurd are
AreImages-push choice (first ∷ entries) [] entry file are number bytes = absurd are
AreImages-push choice (first ∷ entries) (one ∷ files) entry file are number bytes = (are.0, are.1, AreImages-push choice entries files entry file are.2 number bytes)

no_bytes : (choice : Choice) → image_of choice (settled_file []) ≡ []
no_bytes choice = nothing choice.length
  where
    nothing : (length : Length) → values_of (left_at choice.fill (settled_file [])) (length_of length (settled_file [])) ≡ []
    nothing Least = refl
    nothing Greatest = refl

-- an image that stands in front, or one behind it
in_front : (choice : Choice) (b : Bool) (track : Track) (other : Option Track)
    → cond b (image_of choice (file_of track)) (image_of choice (option_map_or file_of other (settled_file []))) ≡ image_of choice (option_map_or file_of (cond b (Some track) other) (settled_file []))
in_front choice true track other = refl
in_front choice false track other = refl

pub images_bytes : (choice : Choice) (entries : List (ℕ × Track)) (files : List (ℕ × Vec ℕ Global)) (n : ℕ) → AreImages choice entries files
    → bytes_in files n ≡ image_of choice (option_map_or file_of (lookup (eqb n) entries) (settled_file []))
images_bytes choice [] [] n are = sym (no_bytes choice)
images_bytes choice [] (file ∷ files) n are = absurd are
images_bytes choice (entry ∷ entries) [] n are = absurd are
images_bytes choice (entry ∷ entries) (file ∷ files) n are =
    ap (λ b. cond b file.1.items (bytes_in files n)) (ap (λ k. eqb k n) are.0 ∙ flip entry.0 n)
    ∙ ap (λ (l : List ℕ). cond (eqb n entry.0) l (bytes_in files n)) are.1
    ∙ ap (λ (l : List ℕ). cond (eqb n entry.0) (image_of choice (file_of entry.1)) l) (images_bytes choice entries files n are.2)
    ∙ in_front choice (eqb n entry.0) entry.1 (lookup (eqb n) entries)

images_missing : (choice : Choice) (entries : List (ℕ × Track)) (files : List (ℕ × Vec ℕ Global)) (n : ℕ) → AreImages choice entries files
    → AllByRecursion (λ k. eqb n k ≡ false) (map (λ (e : ℕ × Track). e.0) entries) → is_missing n files ≡ true
images_missing choice [] [] n are apart = refl
images_missing choice [] (file ∷ files) n are apart = absurd are
images_missing choice (entry ∷ entries) [] n are apart = absurd are
images_missing choice (entry ∷ entries) (file ∷ files) n are apart =
    and_from _ _ (ap not (ap (λ k. eqb k n) are.0 ∙ flip entry.0 n ∙ apart.0)) (images_missing choice entries files n are.2 apart.1)

pub images_differ : (choice : Choice) (entries : List (ℕ × Track)) (files : List (ℕ × Vec ℕ Global)) → AreImages choice entries files
    → IsDistinct eqb (map (λ (e : ℕ × Track). e.0) entries) → numbers_differ files ≡ true
images_differ choice [] [] are distinct = refl
images_differ choice [] (file ∷ files) are distinct = absurd are
images_differ choice (entry ∷ entries) [] are distinct = absurd are
images_differ choice (entry ∷ entries) (file ∷ files) are distinct =
    let keys = map (λ (e : ℕ × Track). e.0) entries in
    and_from _ _ (ap (λ k. is_missing k files) are.0 ∙ images_missing choice entries files entry.0 are.2 (IsDistinct-head eqb entry.0 keys distinct))
    (images_differ choice entries files are.2 (IsDistinct-tail eqb entry.0 keys distinct))
