-- The disk: what each file reads as, and what a crash may leave of it.
use Rattle.std.specs.Prelude.{◌≡◌, ◌≢◌, ◌≤◌, ◌<◌, ◌+◌, ℕ, Bool, false, ◌&&◌, ◌||◌, nat_le, nat_lt, min, max, List, ◌++◌, length, take, drop, slice_index}

-- One file. Its settled content is what it read at its last sync, or at the start. A place is touched once a write that
-- covers it has begun since then. `least` and `greatest` bound the lengths that it had, or that a call begun since might give it.
pub record FileState : Type 0 where
  pub bytes : List ℕ
  pub settled : List ℕ
  pub touched : ℕ → Bool
  pub least : ℕ
  pub greatest : ℕ

-- all files, and the output so far; a file that was never made has no bytes
pub record Disk : Type 0 where
  pub files : ℕ → FileState
  pub said : List ℕ

-- what a crash leaves
pub record Image : Type 0 where
  pub files : ℕ → List ℕ
  pub said : List ℕ

-- A crash may leave this of the file: a length between the two, and the settled byte at each place that is not touched. What stands
-- at a touched place is open, and not even bounded as a byte.
pub record MayLeave (file : FileState) (left : List ℕ) : Type 0 where
  pub no_shorter : file.least ≤ length left
  pub no_longer : length left ≤ file.greatest
  pub untouched : (place : ℕ) → place < length left → file.touched place ≡ false → slice_index left place ≡ slice_index file.settled place

-- a crash may leave this of the disk, of each file by itself
pub record IsImage (disk : Disk) (image : Image) : Type 0 where
  pub files : (n : ℕ) → MayLeave (disk.files n) (image.files n)
  pub said : image.said ≡ disk.said

-- the same, of each file but one
pub record IsImageBut (n : ℕ) (disk : Disk) (image : Image) : Type 0 where
  pub files : (m : ℕ) → m ≢ n → MayLeave (disk.files m) (image.files m)
  pub said : image.said ≡ disk.said

-- a crash leaves exactly what a read gives
pub record IsSettled (file : FileState) : Type 0 where
  pub bytes : file.settled ≡ file.bytes
  pub touched : (place : ℕ) → file.touched place ≡ false
  pub least : file.least ≡ length file.bytes
  pub greatest : file.greatest ≡ length file.bytes

-- What it reads as, and its settled content, are among the things that a crash may leave of it.
pub record IsSound (file : FileState) : Type 0 where
  pub reads : MayLeave file file.bytes
  pub settled : MayLeave file file.settled

-- what a crash may leave of the one it may leave of the other
pub record IsWithin (inner outer : FileState) : Type 0 where
  pub settled : inner.settled ≡ outer.settled
  pub touched : (place : ℕ) → outer.touched place ≡ false → inner.touched place ≡ false
  pub least : outer.least ≤ inner.least
  pub greatest : inner.greatest ≤ outer.greatest

-- What the calls do to a file.

-- the bytes of old with these from a place on
abbrev pub overwritten : ℕ → List ℕ → List ℕ → List ℕ
overwritten at bytes old = take at old ++ bytes ++ drop (at + length bytes) old

-- the place is one of so many from `at` on
abbrev pub is_within : ℕ → ℕ → ℕ → Bool
is_within at count place = nat_le at place && nat_lt place (at + count)

abbrev pub written : ℕ → List ℕ → FileState → FileState
written at bytes file = record {
  bytes = overwritten at bytes file.bytes;
  settled = file.settled;
  touched = λ place. file.touched place || is_within at (length bytes) place;
  least = file.least;
  greatest = max file.greatest (at + length bytes);
}

abbrev pub cut_to : ℕ → FileState → FileState
cut_to len file = record {
  bytes = take len file.bytes;
  settled = file.settled;
  touched = file.touched;
  least = min file.least len;
  greatest = file.greatest;
}

-- a file with nothing touched
abbrev pub settled_file : List ℕ → FileState
settled_file bytes = record { bytes = bytes; settled = bytes; touched = λ _. false; least = length bytes; greatest = length bytes }

abbrev pub synced : FileState → FileState
synced file = settled_file file.bytes

-- a write that failed: some length between, open bytes in the range, the same elsewhere
pub record WriteFailed (at : ℕ) (bytes : List ℕ) (old new : FileState) : Type 0 where
  pub no_shorter : length old.bytes ≤ length new.bytes
  pub no_longer : length new.bytes ≤ length (overwritten at bytes old.bytes)
  pub before : take at new.bytes ≡ take at old.bytes
  pub after : drop (at + length bytes) new.bytes ≡ drop (at + length bytes) old.bytes
  pub keeps : IsWithin old new
  pub crash : IsWithin new (written at bytes old)

-- a cut that failed: some length between, and what is left stays
pub record CutFailed (len : ℕ) (old new : FileState) : Type 0 where
  pub no_shorter : len ≤ length new.bytes
  pub front : new.bytes ≡ take (length new.bytes) old.bytes
  pub keeps : IsWithin old new
  pub crash : IsWithin new (cut_to len old)

-- What a caller sees of a settled file.

-- after a write of n bytes that a crash cuts short: any bytes in the range and past the old end, the same elsewhere
pub record Torn (at n : ℕ) (old new : List ℕ) : Type 0 where
  pub before : take at new ≡ take at old
  pub after : drop (at + n) new ≡ drop (at + n) old
  pub no_shorter : length old ≤ length new
  pub no_longer : length new ≤ max (length old) (at + n)

-- after a cut of a settled file that a crash cuts short: some length between
pub record Cropped (len : ℕ) (old new : List ℕ) : Type 0 where
  pub no_shorter : len ≤ length new
  pub front : new ≡ take (length new) old
