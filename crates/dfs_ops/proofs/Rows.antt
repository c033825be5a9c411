-- Worked operations, computed.
use Rattle.std.specs.Prelude.{◌≡◌, ℕ, List, [], ◌∷◌, codes, true, false, refl}
use Rattle.dfs_record.specs.declared.DirId.{DirId}
use Rattle.dfs_record.specs.declared.Key.{Key}
use Rattle.dfs_record.specs.declared.Entry.{Entry}
use Rattle.dfs_record.specs.declared.Entry.TheVariants.{Dir, File}
use Rattle.dfs_record.specs.Key.{root}
use Rattle.dfs_record.specs.KeyMap.{empty, insert}
use Rattle.dfs_record.specs.Namespace.{Namespace}
use Rattle.dfs_path.specs.declared.Op.TheVariants.{Mkdir, Create, Unlink, Rmdir, Rename, Setattr, Stat, List as ListOp}
use Rattle.dfs_ops.specs.declared.Ids.{Ids}
use Rattle.dfs_ops.specs.declared.OpReply.TheVariants.{Done, Entry as EntryReply, Listing, Root, NoEnt, NotDir, IsDir, Exists, NotEmpty, Inside, Full}
use Rattle.dfs_ops.specs.Op.{outcome, only, put, del, ids_after}

abbrev at_root : List ℕ → Key
at_root name = record { parent = root; name = name }

abbrev dir_id : ℕ → DirId
dir_id n = record { job = 1; counter = n }

abbrev a_dir : ℕ → Entry
a_dir n = Dir (dir_id n) 493 7

abbrev a_file : Entry
a_file = File 420 1 2 (codes "r")

abbrev numbers : ℕ → Ids
numbers made = record { job = 1; counter = 2; made = made }

-- two files, a directory with a file in it, and an empty one
abbrev shown : Namespace
shown =
    insert (insert (insert (insert (insert empty (at_root (codes "f")) a_file) (at_root (codes "g")) a_file) (at_root (codes "d")) (a_dir 1)) (at_root (codes "e")) (a_dir 2))
    (record { parent = dir_id 1; name = codes "x" }) a_file

-- a directory below itself, which stands at two places
abbrev tied : Namespace
tied = insert (insert (insert empty (at_root (codes "a")) (a_dir 1)) (at_root (codes "b")) (a_dir 1)) (record { parent = dir_id 1; name = codes "a" }) (a_dir 1)

-- the deletion comes first
renamed : outcome shown (numbers 3) (Rename (codes "f" ∷ []) (codes "h" ∷ []))
    ≡ record { answer = Done; records = del (at_root (codes "f")) ∷ put (at_root (codes "h")) a_file ∷ []; used = false }
renamed = refl

renamed_onto_itself : outcome shown (numbers 1048576) (Rename (codes "f" ∷ []) (codes "f" ∷ [])) ≡ only Done
renamed_onto_itself = refl

no_room_for_two : outcome shown (numbers 1048575) (Rename (codes "f" ∷ []) (codes "h" ∷ [])) ≡ only Full
no_room_for_two = refl

room_for_one : outcome shown (numbers 1048575) (Unlink (codes "f" ∷ [])) ≡ record { answer = Done; records = del (at_root (codes "f")) ∷ []; used = false }
room_for_one = refl

no_room : outcome shown (numbers 1048576) (Create (codes "k" ∷ []) 420 1 2 (codes "r")) ≡ only Full
no_room = refl

exists_before_full : outcome shown (numbers 1048576) (Create (codes "f" ∷ []) 420 1 2 (codes "r")) ≡ only Exists
exists_before_full = refl

nothing_before_full : outcome shown (numbers 1048576) (Unlink (codes "no" ∷ [])) ≡ only NoEnt
nothing_before_full = refl

full_directory : outcome shown (numbers 3) (Rmdir (codes "d" ∷ [])) ≡ only NotEmpty
full_directory = refl

empty_directory : outcome shown (numbers 3) (Rmdir (codes "e" ∷ [])) ≡ record { answer = Done; records = del (at_root (codes "e")) ∷ []; used = false }
empty_directory = refl

unlinked_directory : outcome shown (numbers 3) (Unlink (codes "e" ∷ [])) ≡ only IsDir
unlinked_directory = refl

onto_full_directory : outcome shown (numbers 3) (Rename (codes "e" ∷ []) (codes "d" ∷ [])) ≡ only NotEmpty
onto_full_directory = refl

file_onto_directory : outcome shown (numbers 3) (Rename (codes "f" ∷ []) (codes "e" ∷ [])) ≡ only IsDir
file_onto_directory = refl

directory_onto_file : outcome shown (numbers 3) (Rename (codes "d" ∷ []) (codes "f" ∷ [])) ≡ only NotDir
directory_onto_file = refl

root_before_walk : outcome shown (numbers 3) (Rename (codes "no" ∷ []) []) ≡ only Root
root_before_walk = refl

next_directory : outcome shown (numbers 3) (Mkdir (codes "e" ∷ codes "n" ∷ []) 448 9)
    ≡ record { answer = Done; records = put (record { parent = dir_id 2; name = codes "n" }) (Dir (dir_id 3) 448 9) ∷ []; used = true }
next_directory = refl

numbers_after : ids_after (numbers 3) (outcome shown (numbers 3) (Mkdir (codes "n" ∷ []) 448 9)) ≡ record { job = 1; counter = 3; made = 4 }
numbers_after = refl

numbers_kept : ids_after (numbers 3) (outcome shown (numbers 3) (Mkdir (codes "f" ∷ []) 448 9)) ≡ numbers 3
numbers_kept = refl

attributes_set : outcome shown (numbers 3) (Setattr (codes "f" ∷ []) 384 9) ≡ record { answer = Done; records = put (at_root (codes "f")) (File 384 9 2 (codes "r")) ∷ []; used = false }
attributes_set = refl

root_shown : outcome shown (numbers 3) (Stat []) ≡ only (EntryReply (Dir root 493 0))
root_shown = refl

listed : outcome shown (numbers 3) (ListOp []) ≡ only (Listing ((codes "d", a_dir 1) ∷ (codes "e", a_dir 2) ∷ (codes "f", a_file) ∷ (codes "g", a_file) ∷ []))
listed = refl

through_a_file : outcome shown (numbers 3) (Stat (codes "f" ∷ codes "x" ∷ [])) ≡ only NotDir
through_a_file = refl

-- the walk is bounded by the path alone
round_and_round : outcome tied (numbers 3) (Stat (codes "a" ∷ codes "a" ∷ codes "a" ∷ codes "a" ∷ [])) ≡ only (EntryReply (a_dir 1))
round_and_round = refl

-- by identity, whatever the path's text
inside_its_alias : outcome tied (numbers 3) (Rename (codes "a" ∷ []) (codes "b" ∷ codes "c" ∷ [])) ≡ only Inside
inside_its_alias = refl

out_of_itself : outcome tied (numbers 3) (Rename (codes "a" ∷ codes "a" ∷ []) (codes "c" ∷ []))
    ≡ record { answer = Done; records = del (record { parent = dir_id 1; name = codes "a" }) ∷ put (at_root (codes "c")) (a_dir 1) ∷ []; used = false }
out_of_itself = refl
