-- The log of one record, and damage to it, worked.
use Rattle.std.specs.Prelude.{◌≡◌, ℕ, List, [], ◌∷◌, Some, None, codes, refl, take}
use Rattle.dfs_record.specs.declared.Entry.TheVariants.{Dir}
use Rattle.dfs_record.specs.declared.Record.{Record}
use Rattle.dfs_record.specs.declared.Value.TheVariants.{Put}
use Rattle.dfs_record.specs.Delta.{delta}
use Rattle.dfs_record.specs.Key.{root}
use Rattle.dfs_record.specs.Reading.{name_at, id_at, made_at, mode_at, key_at, dir_at, value_at, record_at}
use Rattle.dfs_block.specs.Front.{records_front, so_many}
use Rattle.dfs_fence.specs.Reading.{fence_at}
use Rattle.dfs_manifest.specs.Tables.{tables_in}
use Rattle.dfs_registry.specs.declared.listed.Listed.{Listed}
use Rattle.dfs_change.specs.Checks.{is_whole}
use Rattle.dfs_change.specs.Meant.{log_meaning}

-- the directory 1.1 at the name x of the root
abbrev made : Record
made = record { key = record { parent = root; name = codes "x" }; value = Put (Dir (record { job = 1; counter = 1 }) 493 1) }

-- the header; the block: its count, the record; the index: its count, the fence; the manifest: its count, the extent of the index
abbrev file : List ℕ
file =
    68 ∷ 70 ∷ 83 ∷ 76 ∷ 79 ∷ 71 ∷ 48 ∷ 49 ∷ 0 ∷ 0 ∷ 0 ∷ 1 ∷
    0 ∷ 1 ∷
    0 ∷ 0 ∷ 0 ∷ 0 ∷ 0 ∷ 0 ∷ 0 ∷ 0 ∷ 1 ∷ 120 ∷
    1 ∷ 0 ∷ 0 ∷ 0 ∷ 1 ∷ 0 ∷ 0 ∷ 0 ∷ 1 ∷ 1 ∷ 237 ∷ 0 ∷ 0 ∷ 0 ∷ 0 ∷ 0 ∷ 0 ∷ 0 ∷ 1 ∷
    0 ∷ 0 ∷ 0 ∷ 1 ∷
    0 ∷ 0 ∷ 0 ∷ 0 ∷ 0 ∷ 0 ∷ 0 ∷ 12 ∷ 0 ∷ 0 ∷ 0 ∷ 31 ∷ 0 ∷ 1 ∷
    0 ∷ 0 ∷ 0 ∷ 0 ∷ 0 ∷ 0 ∷ 0 ∷ 0 ∷ 1 ∷ 120 ∷
    0 ∷ 0 ∷ 0 ∷ 0 ∷ 0 ∷ 0 ∷ 0 ∷ 0 ∷ 1 ∷ 120 ∷
    0 ∷ 0 ∷ 0 ∷ 1 ∷
    0 ∷ 0 ∷ 0 ∷ 0 ∷ 0 ∷ 0 ∷ 0 ∷ 43 ∷ 0 ∷ 0 ∷ 0 ∷ 38 ∷ []

abbrev entry : Listed
entry = record { name = codes "a"; job = 1; at = 81; len = 16; count = 1 }

pub one_record : log_meaning file entry ≡ Some (delta (made ∷ []))
unfolding log_meaning so_many is_whole tables_in records_front record_at key_at id_at name_at value_at dir_at made_at mode_at fence_at
one_record = refl

-- a byte is missing
pub cut_short : log_meaning (take 96 file) entry ≡ None
unfolding log_meaning is_whole
cut_short = refl

pub other_job : log_meaning file (record entry { job = 2 }) ≡ None
unfolding log_meaning is_whole
other_job = refl

pub miscounted : log_meaning file (record entry { count = 2 }) ≡ None
unfolding log_meaning so_many is_whole tables_in records_front record_at key_at id_at name_at value_at dir_at made_at mode_at fence_at
miscounted = refl
