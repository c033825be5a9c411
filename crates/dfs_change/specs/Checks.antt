-- Whether a log is whole, by checks that compute. Each passes exactly where the fact holds, of lists of any numbers.
use Rattle.std.specs.Prelude.{ℕ, ◌+◌, ◌^◌, Bool, true, false, ◌&&◌, nat_le, nat_lt, ◌==◌, List, [], ◌∷◌, length, take, map, Option, Some, None}
use Rattle.std.specs.List.{list_all}
use Rattle.std.specs.Str.{bytes_eq}
use Rattle.std.specs.FinMap.Entries.{is_sorted}
use Rattle.std.specs.Ordering.{eq_by_cmp, is_le, is_lt}
use Rattle.dfs_record.specs.declared.DirId.{DirId}
use Rattle.dfs_record.specs.declared.Entry.TheVariants.{Dir, File}
use Rattle.dfs_record.specs.declared.Key.{Key}
use Rattle.dfs_record.specs.declared.Record.{Record}
use Rattle.dfs_record.specs.declared.Value.{Value}
use Rattle.dfs_record.specs.declared.Value.TheVariants.{Del, Put}
use Rattle.dfs_record.specs.Key.{key_cmp}
use Rattle.dfs_record.specs.Name.{is_name, is_reference}
use Rattle.dfs_block.specs.Block.{block_bytes, first_key, last_key, most_bytes}
use Rattle.dfs_fence.specs.declared.fence.Fence.{Fence}
use Rattle.dfs_fence.specs.Index.{index_bytes, most_fences}
use Rattle.dfs_log.specs.Logs.{log_header}
use Rattle.dfs_manifest.specs.Manifest.{Extent, manifest_bytes, most_tables}
use Rattle.dfs_registry.specs.declared.listed.Listed.{Listed}
use Rattle.dfs_table.specs.Identities.{is_within}
use Rattle.dfs_table.specs.Stored.{part, block_at, records_at, records_by}
use Rattle.dfs_change.specs.Whole.{end_of, joined}
use Rattle.dfs_table.specs.Counts.{count_of}

-- ---- valid, of any job

abbrev pub is_id : DirId → Bool
is_id id = nat_lt id.job (2 ^ 32) && nat_lt id.counter (2 ^ 32)

abbrev pub is_key : Key → Bool
is_key key = is_id key.parent && is_name key.name

abbrev pub is_value : Value → Bool
is_value Del = true
is_value (Put (Dir id mode time)) = is_id id && nat_le 1 id.job && nat_le 1 id.counter && nat_le mode 4095 && nat_lt time (2 ^ 64)
is_value (Put (File mode time size reference)) = nat_le mode 4095 && nat_lt time (2 ^ 64) && nat_lt size (2 ^ 64) && is_reference reference

abbrev pub is_record : Record → Bool
is_record r = is_key r.key && is_value r.value

abbrev pub is_fence : Fence → Bool
is_fence f = nat_lt f.at (2 ^ 64) && nat_lt f.len (2 ^ 32) && nat_lt f.count (2 ^ 16) && is_key f.first && is_key f.last && is_le (key_cmp f.first f.last)

abbrev pub is_extent : Extent → Bool
is_extent t = nat_lt t.0 (2 ^ 64) && nat_lt t.1 (2 ^ 32)

-- ---- spelled so, and in order

abbrev pub is_manifest : List ℕ → List Extent → Bool
is_manifest bytes ts = nat_le (length ts) most_tables && bytes_eq bytes (manifest_bytes ts) && list_all is_extent ts

abbrev pub are_apart : List Fence → Bool
are_apart [] = true
are_apart (f ∷ []) = true
are_apart (f ∷ g ∷ fs) = is_lt (key_cmp f.last g.first) && are_apart (g ∷ fs)

abbrev pub is_index : List ℕ → List Fence → Bool
is_index bytes fs = nat_le 1 (length fs) && bytes_eq bytes (index_bytes fs) && nat_le (length fs) most_fences && list_all is_fence fs && are_apart fs

abbrev pub is_block : List ℕ → List Record → Bool
is_block bytes rs =
    nat_le 1 (length rs) && bytes_eq bytes (block_bytes rs) && nat_le (length bytes) most_bytes && is_sorted key_cmp (map (λ r. (r.key, r.value)) rs) && list_all is_record rs

-- ---- in the file

abbrev pub has_key : Option Key → Key → Bool
has_key None key = false
has_key (Some found) key = eq_by_cmp key_cmp found key

-- the block is there, and agrees with its fence
abbrev pub is_block_of : List ℕ → Fence → Bool
is_block_of file f =
    nat_le 12 f.at && nat_le (f.at + f.len) (length file) && is_block (block_at file f) (records_at file f) && length (records_at file f) == f.count
    && has_key (first_key (records_at file f)) f.first && has_key (last_key (records_at file f)) f.last

-- the index is there, and it and each of its blocks ends at the manifest's end or before it
abbrev pub is_table : List ℕ → Listed → Extent → List Fence → Bool
is_table file l t fs =
    nat_le 12 t.0 && nat_le (t.0 + t.1) (length file) && is_index (part file t.0 t.1) fs && nat_le (t.0 + t.1) (end_of l)
    && list_all (is_block_of file) fs && list_all (λ f. nat_le (f.at + f.len) (end_of l)) fs && list_all (is_within l.job) (records_by file fs)

abbrev pub are_tables : List ℕ → Listed → List Extent → List (List Fence) → Bool
are_tables file l [] [] = true
are_tables file l [] (fs ∷ fss) = false
are_tables file l (t ∷ ts) [] = false
are_tables file l (t ∷ ts) (fs ∷ fss) = is_table file l t fs && are_tables file l ts fss

-- the file has the log of the entry, with these tables
unfoldable pub is_whole : List ℕ → Listed → List Extent → List (List Fence) → Bool
is_whole file l ts fss =
    nat_le 12 (length file) && bytes_eq (take 12 file) (log_header l.job) && nat_le 12 l.at && nat_le (end_of l) (length file)
    && is_manifest (part file l.at l.len) ts && are_tables file l ts fss && are_apart (joined fss) && count_of (joined fss) == l.count
