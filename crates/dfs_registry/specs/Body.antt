-- One publication as bytes of the registry.
use Rattle.std.specs.Prelude.{◌+◌, ℕ, Bool, ◌&&◌, ◌||◌, ◌==◌, nat_le, if◌then◌else◌, List, [], ◌∷◌, ◌++◌, length, take, drop, slice_index, max, Option, Some, None}
use Rattle.std.specs.List.{list_any}
use Rattle.std.specs.Str.{bytes_eq}
use Rattle.byteorder.specs.Endian.{big_bytes, big_number}
use Rattle.dfs_record.specs.Name.{is_snap_name, is_between}
use Rattle.dfs_registry.specs.declared.listed.Listed.{Listed}

-- how many bytes the body of a name of k bytes has
abbrev pub body_size : ℕ → ℕ
body_size k = 28 + k

-- length, kind, length of the name, name, job, place and length of the manifest, count
unfoldable pub body : Listed → List ℕ
body b =
    big_bytes 2 (26 + length b.name) ++ (1 ∷ length b.name ∷ []) ++ b.name
    ++ big_bytes 4 b.job ++ big_bytes 8 b.at ++ big_bytes 4 b.len ++ big_bytes 8 b.count

-- what stands at the places of a body
unfoldable pub fields : List ℕ → Listed
fields bytes =
    let k = slice_index bytes 3 in
    record {
      name = take k (drop 4 bytes);
      job = big_number 4 (drop (4 + k) bytes);
      at = big_number 8 (drop (8 + k) bytes);
      len = big_number 4 (drop (16 + k) bytes);
      count = big_number 8 (drop (20 + k) bytes);
    }

-- a name and a job that a body may have
abbrev pub is_listable : Listed → Bool
is_listable b = is_snap_name b.name && is_between 1 4294967294 b.job

-- the length of a body whose name has the length that it says, and the kind
abbrev pub has_front : List ℕ → Bool
has_front bytes = big_number 2 bytes == 26 + slice_index bytes 3 && slice_index bytes 2 == 1

-- whether a whole body stands at the front
unfoldable pub has_body : List ℕ → Bool
has_body bytes = nat_le (body_size (slice_index bytes 3)) (length bytes) && has_front bytes && is_listable (fields bytes)

-- the body at the front; the longest one has 92 bytes
unfoldable pub read_body : List ℕ → Option Listed
read_body bytes = if has_body (take 92 bytes) then Some (fields (take 92 bytes)) else None

abbrev pub has_name : List ℕ → Listed → Bool
has_name name a = bytes_eq name a.name

abbrev pub has_job : ℕ → Listed → Bool
has_job job a = a.job == job

-- whether one of these has the name, or the job
abbrev pub lists_name : List Listed → List ℕ → Bool
lists_name bs name = list_any (has_name name) bs

abbrev pub lists_job : List Listed → ℕ → Bool
lists_job bs job = list_any (has_job job) bs

-- the name or the job of one before it
abbrev pub repeats : List Listed → Listed → Bool
repeats before b = lists_name before b.name || lists_job before b.job

-- the greatest job, and 0 where there is none
abbrev pub greatest_job : List Listed → ℕ
greatest_job [] = 0
greatest_job (b ∷ bs) = max b.job (greatest_job bs)

-- one more, unless that is the last job
abbrev pub next_of : ℕ → Option ℕ
next_of greatest = if greatest == 4294967294 then None else Some (greatest + 1)
