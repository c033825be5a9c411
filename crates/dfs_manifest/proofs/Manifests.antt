-- A count, and so many extents.
use Rattle.std.proofs.Common.{◌≡◌, cond, ℕ, ◌+◌, ◌*◌, ◌≤◌, List, ◌++◌, length, take, drop, refl, sym, ap, ◌∙◌, arith, length-append}
use Rattle.std.specs.Prelude.{Some, None}
use Rattle.std.specs.Int.{w32, to_be_bytes, from_be_bytes}
use Rattle.std.specs.List.{flat_map}
use Rattle.std.proofs.lemmas.Bool.{le-ltb}
use Rattle.std.proofs.lemmas.List.{take-append-drop, take_at, drop_at}
use Rattle.std.proofs.lemmas.Nat.{from_be_bytes-to_be_bytes_4}
use Rattle.dfs_record.specs.Reading.{number_in}
use Rattle.dfs_record.proofs.Readings.{IsBytes, IsBytes-drop, some_is}
use Rattle.dfs_manifest.specs.Manifest.{Extent, IsManifest, HasOneList, IsShort, extent_bytes}
use Rattle.dfs_manifest.specs.Tables.{tables_in, HoldsTables}
use Rattle.dfs_manifest.proofs.Tables.{length_tables, all_spelled, flat_length, tables_again}

pub long : (bytes : List ℕ) (ts : List Extent) → IsManifest bytes ts → 4 ≤ length bytes
long bytes ts is = omega (arith, ap length is.spelled, length-append (to_be_bytes w32 (length ts)) (flat_map extent_bytes ts))

-- the first four bytes are the count
count_is : (bytes : List ℕ) (ts : List Extent) → IsManifest bytes ts → number_in w32 bytes ≡ Some (length ts)
count_is bytes ts is =
    ap (λ b. cond b None (Some (from_be_bytes w32 (take 4 bytes)))) (le-ltb (length bytes) 4 (long bytes ts is))
    ∙ ap (λ (l : List ℕ). Some (from_be_bytes w32 l)) (ap (take 4) is.spelled ∙ take_at (to_be_bytes w32 (length ts)) (flat_map extent_bytes ts) 4 refl)
    ∙ ap Some (from_be_bytes-to_be_bytes_4 (length ts) (omega (arith, is.few)))

same_count : (count : ℕ) (bytes : List ℕ) (ts : List Extent) → Some count ≡ number_in w32 bytes → IsManifest bytes ts → count ≡ length ts
same_count count bytes ts read is = some_is count (length ts) (read ∙ count_is bytes ts is)

behind : (bytes : List ℕ) (ts : List Extent) → IsManifest bytes ts → drop 4 bytes ≡ flat_map extent_bytes ts
behind bytes ts is = ap (drop 4) is.spelled ∙ drop_at (to_be_bytes w32 (length ts)) (flat_map extent_bytes ts) 4 refl

-- a manifest has as many bytes as its count asks for
pub holds : (count : ℕ) (bytes : List ℕ) (ts : List Extent) → Some count ≡ number_in w32 bytes → IsManifest bytes ts → HoldsTables count (drop 4 bytes)
holds count bytes ts read is =
    let same = same_count count bytes ts read is in
    record { few = omega (arith, same, is.few); len = ap length (behind bytes ts is) ∙ flat_length ts ∙ ap (λ n. 12 * n) (sym same) }

pub only : (count : ℕ) (bytes : List ℕ) (ts : List Extent) → Some count ≡ number_in w32 bytes → IsManifest bytes ts → tables_in count (drop 4 bytes) ≡ ts
only count bytes ts read is =
    ap (λ n. tables_in n (drop 4 bytes)) (same_count count bytes ts read is) ∙ ap (tables_in (length ts)) (behind bytes ts is) ∙ tables_again ts is.fit

pub made : (count : ℕ) (bytes : List ℕ) → IsBytes bytes → to_be_bytes w32 count ≡ take 4 bytes → HoldsTables count (drop 4 bytes) → IsManifest bytes (tables_in count (drop 4 bytes))
made count bytes fits front h =
    let all = all_spelled count (drop 4 bytes) (IsBytes-drop 4 bytes fits) h.len in
    let number = length_tables count (drop 4 bytes) in
    record {
      few = omega (arith, number, h.few);
      spelled =
          sym (take-append-drop 4 bytes)
          ∙ ap (λ (l : List ℕ). l ++ drop 4 bytes) (sym front ∙ ap (to_be_bytes w32) (sym number))
          ∙ ap (λ (l : List ℕ). to_be_bytes w32 (length (tables_in count (drop 4 bytes))) ++ l) (sym all.0);
      fit = all.1;
    }

pub one_list : HasOneList
one_list bytes ts us p q =
    let read = sym (count_is bytes ts p) in
    sym (only (length ts) bytes ts read p) ∙ only (length ts) bytes us read q

pub short : IsShort
short bytes ts is = omega (arith, ap length is.spelled, length-append (to_be_bytes w32 (length ts)) (flat_map extent_bytes ts), flat_length ts, is.few)
