-- Extents of twelve bytes each.
use Rattle.std.proofs.Common.{◌≡◌, cond, ℕ, zero, suc, ◌+◌, ◌*◌, ◌<◌, ◌≤◌, ◌^◌, List, [], ◌∷◌, ◌++◌, length, take, drop, refl, sym, ap, subst, ◌∙◌, arith, length-append, length-drop}
use Rattle.std.specs.Prelude.{Option, Some, None, slice_get}
use Rattle.std.specs.Int.{w32, w64, to_be_bytes, from_be_bytes}
use Rattle.std.specs.List.{AllByRecursion, flat_map}
use Rattle.std.proofs.lemmas.Bool.{le-ltb}
use Rattle.std.proofs.lemmas.List.{drop-drop}
use Rattle.dfs_record.specs.Reading.{◌>>=◌, paired, number_at}
use Rattle.dfs_record.proofs.Readings.{IsBytes, Reads, numbers, pairs, some_is, wide32, wide64}
use Rattle.dfs_manifest.specs.Manifest.{Extent, IsExtent, extent_bytes}
use Rattle.dfs_manifest.specs.Tables.{extent_in, tables_in}

extents : Reads {A = Extent} IsExtent extent_bytes (paired (number_at w64) (number_at w32))
extents = pairs (λ n. n < 2 ^ 64) (λ n. n < 2 ^ 32) (to_be_bytes w64) (to_be_bytes w32) (number_at w64) (number_at w32) (numbers w64 (2 ^ 64) wide64) (numbers w32 (2 ^ 32) wide32)

reads_extent : (bytes : List ℕ) → 12 ≤ length bytes → paired (number_at w64) (number_at w32) bytes ≡ Some (extent_in bytes, drop 4 (drop 8 bytes))
reads_extent bytes long =
    let at : number_at w64 bytes ≡ Some (from_be_bytes w64 (take 8 bytes), drop 8 bytes) =
    ap (λ b. cond b None (Some (from_be_bytes w64 (take 8 bytes), drop 8 bytes))) (le-ltb (length bytes) 8 (omega (arith, long))) in
    let len : number_at w32 (drop 8 bytes) ≡ Some (from_be_bytes w32 (take 4 (drop 8 bytes)), drop 4 (drop 8 bytes)) =
    ap (λ b. cond b None (Some (from_be_bytes w32 (take 4 (drop 8 bytes)), drop 4 (drop 8 bytes)))) (le-ltb (length (drop 8 bytes)) 4 (omega (arith, long, length-drop 8 bytes))) in
    ap (λ (o : Option (ℕ × List ℕ)). o >>= λ x. number_at w32 x.1 >>= λ y. Some ((x.0, y.0), y.1)) at
    ∙ ap (λ (o : Option (ℕ × List ℕ)). o >>= λ y. Some ((from_be_bytes w64 (take 8 bytes), y.0), y.1)) len

-- what the first twelve bytes spell, and the bytes behind them
record Front (bytes : List ℕ) : Type 0 where
  pub fits : IsExtent (extent_in bytes)
  pub parts : extent_bytes (extent_in bytes) ++ drop 12 bytes ≡ bytes
  pub behind : IsBytes (drop 12 bytes)

front : (bytes : List ℕ) → IsBytes bytes → 12 ≤ length bytes → Front bytes
front bytes fits long =
    let t = extents.takes bytes (extent_in bytes) (drop 4 (drop 8 bytes)) fits (reads_extent bytes long) in
    let rest : drop 4 (drop 8 bytes) ≡ drop 12 bytes = drop-drop 4 8 bytes in
    record {
      fits = t.0;
      parts = ap (λ (l : List ℕ). extent_bytes (extent_in bytes) ++ l) (sym rest) ∙ sym t.1.parts;
      behind = subst IsBytes rest t.1.rest_fits;
    }

pub length_tables : (count : ℕ) (bytes : List ℕ) → length (tables_in count bytes) ≡ count
unfolding tables_in
length_tables zero bytes = refl
length_tables (suc count) bytes = ap suc (length_tables count (drop 12 bytes))

-- bytes of the right number spell the tables that are read there
pub all_spelled : (count : ℕ) (bytes : List ℕ) → IsBytes bytes → length bytes ≡ 12 * count → (flat_map extent_bytes (tables_in count bytes) ≡ bytes) × AllByRecursion IsExtent (tables_in count bytes)
unfolding tables_in
all_spelled zero [] fits len = (refl, tt)
all_spelled zero (b ∷ bytes) fits len = absurd (omega (arith, len))
all_spelled (suc count) bytes fits len =
    let here = front bytes fits (omega (arith, len)) in
    let there = all_spelled count (drop 12 bytes) here.behind (omega (arith, len, length-drop 12 bytes)) in
    (ap (λ (l : List ℕ). extent_bytes (extent_in bytes) ++ l) there.0 ∙ here.parts, (here.fits, there.1))

pub flat_length : (ts : List Extent) → length (flat_map extent_bytes ts) ≡ 12 * length ts
flat_length [] = refl
flat_length (t ∷ ts) = omega (arith, length-append (extent_bytes t) (flat_map extent_bytes ts), flat_length ts)

-- tables that are spelled are read
pub tables_again : (ts : List Extent) → AllByRecursion IsExtent ts → tables_in (length ts) (flat_map extent_bytes ts) ≡ ts
unfolding tables_in
tables_again [] fit = refl
tables_again (t ∷ ts) fit =
    let all = extent_bytes t ++ flat_map extent_bytes ts in
    let long : 12 ≤ length all = omega (arith, length-append (extent_bytes t) (flat_map extent_bytes ts)) in
    let both : (extent_in all, drop 4 (drop 8 all)) ≡ (t, flat_map extent_bytes ts) =
    some_is (extent_in all, drop 4 (drop 8 all)) (t, flat_map extent_bytes ts) (sym (reads_extent all long) ∙ extents.again t (flat_map extent_bytes ts) fit.0) in
    let first : extent_in all ≡ t = ap (λ (p : Extent × List ℕ). p.0) both in
    let behind : drop 12 all ≡ flat_map extent_bytes ts = sym (drop-drop 4 8 all) ∙ ap (λ (p : Extent × List ℕ). p.1) both in
    let rest : tables_in (length ts) (drop 12 all) ≡ ts = ap (tables_in (length ts)) behind ∙ tables_again ts fit.1 in
    λ i. first i ∷ rest i

pub table_at : (count : ℕ) (bytes : List ℕ) (i : ℕ) → i < count → slice_get (tables_in count bytes) i ≡ Some (extent_in (drop (12 * i) bytes))
unfolding tables_in
table_at zero bytes i lt = absurd (omega (arith, lt))
table_at (suc count) bytes zero lt = refl
table_at (suc count) bytes (suc i) lt =
    let more : 12 + 12 * i ≡ 12 * suc i = omega arith in
    table_at count (drop 12 bytes) i (omega (arith, lt))
    ∙ ap (λ (l : List ℕ). Some (extent_in l)) (drop-drop (12 * i) 12 bytes ∙ ap (λ n. drop n bytes) more)
