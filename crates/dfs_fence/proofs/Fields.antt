-- What is read as a fence is spelled so, and what is spelled so is read.
use Rattle.std.proofs.Common.{◌≡◌, ℕ, ◌<◌, ◌^◌, List, ◌++◌, refl, sym, ap, ◌∙◌, drop}
use Rattle.std.specs.Prelude.{Option, Some, None}
use Rattle.std.specs.Int.{w16, w32, w64, to_be_bytes}
use Rattle.std.proofs.lemmas.List.{take-append-drop}
use Rattle.dfs_record.specs.declared.Key.{Key}
use Rattle.dfs_record.specs.Reading.{paired, number_at, key_at}
use Rattle.dfs_record.specs.Record.{IsKey, key_bytes, KeySpelledFirst, NoKeySpelled}
use Rattle.dfs_record.proofs.Readings.{IsBytes, Reads, numbers, keys, pairs, maps, wide16, wide32, wide64, first_read}
use Rattle.dfs_fence.specs.declared.fence.Fence.{Fence}
use Rattle.dfs_fence.specs.Index.{HasFields, fence_bytes}
use Rattle.dfs_fence.specs.Reading.{fence_at}

abbrev Parts : Type 0
Parts = (((ℕ × ℕ) × ℕ) × Key) × Key

abbrev AreFields : Parts → Type 0
AreFields p = ((((p.0.0.0.0 < 2 ^ 64) × (p.0.0.0.1 < 2 ^ 32)) × (p.0.0.1 < 2 ^ 16)) × IsKey p.0.1) × IsKey p.1

abbrev text : Parts → List ℕ
text p = to_be_bytes w64 p.0.0.0.0 ++ to_be_bytes w32 p.0.0.0.1 ++ to_be_bytes w16 p.0.0.1 ++ key_bytes p.0.1 ++ key_bytes p.1

parts : Reads {A = Parts} AreFields text (paired (paired (paired (paired (number_at w64) (number_at w32)) (number_at w16)) key_at) key_at)
parts =
    pairs (λ p. (((p.0.0.0 < 2 ^ 64) × (p.0.0.1 < 2 ^ 32)) × (p.0.1 < 2 ^ 16)) × IsKey p.1) IsKey (λ p. to_be_bytes w64 p.0.0.0 ++ to_be_bytes w32 p.0.0.1 ++ to_be_bytes w16 p.0.1 ++ key_bytes p.1) key_bytes (paired (paired (paired (number_at w64) (number_at w32)) (number_at w16)) key_at) key_at
    (pairs (λ p. ((p.0.0 < 2 ^ 64) × (p.0.1 < 2 ^ 32)) × (p.1 < 2 ^ 16)) IsKey (λ p. to_be_bytes w64 p.0.0 ++ to_be_bytes w32 p.0.1 ++ to_be_bytes w16 p.1) key_bytes (paired (paired (number_at w64) (number_at w32)) (number_at w16)) key_at
    (pairs (λ p. (p.0 < 2 ^ 64) × (p.1 < 2 ^ 32)) (λ n. n < 2 ^ 16) (λ p. to_be_bytes w64 p.0 ++ to_be_bytes w32 p.1) (to_be_bytes w16) (paired (number_at w64) (number_at w32)) (number_at w16)
    (pairs (λ n. n < 2 ^ 64) (λ n. n < 2 ^ 32) (to_be_bytes w64) (to_be_bytes w32) (number_at w64) (number_at w32) (numbers w64 (2 ^ 64) wide64) (numbers w32 (2 ^ 32) wide32)) (numbers w16 (2 ^ 16) wide16)) keys) keys

pub fences : Reads HasFields fence_bytes fence_at
unfolding fence_at
fences =
    maps {A = Parts} {B = Fence} AreFields HasFields text fence_bytes (paired (paired (paired (paired (number_at w64) (number_at w32)) (number_at w16)) key_at) key_at)
    (λ p. record { at = p.0.0.0.0; len = p.0.0.0.1; count = p.0.0.1; first = p.0.1; last = p.1 }) (λ f. ((((f.at, f.len), f.count), f.first), f.last)) (λ _. refl)
    (λ _ v. ((((v.at, v.len), v.count), v.first), v.last)) (λ _ v. record { at = v.0.0.0.0; len = v.0.0.0.1; count = v.0.0.1; first = v.0.1; last = v.1 }) (λ _. refl) parts

-- ---- keys

pub key_is : (bytes : List ℕ) (key : Key) (len : ℕ) → KeySpelledFirst bytes key len → key_at bytes ≡ Some (key, drop len bytes)
key_is bytes key len first =
    ap key_at (sym (take-append-drop len bytes) ∙ ap (λ (l : List ℕ). l ++ drop len bytes) first.1.1) ∙ keys.again key (drop len bytes) first.1.0

pub no_key_is : (bytes : List ℕ) → IsBytes bytes → NoKeySpelled bytes → key_at bytes ≡ None
no_key_is bytes fits nothing = by_case (key_at bytes) refl
  where
    by_case : (o : Option (Key × List ℕ)) → key_at bytes ≡ o → o ≡ None
    by_case (Some x) e = absurd (nothing _ _ (first_read IsKey key_bytes key_at keys bytes x.0 x.1 fits e))
    by_case None e = refl
