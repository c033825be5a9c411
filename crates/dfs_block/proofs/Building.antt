-- A block under construction.
use Rattle.std.proofs.Common.{◌≡◌, ℕ, ◌+◌, ◌≤◌, List, [], ◌∷◌, ◌++◌, length, drop, refl, sym, ap, subst, ◌∙◌, append_assoc, arith, length-append, vec_capacity}
use Rattle.std.specs.Int.{w16, to_be_bytes}
use Rattle.std.specs.Global.{Vec}
use Rattle.std.specs.List.{flat_map}
use Rattle.std.proofs.lemmas.List.{append-nil, drop_at}
use Rattle.dfs_record.specs.declared.Record.{Record}
use Rattle.dfs_record.specs.Record.{IsRecord, spelling}
use Rattle.dfs_record.specs.Records.{KeysRise}
use Rattle.dfs_block.specs.Block.{IsBlock, block_bytes}
use Rattle.dfs_block.specs.Built.{IsBuilt}
use Rattle.dfs_block.specs.Front.{records_front}
use Rattle.dfs_block.proofs.Spelled.{all_more, spelled_more, at_least, front_spelled}

pub behind_count : (n : ℕ) (l : List ℕ) → drop 2 (to_be_bytes w16 n ++ l) ≡ l
behind_count n l = drop_at (to_be_bytes w16 n) l 2 refl

-- the records that are seen are those that the bytes were built of
pub seen : (bytes : Vec ℕ) (count : ℕ) (rs : List Record) → IsBuilt bytes count rs → records_front count (drop 2 bytes.items) ≡ rs
seen bytes count rs is =
    ap (λ n. records_front n (drop 2 bytes.items)) is.number
    ∙ ap (records_front (length rs)) (ap (drop 2) is.spelled ∙ behind_count (length rs) (flat_map spelling rs) ∙ sym (append-nil (flat_map spelling rs)))
    ∙ front_spelled rs [] is.valid

-- seen again as what they were built of
pub again : (bytes : Vec ℕ) (count : ℕ) (rs : List Record) → IsBuilt bytes count rs → IsBuilt bytes count (records_front count (drop 2 bytes.items))
again bytes count rs is = subst (IsBuilt bytes count) (sym (seen bytes count rs is)) is

pub none_built : (bytes : Vec ℕ) → bytes.items ≡ 0 ∷ 0 ∷ [] → 4096 ≤ vec_capacity bytes → IsBuilt bytes 0 []
none_built bytes items room = record {
  number = refl;
  spelled = items;
  short = omega (arith, ap length items);
  room = room;
  rise = tt;
  valid = tt;
}

pub few : (bytes : Vec ℕ) (count : ℕ) (rs : List Record) → IsBuilt bytes count rs → count ≤ 4096
few bytes count rs is = omega (arith, is.number, is.short, ap length is.spelled, length-append (to_be_bytes w16 (length rs)) (flat_map spelling rs), at_least rs)

-- how long the bytes are with one record more
pub longer : (bytes : Vec ℕ) (count : ℕ) (rs : List Record) (r : Record) → IsBuilt bytes count rs → length (block_bytes (rs ++ r ∷ [])) ≡ length bytes.items + length (spelling r)
longer bytes count rs r is =
    omega (
      arith,
      ap length is.spelled,
      length-append (to_be_bytes w16 (length rs)) (flat_map spelling rs),
      length-append (to_be_bytes w16 (length (rs ++ r ∷ []))) (flat_map spelling (rs ++ r ∷ [])),
      ap length (spelled_more rs r),
      length-append (flat_map spelling rs) (spelling r),
    )

pub one_more : (old mid new : Vec ℕ) (count : ℕ) (rs : List Record) (r : Record) → IsBuilt old count rs → IsRecord r → KeysRise (rs ++ r ∷ []) → length old.items + length (spelling r) ≤ 4096
    → mid.items ≡ old.items ++ spelling r → vec_capacity old ≤ vec_capacity mid
    → new.items ≡ to_be_bytes w16 (count + 1) ++ drop 2 mid.items → vec_capacity new ≡ vec_capacity mid → IsBuilt new (count + 1) (rs ++ r ∷ [])
one_more old mid new count rs r is valid rise fits appended grown counted same =
    let number : count + 1 ≡ length (rs ++ r ∷ []) = omega (arith, is.number, length-append rs (r ∷ [])) in
    let behind : drop 2 mid.items ≡ flat_map spelling (rs ++ r ∷ []) =
    ap (drop 2) (appended ∙ ap (λ (l : List ℕ). l ++ spelling r) is.spelled ∙ append_assoc (to_be_bytes w16 (length rs)) (flat_map spelling rs) (spelling r))
    ∙ behind_count (length rs) (flat_map spelling rs ++ spelling r)
    ∙ sym (spelled_more rs r) in
    let spelled : new.items ≡ block_bytes (rs ++ r ∷ []) = counted ∙ ap (λ (l : List ℕ). to_be_bytes w16 (count + 1) ++ l) behind ∙ ap (λ n. to_be_bytes w16 n ++ flat_map spelling (rs ++ r ∷ [])) number in
    record {
      number = number;
      spelled = spelled;
      short = omega (arith, ap length spelled, longer old count rs r is, fits);
      room = omega (arith, is.room, grown, same);
      rise = rise;
      valid = all_more rs r is.valid valid;
    }

pub is_block : (bytes : Vec ℕ) (count : ℕ) (rs : List Record) → IsBuilt bytes count rs → 1 ≤ length rs → IsBlock bytes.items rs
is_block bytes count rs is some = record { some = some; spelled = is.spelled; short = is.short; rise = is.rise; valid = is.valid }
