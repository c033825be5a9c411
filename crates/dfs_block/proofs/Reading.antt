-- What a reader of records makes of those that it has read and of the bytes that are left.
use Rattle.std.proofs.Common.{◌≡◌, ℕ, ◌+◌, ◌<◌, ◌≤◌, true, false, List, [], ◌∷◌, ◌++◌, length, drop, refl, sym, ap, subst, ◌∙◌, append_assoc, arith, length-append}
use Rattle.std.specs.Prelude.{Option, Some, None}
use Rattle.std.specs.List.{AllByRecursion, flat_map}
use Rattle.std.proofs.lemmas.List.{append-nil}
use Rattle.dfs_record.specs.declared.Key.{Key}
use Rattle.dfs_record.specs.declared.Record.{Record}
use Rattle.dfs_record.specs.declared.Value.{Value}
use Rattle.dfs_record.specs.Delta.{or_else}
use Rattle.dfs_record.specs.Reading.{record_at}
use Rattle.dfs_record.specs.Record.{IsRecord, spelling, SpelledFirst, NothingSpelled}
use Rattle.dfs_record.specs.Records.{KeysRise}
use Rattle.dfs_record.proofs.Readings.{IsBytes}
use Rattle.dfs_record.proofs.Firsts.{spelled_first}
use Rattle.dfs_block.specs.Block.{last_key}
use Rattle.dfs_block.specs.Read.{AreRecords, AreNoRecords, EndAt, is_above, value_for}
use Rattle.dfs_block.specs.Front.{records_front}
use Rattle.dfs_block.proofs.Blocks.{front_all}
use Rattle.dfs_block.proofs.Spelled.{all_more, spelled_more, parts, first_is, same_record, behind_front, fits_behind}
use Rattle.dfs_block.proofs.Rising.{rise_more, last_more, above_last, some_last, sought_more}

-- so many records of the bytes are read, the last of which has this key, and the rest is left
pub record HasRead (bytes rest : List ℕ) (turn : ℕ) (last : Option Key) : Type 0 where
  pub front : List Record
  pub valid : AllByRecursion IsRecord front
  pub rise : KeysRise front
  pub number : length front ≡ turn
  pub text : flat_map spelling front ++ rest ≡ bytes
  pub last_is : last ≡ last_key front
  pub fits : IsBytes rest

-- They are read, and the value is what they have for the key that is sought.
pub record HasSought (bytes rest : List ℕ) (turn : ℕ) (last key : Option Key) (value : Option Value) : Type 0 where
  pub read : HasRead bytes rest turn last
  pub value_is : value ≡ value_for key read.front

none_sought : (key : Option Key) → None ≡ value_for key []
none_sought None = refl
none_sought (Some q) = refl

pub none_read : (bytes : List ℕ) (key : Option Key) → IsBytes bytes → HasSought bytes bytes 0 None key None
none_read bytes key fits = record {
  read = record { front = []; valid = tt; rise = tt; number = refl; text = refl; last_is = refl; fits = fits };
  value_is = none_sought key;
}

no_bytes : (l : List ℕ) → length l ≡ 0 → l ≡ []
no_bytes [] e = refl
no_bytes (b ∷ l) e = absurd (omega (arith, e))

module _ {bytes rest : List ℕ} {turn : ℕ} {last : Option Key} where
  above : (h : HasRead bytes rest turn last) (r : Record) → is_above last r.key ≡ is_above (last_key h.front) r.key
  above h r = ap (λ o. is_above o r.key) h.last_is

  pub read_on : {behind : List ℕ} {now key : Option Key} {value new : Option Value} (h : HasSought bytes rest turn last key value) (r : Record) (len : ℕ) → SpelledFirst rest r len → is_above last r.key ≡ true
      → behind ≡ drop len rest → now ≡ Some r.key → new ≡ or_else value (value_for key (r ∷ [])) → HasSought bytes behind (turn + 1) now key new
  read_on {behind} {now} {key} {value} {new} h r len first next left last_is new_is =
      let front = h.read.front in
      let rise : KeysRise (front ++ r ∷ []) = rise_more front r h.read.rise (sym (above h.read r) ∙ next) in
      record {
        read = record {
          front = front ++ r ∷ [];
          valid = all_more front r h.read.valid first.1.0;
          rise = rise;
          number = omega (arith, length-append front (r ∷ []), h.read.number);
          text =
              ap (λ (l : List ℕ). l ++ behind) (spelled_more front r)
              ∙ append_assoc (flat_map spelling front) (spelling r) behind
              ∙ ap (λ (l : List ℕ). flat_map spelling front ++ l) (ap (λ (l : List ℕ). spelling r ++ l) left ∙ sym (parts rest r len first))
              ∙ h.read.text;
          last_is = last_is ∙ sym (last_more front r);
          fits = subst IsBytes (sym left) (fits_behind len rest h.read.fits);
        };
        value_is = new_is ∙ ap (λ o. or_else o (value_for key (r ∷ []))) h.value_is ∙ sym (sought_more key front r rise);
      }

  -- where so many records are spelled, those behind the front are spelled in the rest
  pub record Stand (h : HasRead bytes rest turn last) (count : ℕ) : Type 0 where
    pub more : List Record
    pub valid : AllByRecursion IsRecord more
    pub rise : KeysRise (h.front ++ more)
    pub number : turn + length more ≡ count
    pub text : rest ≡ flat_map spelling more

  stands : (h : HasRead bytes rest turn last) (count : ℕ) → turn ≤ count → (rs : List Record) → AreRecords count bytes rs → Stand h count
  stands h count le rs are =
      let t = behind_front h.front rs rest h.valid are.valid (omega (arith, le, h.number, are.number)) (h.text ∙ are.spelled) in
      record {
        more = t.0;
        valid = t.1.1.0;
        rise = subst KeysRise t.1.0 are.rise;
        number = omega (arith, ap length t.1.0, length-append h.front t.0, h.number, are.number);
        text = t.1.1.1;
      }

  pub stuck : HasRead bytes rest turn last → (count : ℕ) → turn < count → NothingSpelled rest → AreNoRecords count bytes
  stuck h count below nothing rs are = by_case s.more s.valid s.number s.text
    where
      s : Stand h count
      s = stands h count (omega (arith, below)) rs are

      by_case : (more : List Record) → AllByRecursion IsRecord more → turn + length more ≡ count → rest ≡ flat_map spelling more → ⊥
      by_case [] valid number text = absurd (omega (arith, below, number))
      by_case (r ∷ more) valid number text = nothing (length (spelling r)) r (subst (λ (l : List ℕ). SpelledFirst l r (length (spelling r))) (sym text) (spelled_first r (flat_map spelling more) valid.0))

  pub falls : HasRead bytes rest turn last → (count : ℕ) → turn < count → (r : Record) (len : ℕ) → SpelledFirst rest r len → is_above last r.key ≡ false → AreNoRecords count bytes
  falls h count below r len first not rs are = by_case s.more s.valid s.rise s.number s.text
    where
      s : Stand h count
      s = stands h count (omega (arith, below)) rs are

      by_case : (more : List Record) → AllByRecursion IsRecord more → KeysRise (h.front ++ more) → turn + length more ≡ count → rest ≡ flat_map spelling more → ⊥
      by_case [] valid rise number text = absurd (omega (arith, below, number))
      by_case (x ∷ more) valid rise number text =
          let there : record_at rest ≡ Some (x, drop (length (spelling x)) rest) = first_is rest x (length (spelling x)) (subst (λ (l : List ℕ). SpelledFirst l x (length (spelling x))) (sym text) (spelled_first x (flat_map spelling more) valid.0)) in
          let same : r ≡ x = same_record rest r x (drop len rest) (drop (length (spelling x)) rest) (first_is rest r len first) there in
          let is_not : is_above (last_key h.front) x.key ≡ false = ap (λ (y : Record). is_above (last_key h.front) y.key) (sym same) ∙ sym (above h r) ∙ not in
          let is : is_above (last_key h.front) x.key ≡ true = above_last h.front x more rise in
          absurd (cc (is, is_not))

  pub left_over : HasRead bytes rest turn last → (count : ℕ) → turn ≡ count → 0 < length rest → AreNoRecords count bytes
  left_over h count end some rs are = by_case s.more s.number s.text
    where
      s : Stand h count
      s = stands h count (omega (arith, end)) rs are

      by_case : (more : List Record) → turn + length more ≡ count → rest ≡ flat_map spelling more → ⊥
      by_case [] number text = absurd (omega (arith, some, ap length text))
      by_case (x ∷ more) number text = absurd (omega (arith, end, number))

  all_read : (h : HasRead bytes rest turn last) (count : ℕ) → turn ≡ count → length rest ≡ 0 → AreRecords count bytes h.front
  all_read h count end none = record {
    number = h.number ∙ end;
    spelled = sym h.text ∙ ap (λ (l : List ℕ). flat_map spelling h.front ++ l) (no_bytes rest none) ∙ append-nil (flat_map spelling h.front);
    rise = h.rise;
    valid = h.valid;
  }

  pub ended : HasRead bytes rest turn last → (count : ℕ) → turn ≡ count → length rest ≡ 0 → (key : Key) → last ≡ Some key → EndAt count bytes key
  ended h count end none key is = record { records = h.front; are = all_read h count end none; last_is = sym h.last_is ∙ is }

  pub not_none : HasRead bytes rest turn last → 1 ≤ turn → last ≡ None → ⊥
  not_none h some is = some_last h.front (omega (arith, h.number, some)) (sym h.last_is ∙ is)

  pub sought : {key : Option Key} {value : Option Value} (h : HasSought bytes rest turn last key value) (count : ℕ) → turn ≡ count → length rest ≡ 0 → value ≡ value_for key (records_front count bytes)
  sought {key} {value} h count end none = h.value_is ∙ ap (value_for key) (sym (front_all count bytes h.read.front (all_read h.read count end none)))
