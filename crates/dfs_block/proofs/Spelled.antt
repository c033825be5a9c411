-- Records spelled one after the other.
use Rattle.std.proofs.Common.{◌≡◌, ℕ, zero, suc, ◌+◌, ◌-◌, ◌<◌, ◌≤◌, List, [], ◌∷◌, ◌++◌, length, drop, refl, sym, ap, ◌∙◌, append_assoc, arith, length-append}
use Rattle.std.specs.Prelude.{Option, Some, None}
use Rattle.std.specs.List.{flat_map, AllByRecursion}
use Rattle.std.proofs.lemmas.List.{append-nil, take-append-drop, get_or-drop}
use Rattle.dfs_record.specs.declared.Record.{Record}
use Rattle.dfs_record.specs.Reading.{record_at}
use Rattle.dfs_record.specs.Record.{IsRecord, spelling, SpelledFirst, NothingSpelled}
use Rattle.dfs_record.proofs.Readings.{IsBytes, records, first_read}
use Rattle.dfs_block.specs.Front.{first_and, records_front}

some_is : {A : Type 0} (x y : A) → Some x ≡ Some y → x ≡ y
some_is x y e = cc

pub all_more : (rs : List Record) (r : Record) → AllByRecursion IsRecord rs → IsRecord r → AllByRecursion IsRecord (rs ++ r ∷ [])
all_more [] r all one = (one, tt)
all_more (x ∷ rs) r all one = (all.0, all_more rs r all.1 one)

pub spelled_more : (rs : List Record) (r : Record) → flat_map spelling (rs ++ r ∷ []) ≡ flat_map spelling rs ++ spelling r
spelled_more [] r = append-nil (spelling r)
spelled_more (x ∷ rs) r = ap (λ (l : List ℕ). spelling x ++ l) (spelled_more rs r) ∙ sym (append_assoc (spelling x) (flat_map spelling rs) (spelling r))

pub at_least : (rs : List Record) → length rs ≤ length (flat_map spelling rs)
at_least [] = omega arith
at_least (r ∷ rs) = omega (arith, at_least rs, length-append (spelling r) (flat_map spelling rs))

-- the bytes from their first record on
pub parts : (bytes : List ℕ) (r : Record) (len : ℕ) → SpelledFirst bytes r len → bytes ≡ spelling r ++ drop len bytes
parts bytes r len first = sym (take-append-drop len bytes) ∙ ap (λ (l : List ℕ). l ++ drop len bytes) first.1.1

pub first_is : (bytes : List ℕ) (r : Record) (len : ℕ) → SpelledFirst bytes r len → record_at bytes ≡ Some (r, drop len bytes)
first_is bytes r len first = ap record_at (parts bytes r len first) ∙ records.again r (drop len bytes) first.1.0

pub same_record : (bytes : List ℕ) (r s : Record) (rest more : List ℕ) → record_at bytes ≡ Some (r, rest) → record_at bytes ≡ Some (s, more) → r ≡ s
same_record bytes r s rest more e f = ap (λ (p : Record × List ℕ). p.0) (some_is (r, rest) (s, more) (sym e ∙ f))

pub none_is : (bytes : List ℕ) → IsBytes bytes → NothingSpelled bytes → record_at bytes ≡ None
none_is bytes fits nothing = by_case (record_at bytes) refl
  where
    by_case : (o : Option (Record × List ℕ)) → record_at bytes ≡ o → o ≡ None
    by_case (Some x) e = absurd (nothing _ _ (first_read IsRecord spelling record_at records bytes x.0 x.1 fits e))
    by_case None e = refl

pub fits_behind : (n : ℕ) (bytes : List ℕ) → IsBytes bytes → IsBytes (drop n bytes)
fits_behind n bytes fits i = rw get_or-drop (fits (n + i))

-- what stands before the rest is the same on both sides
same_first : (r s : Record) (more rest : List ℕ) → IsRecord r → IsRecord s → spelling r ++ more ≡ spelling s ++ rest → (r ≡ s) × (more ≡ rest)
same_first r s more rest v w e =
    let both : (r, more) ≡ (s, rest) = some_is (r, more) (s, rest) (sym (records.again r more v) ∙ ap record_at e ∙ records.again s rest w) in
    (ap (λ (p : Record × List ℕ). p.0) both, ap (λ (p : Record × List ℕ). p.1) both)

-- the records behind those of the front are spelled in the rest
pub behind_front : (front rs : List Record) (rest : List ℕ) → AllByRecursion IsRecord front → AllByRecursion IsRecord rs → length front ≤ length rs → flat_map spelling front ++ rest ≡ flat_map spelling rs
    → (more : List Record) × ((rs ≡ front ++ more) × (AllByRecursion IsRecord more × (rest ≡ flat_map spelling more)))
behind_front [] rs rest v w le e = (rs, (refl, (w, e)))
behind_front (f ∷ front) [] rest v w le e = absurd (omega (arith, le))
behind_front (f ∷ front) (r ∷ rs) rest v w le e =
    let s = same_first f r (flat_map spelling front ++ rest) (flat_map spelling rs) v.0 w.0 (sym (append_assoc (spelling f) (flat_map spelling front) rest) ∙ e) in
    let t = behind_front front rs rest v.1 w.1 (omega (arith, le)) s.1 in
    (t.0, ((λ i. sym s.0 i ∷ t.1.0 i), t.1.1))

-- ---- the records that bytes begin with

pub front_none : (count : ℕ) (bytes : List ℕ) → record_at bytes ≡ None → records_front count bytes ≡ []
unfolding records_front
front_none zero bytes e = refl
front_none (suc count) bytes e = ap (λ o. first_and o (λ rest. records_front count rest)) e

pub front_zero : (bytes : List ℕ) → records_front 0 bytes ≡ []
unfolding records_front
front_zero bytes = refl

pub front_next : (count : ℕ) (bytes : List ℕ) (r : Record) (behind : List ℕ) → record_at bytes ≡ Some (r, behind) → records_front (suc count) bytes ≡ r ∷ records_front count behind
unfolding records_front
front_next count bytes r behind e = ap (λ o. first_and o (λ rest. records_front count rest)) e

pub front_spelled : (rs : List Record) (more : List ℕ) → AllByRecursion IsRecord rs → records_front (length rs) (flat_map spelling rs ++ more) ≡ rs
unfolding records_front
front_spelled [] more valid = refl
front_spelled (r ∷ rs) more valid =
    let here : record_at (flat_map spelling (r ∷ rs) ++ more) ≡ Some (r, flat_map spelling rs ++ more) = ap record_at (append_assoc (spelling r) (flat_map spelling rs) more) ∙ records.again r (flat_map spelling rs ++ more) valid.0 in
    front_next (length rs) (flat_map spelling (r ∷ rs) ++ more) r (flat_map spelling rs ++ more) here
    ∙ ap (λ l. r ∷ l) (front_spelled rs more valid.1)

pub front_more : (count : ℕ) (bytes : List ℕ) (r : Record) (len : ℕ) (behind : List ℕ) → 0 < count → SpelledFirst bytes r len → behind ≡ drop len bytes → r ∷ records_front (count - 1) behind ≡ records_front count bytes
front_more count bytes r len behind some first is =
    let more : count ≡ suc (count - 1) = omega (arith, some) in
    ap (λ l. r ∷ records_front (count - 1) l) is
    ∙ sym (ap (λ n. records_front n bytes) more ∙ front_next (count - 1) bytes r (drop len bytes) (first_is bytes r len first))
