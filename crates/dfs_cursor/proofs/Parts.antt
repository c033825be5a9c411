-- What passing a record does to a part.
use Rattle.std.proofs.Common.{◌≡◌, ℕ, ◌<◌, Bool, true, false, ◌&&◌, ◌||◌, not, cond, T, IsTrue, List, [], ◌∷◌, ◌++◌, length, drop, refl, sym, ap, subst, ◌∙◌, arith}
use Rattle.std.specs.Prelude.{Option, Some, None}
use Rattle.std.specs.Ordering.{is_le}
use Rattle.std.specs.declared.cmp.Ordering.{Ordering}
use Rattle.std.specs.declared.cmp.Ordering.TheVariants.{Less, Equal, Greater}
use Rattle.dfs_record.specs.declared.Key.{Key}
use Rattle.dfs_record.specs.declared.Record.{Record}
use Rattle.dfs_record.specs.Key.{key_cmp, keys_total}
use Rattle.dfs_record.specs.Records.{Files, KeysRise, IsPrefix}
use Rattle.dfs_cursor.specs.Ranges.{is_from, is_up_to, is_within, part, reaches, PartComes, HasPassed, begins_at, first, less, part_past}

-- a key above one from the lower end is from there too
from_above : (low : Option Key) (k x : Key) → is_from low k ≡ true → key_cmp k x ≡ Less → is_from low x ≡ true
from_above None k x h l = refl
from_above (Some low) k x h l = by (key_cmp low k) refl h
  where
    by : (o : Ordering) → key_cmp low k ≡ o → is_le o ≡ true → is_le (key_cmp low x) ≡ true
    by Less e p = ap is_le (keys_total.trans low k x e l)
    by Equal e p = ap is_le (keys_total.congr low k x e ∙ l)
    by Greater e p = absurd (subst T (sym p) tt)

-- the first record of a source whose part has one
pub record IsFirst (low high : Option Key) (rest : List Record) : Type 0 where
  pub head : Record
  pub others : List Record
  pub is : rest ≡ head ∷ others
  pub from : is_from low head.key ≡ true
  pub up : is_up_to high head.key ≡ true

pub first_of_part : (low high : Option Key) (rest : List Record) → KeysRise rest → IsTrue (begins_at low high rest) → 0 < length (part low high rest) → IsFirst low high rest
first_of_part low high [] rise begins some = absurd (omega arith)
first_of_part low high (r ∷ rs) rise begins some = by (is_from low r.key) (is_up_to high r.key) refl refl begins
  where
    by : (f u : Bool) → is_from low r.key ≡ f → is_up_to high r.key ≡ u → (f || not u) ≡ true → IsFirst low high (r ∷ rs)
    by f false e d h = absurd (omega (arith, ap length (part_past low high r rs rise d), some))
    by true true e d h = record { head = r; others = rs; is = refl; from = e; up = d }
    by false true e d h = absurd (subst T (sym h) tt)

within : (low high : Option Key) (k : Key) → is_from low k ≡ true → is_up_to high k ≡ true → is_within low high k ≡ true
within low high k f u = ap (λ b. b && is_up_to high k) f ∙ u

pub kept : (low high : Option Key) (r : Record) (rs : List Record) → is_from low r.key ≡ true → is_up_to high r.key ≡ true → part low high (r ∷ rs) ≡ r ∷ part low high rs
kept low high r rs f u = ap (λ b. cond b (r ∷ part low high rs) (part low high rs)) (within low high r.key f u)

pub not_reached : (high : Option Key) (r : Record) (rs : List Record) → is_up_to high r.key ≡ true → reaches high (r ∷ rs) ≡ reaches high rs
not_reached high r rs u = ap (λ b. not b || reaches high rs) u

behind_begins : (low high : Option Key) (r : Record) (rs : List Record) → KeysRise (r ∷ rs) → is_from low r.key ≡ true → IsTrue (begins_at low high rs)
behind_begins low high r [] rise f = refl
behind_begins low high r (x ∷ xs) rise f =
    let e = from_above low r.key x.key f (less _ (first _ _ (first _ _ rise))) in
    ap (λ b. b || not (is_up_to high x.key)) e

module _ (low high : Option Key) (rest : List Record) (rise : KeysRise rest) (begins : IsTrue (begins_at low high rest)) (some : 0 < length (part low high rest)) where
  pub begins_behind : IsTrue (begins_at low high (drop 1 rest))
  begins_behind =
      let f = first_of_part low high rest rise begins some in
      subst (λ l. IsTrue (begins_at low high (drop 1 l))) (sym f.is) (behind_begins low high f.head f.others (subst KeysRise f.is rise) f.from)

  pub part_behind : part low high (drop 1 rest) ≡ drop 1 (part low high rest)
  part_behind =
      let f = first_of_part low high rest rise begins some in
      subst (λ l. part low high (drop 1 l) ≡ drop 1 (part low high l)) (sym f.is) (sym (ap (drop 1) (kept low high f.head f.others f.from f.up)))

  pub reach_behind : reaches high (drop 1 rest) ≡ reaches high rest
  reach_behind =
      let f = first_of_part low high rest rise begins some in
      subst (λ l. reaches high (drop 1 l) ≡ reaches high l) (sym f.is) (sym (not_reached high f.head f.others f.up))

  pub comes_behind : (Comes After : Files → List Record → Type 0) → ((files : Files) (l : List Record) → Comes files l → IsPrefix rest l) → ((files : Files) (l : List Record) → Comes files l → After files (drop 1 l))
      → (files : Files) (l : List Record) → PartComes low high Comes files l → PartComes low high After files (drop 1 l)
  comes_behind Comes After begins_so passes files l h =
      let f = first_of_part low high rest rise begins some in
      let front = begins_so files h.0 h.1 in
      let whole : h.0 ≡ f.head ∷ (f.others ++ front.0) = front.1 ∙ ap (λ x. x ++ front.0) f.is in
      let same : drop 1 (part low high h.0) ≡ part low high (drop 1 h.0) =
      subst (λ x. drop 1 (part low high x) ≡ part low high (drop 1 x)) (sym whole) (ap (drop 1) (kept low high f.head (f.others ++ front.0) f.from f.up)) in
      (drop 1 h.0, passes files h.0 h.1, ap (drop 1) h.2 ∙ same)

-- what hangs on whether the upper end is reached, after a step that leaves that
pub read_on : {A : Type 0} (none : A) (high : Option Key) (after before : List Record) (x y : A) → reaches high after ≡ reaches high before → x ≡ y → cond (reaches high after) none x ≡ cond (reaches high before) none y
read_on none high after before x y e h = λ i. cond (e i) none (h i)

-- ---- the head of a part

module _ (low high : Option Key) (rest : List Record) where
  pub head_kept : (r : Record) (rs : List Record) → rest ≡ r ∷ rs → IsTrue (begins_at low high rest) → is_up_to high r.key ≡ true → (others : List Record) × (part low high rest ≡ r ∷ others)
  head_kept r rs e begins u = (part low high rs, ap (part low high) e ∙ kept low high r rs (by (is_from low r.key) (is_up_to high r.key) u (subst (λ l. IsTrue (begins_at low high l)) e begins)) u)
    where
      by : (f u : Bool) → u ≡ true → (f || not u) ≡ true → f ≡ true
      by true u p q = refl
      by false true p q = q
      by false false p q = p

  pub head_past : KeysRise rest → (unread : ℕ) (r : Record) (rs : List Record) → rest ≡ r ∷ rs → is_up_to high r.key ≡ false → (part low high rest ≡ []) × (cond (reaches high rest) 0 unread ≡ 0)
  head_past rise unread r rs e u = (
    ap (part low high) e ∙ part_past low high r rs (subst KeysRise e rise) u,
    ap (λ l. cond (reaches high l) 0 unread) e ∙ ap (λ b. cond (not b || reaches high rs) 0 unread) u,
  )

-- ---- passing what lies below the part

-- the first record lies below both ends
pub record IsBelowPart (low high : Option Key) (rest : List Record) : Type 0 where
  pub head : Record
  pub others : List Record
  pub is : rest ≡ head ∷ others
  pub from : is_from low head.key ≡ false
  pub up : is_up_to high head.key ≡ true

pub below_part : (low high : Option Key) (rest : List Record) → true ≡ not (begins_at low high rest) → IsBelowPart low high rest
below_part low high [] h = absurd cc
below_part low high (r ∷ rs) h = by (is_from low r.key) (is_up_to high r.key) refl refl h
  where
    by : (f u : Bool) → is_from low r.key ≡ f → is_up_to high r.key ≡ u → true ≡ not (f || not u) → IsBelowPart low high (r ∷ rs)
    by true u e d p = absurd cc
    by false true e d p = record { head = r; others = rs; is = refl; from = e; up = d }
    by false false e d p = absurd cc

passed : (low high : Option Key) (r : Record) (rs : List Record) → is_from low r.key ≡ false → part low high (r ∷ rs) ≡ part low high rs
passed low high r rs f = ap (λ b. cond (b && is_up_to high r.key) (r ∷ part low high rs) (part low high rs)) f

module _ {S : Type 0} (rest : S → List Record) (unread : S → ℕ) (bound : S → Option Key) (Comes : S → Files → List Record → Type 0) (low high : Option Key) where
  pub none_passed : (s : S) → HasPassed rest unread bound Comes low high s s
  none_passed s = record { same_part = refl; same_reach = refl; same_unread = refl; same_bound = refl; comes = λ files l h. (l, h, refl) }

  pub one_passed : (old s new : S) → HasPassed rest unread bound Comes low high old s → true ≡ not (begins_at low high (rest s))
      → rest new ≡ drop 1 (rest s) → unread new ≡ unread s → bound new ≡ bound s
      → ((files : Files) (l : List Record) → Comes s files l → Comes new files (drop 1 l))
      → ((files : Files) (l : List Record) → Comes s files l → IsPrefix (rest s) l)
      → HasPassed rest unread bound Comes low high old new
  one_passed old s new h below r u b passes begins =
      let f = below_part low high (rest s) below in
      let behind : rest new ≡ f.others = r ∙ ap (drop 1) f.is in
      record {
        same_part = ap (part low high) behind ∙ sym (passed low high f.head f.others f.from) ∙ ap (part low high) (sym f.is) ∙ h.same_part;
        same_reach = ap (reaches high) behind ∙ sym (not_reached high f.head f.others f.up) ∙ ap (reaches high) (sym f.is) ∙ h.same_reach;
        same_unread = u ∙ h.same_unread;
        same_bound = b ∙ h.same_bound;
        comes = λ files l e.
            let before = h.comes files l e in
            let front = begins files before.0 before.1 in
            let whole : before.0 ≡ f.head ∷ (f.others ++ front.0) = front.1 ∙ ap (λ x. x ++ front.0) f.is in
            (drop 1 before.0, passes files before.0 before.1, before.2 ∙ ap (part low high) whole ∙ passed low high f.head (f.others ++ front.0) f.from ∙ ap (λ x. part low high (drop 1 x)) (sym whole));
      }
