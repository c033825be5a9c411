-- The part of some records between two keys, and what is unread of it.
use Rattle.std.specs.Prelude.{◌≡◌, ◌↔◌, ℕ, Bool, true, false, ◌&&◌, ◌||◌, not, T, if◌then◌else◌, List, [], ◌∷◌, ◌++◌, map, Option, Some, None, refl}
use Rattle.std.proofs.Common.{sym, ap, subst, ◌∙◌}
use Rattle.std.specs.List.{filter, list_any}
use Rattle.std.specs.Ordering.{is_lt, is_le}
use Rattle.std.specs.FinMap.Entries.{is_sorted, below_all, is_sorted-where_key}
use Rattle.std.specs.declared.cmp.Ordering.{Ordering}
use Rattle.std.specs.declared.cmp.Ordering.TheVariants.{Less, Equal, Greater}
use Rattle.std.proofs.lemmas.List.Elements.{All-filter, filter-append}
use Rattle.dfs_record.specs.declared.Key.{Key}
use Rattle.dfs_record.specs.declared.Record.{Record}
use Rattle.dfs_record.specs.declared.Value.{Value}
use Rattle.dfs_record.specs.Key.{key_cmp, keys_total}
use Rattle.dfs_record.specs.Records.{Files, KeysRise, IsPrefix, IsAbove, IsBelow}

-- an open end is beyond every key
abbrev pub is_from : Option Key → Key → Bool
is_from None key = true
is_from (Some low) key = is_le (key_cmp low key)

abbrev pub is_up_to : Option Key → Key → Bool
is_up_to None key = true
is_up_to (Some high) key = is_lt (key_cmp key high)

-- from one key up to, not with, the other
abbrev pub is_within : Option Key → Option Key → Key → Bool
is_within low high key = is_from low key && is_up_to high key

abbrev pub part : Option Key → Option Key → List Record → List Record
part low high rs = filter (λ r. is_within low high r.key) rs

-- whether some record is not below the upper end
abbrev pub reaches : Option Key → List Record → Bool
reaches high rs = list_any (λ r. not (is_up_to high r.key)) rs

-- nothing of a part is unread once its upper end is loaded
abbrev pub unread_of : Option Key → List Record → ℕ → ℕ
unread_of high rest unread = if reaches high rest then 0 else unread

abbrev pub bound_of : Option Key → List Record → Option Key → Option Key
bound_of high rest bound = if reaches high rest then None else bound

-- the records still to come of a part are the part of those still to come of the whole
abbrev pub PartComes : Option Key → Option Key → (Files → List Record → Type 0) → Files → List Record → Type 0
PartComes low high Comes files l = (whole : List Record) × Comes files whole × (l ≡ part low high whole)

-- whether the first record is the first of the part, or none of the part is left
abbrev pub begins_at : Option Key → Option Key → List Record → Bool
begins_at low high [] = true
begins_at low high (r ∷ rs) = is_from low r.key || not (is_up_to high r.key)

-- a source after some records were passed that are none of its part
pub record HasPassed {S : Type 0} (rest : S → List Record) (unread : S → ℕ) (bound : S → Option Key) (Comes : S → Files → List Record → Type 0) (low high : Option Key) (old new : S) : Type 0 where
  pub same_part : part low high (rest new) ≡ part low high (rest old)
  pub same_reach : reaches high (rest new) ≡ reaches high (rest old)
  pub same_unread : unread new ≡ unread old
  pub same_bound : bound new ≡ bound old
  pub comes : (files : Files) (l : List Record) → Comes old files l → PartComes low high (Comes new) files (part low high l)

-- ---- lists whose keys rise

abbrev pub pairs : List Record → List (Key × Value)
pairs rs = map (λ r. (r.key, r.value)) rs

pub second : (a b : Bool) → T (a && b) → T b
second true b h = h
second false b h = absurd h

pub first : (a b : Bool) → T (a && b) → T a
first true b h = tt
first false b h = absurd h

pub less : (o : Ordering) → T (is_lt o) → o ≡ Less
less Less p = refl
less Equal p = absurd p
less Greater p = absurd p

pairs-filter : (p : Key → Bool) (rs : List Record) → pairs (filter (λ r. p r.key) rs) ≡ filter (λ (e : Key × Value). p e.0) (pairs rs)
pairs-filter p [] = refl
pairs-filter p (r ∷ rs) = by (p r.key) (pairs-filter p rs)
  where
    by : (b : Bool) → pairs (filter (λ r. p r.key) rs) ≡ filter (λ (e : Key × Value). p e.0) (pairs rs) → pairs (if b then r ∷ filter (λ r. p r.key) rs else filter (λ r. p r.key) rs) ≡ (if b then (r.key, r.value) ∷ filter (λ (e : Key × Value). p e.0) (pairs rs) else filter (λ (e : Key × Value). p e.0) (pairs rs))
    by true h = ap (λ l. (r.key, r.value) ∷ l) h
    by false h = h

-- what passes a test of the key still rises
pub filter_rises : (p : Key → Bool) (rs : List Record) → KeysRise rs → KeysRise (filter (λ r. p r.key) rs)
filter_rises p rs h = subst (λ es. T (is_sorted key_cmp es)) (sym (pairs-filter p rs)) (is_sorted-where_key key_cmp p (pairs rs) h)

-- a key above one that is not below the end is not below the end either
not_up : (high : Option Key) (k x : Key) → is_up_to high k ≡ false → key_cmp k x ≡ Less → is_up_to high x ≡ false
not_up None k x h l = h
not_up (Some h) k x p l = by (key_cmp x h) refl
  where
    by : (o : Ordering) → key_cmp x h ≡ o → is_lt o ≡ false
    by Less e = sym (ap is_lt (keys_total.trans k x h l e)) ∙ p
    by Equal e = refl
    by Greater e = refl

-- none of the part lies behind a key that is not below its end
past : (low high : Option Key) (k : Key) (rs : List Record) → is_up_to high k ≡ false → T (below_all key_cmp k (pairs rs)) → part low high rs ≡ []
past low high k [] h b = refl
past low high k (r ∷ rs) h b =
    let up = not_up high k r.key h (less _ (first _ _ b)) in
    outside (is_from low r.key) (is_up_to high r.key) up (past low high k rs h (second _ _ b))
  where
    outside : (f u : Bool) → u ≡ false → part low high rs ≡ [] → (if f && u then r ∷ part low high rs else part low high rs) ≡ []
    outside true true e h = absurd (subst T e tt)
    outside true false e h = h
    outside false u e h = h

pub part_past : (low high : Option Key) (r : Record) (rs : List Record) → KeysRise (r ∷ rs) → is_up_to high r.key ≡ false → part low high (r ∷ rs) ≡ []
part_past low high r rs rise h = by (is_from low r.key) (is_up_to high r.key) h (past low high r.key rs h (first _ _ rise))
  where
    by : (f u : Bool) → u ≡ false → part low high rs ≡ [] → (if f && u then r ∷ part low high rs else part low high rs) ≡ []
    by true true e p = absurd (subst T e tt)
    by true false e p = p
    by false u e p = p

both : (a b : Bool) → T a → T b → T (a && b)
both true b p q = q
both false b p q = p

below_front : (k : Key) (rs more : List Record) → T (below_all key_cmp k (pairs (rs ++ more))) → T (below_all key_cmp k (pairs rs))
below_front k [] more h = tt
below_front k (r ∷ rs) more h = both _ _ (first _ _ h) (below_front k rs more (second _ _ h))

-- the front of a list whose keys rise
pub front_rises : (rs more : List Record) → KeysRise (rs ++ more) → KeysRise rs
front_rises [] more h = tt
front_rises (r ∷ rs) more h = both _ _ (below_front r.key rs more (first _ _ h)) (front_rises rs more (second _ _ h))

-- once the upper end is loaded, nothing more of the part comes
reached : (low high : Option Key) (rs more : List Record) → reaches high rs ≡ true → KeysRise (rs ++ more) → part low high (rs ++ more) ≡ part low high rs
reached low high [] more h rise = absurd (subst T (sym h) tt)
reached low high (r ∷ rs) more h rise = by (is_up_to high r.key) refl h (λ p. reached low high rs more p (second _ _ rise))
  where
    by : (u : Bool) → is_up_to high r.key ≡ u → (not u || reaches high rs) ≡ true → (reaches high rs ≡ true → part low high (rs ++ more) ≡ part low high rs) → part low high (r ∷ (rs ++ more)) ≡ part low high (r ∷ rs)
    by true e p behind = ap (λ l. if is_within low high r.key then r ∷ l else l) (behind p)
    by false e p behind = part_past low high r (rs ++ more) rise e ∙ sym (part_past low high r rs (front_rises (r ∷ rs) more rise) e)

-- ---- the laws of a part

pub part_rises : (low high : Option Key) (rs : List Record) → KeysRise rs → KeysRise (part low high rs)
part_rises low high rs h = filter_rises (is_within low high) rs h

pub part_none : (high : Option Key) (rest : List Record) (bound : Option Key) (unread : ℕ) → (bound ≡ None) ↔ (unread ≡ 0) → (bound_of high rest bound ≡ None) ↔ (unread_of high rest unread ≡ 0)
part_none high rest bound unread h = by (reaches high rest)
  where
    by : (b : Bool) → ((if b then None else bound) ≡ None) ↔ ((if b then 0 else unread) ≡ 0)
    by true = (λ _. refl, λ _. refl)
    by false = h

pub part_above : (low high : Option Key) (rest : List Record) (bound : Option Key) → IsAbove bound rest → IsAbove (bound_of high rest bound) (part low high rest)
part_above low high rest bound h = by (reaches high rest) bound h
  where
    by : (b : Bool) (bound : Option Key) → IsAbove bound rest → IsAbove (if b then None else bound) (part low high rest)
    by true bound h = tt
    by false None h = tt
    by false (Some key) h = All-filter (λ r. is_within low high r.key) (λ r. IsBelow r.key key) rest h

module _ (low high : Option Key) (Comes : Files → List Record → Type 0) (files : Files) (l : List Record) (h : PartComes low high Comes files l) where
  pub comes_rises : ((whole : List Record) → Comes files whole → KeysRise whole) → KeysRise l
  comes_rises rises = subst KeysRise (sym h.2) (part_rises low high h.0 (rises h.0 h.1))

  pub comes_begins : (rest : List Record) → ((whole : List Record) → Comes files whole → IsPrefix rest whole) → IsPrefix (part low high rest) l
  comes_begins rest begins =
      let front = begins h.0 h.1 in
      (part low high front.0, h.2 ∙ ap (part low high) front.1 ∙ filter-append (λ r. is_within low high r.key) rest front.0)

  pub comes_loaded : (rest : List Record) (unread : ℕ) → ((whole : List Record) → Comes files whole → KeysRise whole) → ((whole : List Record) → Comes files whole → IsPrefix rest whole)
      → ((whole : List Record) → Comes files whole → unread ≡ 0 → whole ≡ rest) → unread_of high rest unread ≡ 0 → l ≡ part low high rest
  comes_loaded rest unread rises begins loaded = by (reaches high rest) refl
    where
      by : (b : Bool) → reaches high rest ≡ b → (if b then 0 else unread) ≡ 0 → l ≡ part low high rest
      by true e z =
          let front = begins h.0 h.1 in
          h.2 ∙ ap (part low high) front.1 ∙ reached low high rest front.0 e (subst KeysRise front.1 (rises h.0 h.1))
      by false e z = h.2 ∙ ap (part low high) (loaded h.0 h.1 z)

  pub comes_one : ((v w : List Record) → Comes files v → Comes files w → v ≡ w) → (m : List Record) → PartComes low high Comes files m → l ≡ m
  comes_one one m k = h.2 ∙ ap (part low high) (one h.0 k.0 h.1 k.1) ∙ sym k.2
