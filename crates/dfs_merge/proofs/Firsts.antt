-- The source that is taken first has the first record of the merged list.
use Rattle.std.proofs.Common.{◌≡◌, ℕ, zero, suc, ◌<◌, ◌≤◌, Bool, true, false, cond, T, ◌&&◌, ◌||◌, ◌==◌, List, [], ◌∷◌, ◌++◌, length, map, get_or, refl, sym, ap, subst, ◌∙◌, arith, eqb-true, nat_lt, lt-ltb}
use Rattle.std.specs.Prelude.{Option, Some, None, flat_map}
use Rattle.std.specs.List.{list_any}
use Rattle.std.specs.Ordering.{is_lt, is_le, is_eq, nat_cmp, ordering_then, ordering_reverse, eq_by_cmp}
use Rattle.std.specs.Cmp.{IsTotalOrder, on_total, then_total, back_total, nat_cmp_total}
use Rattle.std.specs.FinMap.Entries.{where_key, find, below_all, is_sorted}
use Rattle.std.specs.declared.cmp.Ordering.{Ordering}
use Rattle.std.specs.declared.cmp.Ordering.TheVariants.{Less, Equal, Greater}
use Rattle.std.proofs.lemmas.Option.{none-some, same_Some}
use Rattle.dfs_record.specs.declared.Key.{Key}
use Rattle.dfs_record.specs.declared.Record.{Record}
use Rattle.dfs_record.specs.declared.Value.{Value}
use Rattle.dfs_record.specs.Key.{key_cmp, keys_total, keys_exact}
use Rattle.dfs_record.specs.KeyMap.{get}
use Rattle.dfs_record.specs.Delta.{Delta, delta, records_of, last_value, or_else}
use Rattle.dfs_record.specs.Records.{KeysRise, IsBelow, IsHead}
use Rattle.dfs_record.specs.Lend.{key_of, record_of}
use Rattle.dfs_record.specs.declared.records.Head.{Head}
use Rattle.dfs_record.specs.declared.records.Head.TheVariants.{Item, Hungry, End}
use Rattle.dfs_record.proofs.Maps.{same_key}
use Rattle.dfs_record.proofs.Replays.{get-delta, last_value-append}
use Rattle.dfs_merge.specs.Sources.{Source, ended, is_loaded_to, is_settled, kept, merged_rest, all_unread}
use Rattle.dfs_merge.specs.Rank.{Rank, rank_by, rank, rank_cmp, rank_at, IsFirst, no_key, head_cmp}
use Rattle.dfs_merge.specs.Laws.{get-kept, absent_above}
use Rattle.dfs_cursor.specs.Ranges.{first, second, less}

pub rank_total : IsTotalOrder rank_cmp
rank_total = then_total (on_total (λ r. r.class) nat_cmp_total) (then_total (on_total (λ r. r.key) keys_total) (back_total (on_total (λ r. r.index) nat_cmp_total)))

-- ---- orders

turned : (x y : Key) → is_lt (key_cmp x y) ≡ false → is_le (key_cmp y x) ≡ true
turned x y h = ap is_le (keys_total.antisymm y x) ∙ by (key_cmp x y) h
  where
    by : (o : Ordering) → is_lt o ≡ false → is_le (ordering_reverse o) ≡ true
    by Less h = absurd (subst T h tt)
    by Equal h = refl
    by Greater h = refl

le_self : (k : Key) → is_le (key_cmp k k) ≡ true
le_self k = by (key_cmp k k) (same_key k)
  where
    by : (o : Ordering) → is_eq o ≡ true → is_le o ≡ true
    by Less e = refl
    by Equal e = refl
    by Greater e = absurd (subst T (sym e) tt)

below_le : (a b c : Key) → IsBelow a b → is_le (key_cmp b c) ≡ true → IsBelow a c
below_le a b c l h = by (key_cmp b c) refl h
  where
    by : (o : Ordering) → key_cmp b c ≡ o → is_le o ≡ true → IsBelow a c
    by Less e p = keys_total.trans a b c l e
    by Equal e p = subst (IsBelow a) (keys_exact b c e) l
    by Greater e p = absurd (subst T (sym p) tt)

or_left : (a b : Bool) → b ≡ true → (a || b) ≡ true
or_left true b h = refl
or_left false b h = h

and_true : (a b : Bool) → a ≡ true → b ≡ true → (a && b) ≡ true
and_true a b p q = ap (λ c. c && b) p ∙ q

and_false : (a b : Bool) → b ≡ false → (a && b) ≡ false
and_false true b h = h
and_false false b h = refl

same_both : {A : Type 0} (b : Bool) → cond {A = Option A} b None None ≡ None
same_both true = refl
same_both false = refl

nonzero : (n : ℕ) → 0 < n → (n == 0) ≡ false
nonzero n h = by (n == 0) refl
  where
    by : (b : Bool) → (n == 0) ≡ b → (n == 0) ≡ false
    by true e = absurd (omega (arith, eqb-true n 0 e))
    by false e = e

abbrev pub listed : List (Key × Value) → List Record
listed es = map (λ e. record { key = e.0; value = e.1 }) es

-- what a source has, where it doesn't stand before one whose first key is k
abbrev pub Stands : Key → Bool → List Record → ℕ → Type 0
Stands k later [] unread = unread ≡ 0
Stands k later (x ∷ xs) unread = (is_lt (key_cmp x.key k) ≡ false) × (later ≡ true → IsBelow k x.key)

pub stands : (rs : List Record) (unread i t : ℕ) (k : Key) → is_lt (rank_cmp (rank_by rs unread i) (record { class = 1; key = k; index = t })) ≡ false → Stands k (nat_lt t i) rs unread
stands [] unread i t k h = by (unread == 0) refl h
  where
    by : (b : Bool) → (unread == 0) ≡ b → is_lt (ordering_then (nat_cmp (cond b 2 0) 1) (ordering_then (key_cmp (rank_by [] unread i).key k) (nat_cmp t i))) ≡ false → unread ≡ 0
    by true e h = eqb-true unread 0 e
    by false e h = absurd (subst T h tt)
stands (x ∷ xs) unread i t k h = (low (key_cmp x.key k) h, λ later. high (key_cmp x.key k) refl h later)
  where
    low : (o : Ordering) → is_lt (ordering_then o (nat_cmp t i)) ≡ false → is_lt o ≡ false
    low Less h = h
    low Equal h = refl
    low Greater h = refl

    high : (o : Ordering) → key_cmp x.key k ≡ o → is_lt (ordering_then o (nat_cmp t i)) ≡ false → nat_lt t i ≡ true → IsBelow k x.key
    high Less e h later = absurd (subst T h tt)
    high Equal e h later = absurd (subst T (sym (ap is_lt (ap (λ b. cond b Less (cond (t == i) Equal Greater)) later)) ∙ h) tt)
    high Greater e h later = keys_total.antisymm k x.key ∙ ap ordering_reverse e

-- ---- values

abbrev pub rests : List Source → List Record
rests ss = flat_map (λ s. s.rest) ss

none_of_all : (ss : List Source) (q : Key) → ((i : ℕ) → i < length ss → last_value q (get_or ss i ended).rest ≡ None) → last_value q (rests ss) ≡ None
none_of_all [] q h = refl
none_of_all (s ∷ ss) q h =
    last_value-append q s.rest (rests ss)
    ∙ ap (λ o. or_else o (last_value q s.rest)) (none_of_all ss q (λ i l. h (suc i) (omega arith)))
    ∙ h 0 (omega arith)

value_of_one : (ss : List Source) (t : ℕ) (k : Key) (v : Value) → t < length ss → last_value k (get_or ss t ended).rest ≡ Some v → ((i : ℕ) → t < i → i < length ss → last_value k (get_or ss i ended).rest ≡ None) → last_value k (rests ss) ≡ Some v
value_of_one [] t k v l e h = absurd (omega arith)
value_of_one (s ∷ ss) zero k v l e h =
    last_value-append k s.rest (rests ss)
    ∙ ap (λ o. or_else o (last_value k s.rest)) (none_of_all ss k (λ i m. h (suc i) (omega arith) (omega arith)))
    ∙ e
value_of_one (s ∷ ss) (suc t) k v l e h =
    last_value-append k s.rest (rests ss)
    ∙ ap (λ o. or_else o (last_value k s.rest)) (value_of_one ss t k v (omega arith) e (λ i m n. h (suc i) (omega arith) (omega arith)))

-- ---- the first entry

find_below_all : (q k : Key) (es : List (Key × Value)) → key_cmp q k ≡ Less → T (below_all key_cmp k es) → find key_cmp q es ≡ None
find_below_all q k [] l h = refl
find_below_all q k (e ∷ es) l h =
    ap (λ o. cond (is_eq o) (Some e.1) (find key_cmp q es)) (keys_total.trans q k e.0 l (less _ (first _ _ h))) ∙ find_below_all q k es l (second _ _ h)

pub first_entry : (m : Delta) (k : Key) (v : Value) → get m k ≡ Some v → ((q : Key) → IsBelow q k → get m q ≡ None) → (es : List (Key × Value)) × (m.entries ≡ (k, v) ∷ es)
first_entry m k v e low = by m.entries m.sorted e low
  where
    by : (es : List (Key × Value)) → T (is_sorted key_cmp es) → find key_cmp k es ≡ Some v → ((q : Key) → IsBelow q k → find key_cmp q es ≡ None) → (fs : List (Key × Value)) × (es ≡ (k, v) ∷ fs)
    by [] s e low = absurd cc
    by (f ∷ es) s e low = at (key_cmp k f.0) refl
      where
        at : (o : Ordering) → key_cmp k f.0 ≡ o → (fs : List (Key × Value)) × (f ∷ es ≡ (k, v) ∷ fs)
        at Less p = absurd (none-some v (sym (find_below_all k f.0 es p (first _ _ s)) ∙ sym (ap (λ o. cond (is_eq o) (Some f.1) (find key_cmp k es)) p) ∙ e))
        at Equal p =
            let same : k ≡ f.0 = keys_exact k f.0 p in
            let value : Some f.1 ≡ Some v = sym (ap (λ o. cond (is_eq o) (Some f.1) (find key_cmp k es)) p) ∙ e in
            (es, λ i. (sym same i, same_Some f.1 v value i) ∷ es)
        at Greater p =
            let below : IsBelow f.0 k = keys_total.antisymm f.0 k ∙ ap ordering_reverse p in
            absurd (none-some f.1 (sym (low f.0 below) ∙ ap (λ b. cond b (Some f.1) (find key_cmp f.0 es)) (same_key f.0)))

-- ---- the head

abbrev pub AllRise : List Source → Type 0
AllRise ss = (i : ℕ) → KeysRise (get_or ss i ended).rest

-- a key below the first one of a list is not among its keys
none_low : (rs : List Record) (unread : ℕ) (k q : Key) (later : Bool) → Stands k later rs unread → KeysRise rs → IsBelow q k → last_value q rs ≡ None
none_low [] unread k q later st rise l = refl
none_low (x ∷ xs) unread k q later st rise l =
    let below : IsBelow q x.key = below_le q k x.key l (turned x.key k st.0) in
    ap (λ o. or_else o (cond (eq_by_cmp key_cmp q x.key) (Some x.value) None)) (absent_above q x.key xs (ap is_le below) (first _ _ rise))
    ∙ ap (λ o. cond (is_eq o) (Some x.value) None) below

-- a later source doesn't have the key
none_later : (rs : List Record) (unread : ℕ) (k : Key) → Stands k true rs unread → KeysRise rs → last_value k rs ≡ None
none_later [] unread k st rise = refl
none_later (x ∷ xs) unread k st rise =
    let below : IsBelow k x.key = st.1 refl in
    ap (λ o. or_else o (cond (eq_by_cmp key_cmp k x.key) (Some x.value) None)) (absent_above k x.key xs (ap is_le below) (first _ _ rise))
    ∙ ap (λ o. cond (is_eq o) (Some x.value) None) below

-- the first record of a list has its key's value
value_first : (r : Record) (rs : List Record) → KeysRise (r ∷ rs) → last_value r.key (r ∷ rs) ≡ Some r.value
value_first r rs rise =
    ap (λ o. or_else o (cond (eq_by_cmp key_cmp r.key r.key) (Some r.value) None)) (absent_above r.key r.key rs (le_self r.key) (first _ _ rise))
    ∙ ap (λ b. cond b (Some r.value) None) (same_key r.key)

loaded_to_first : (rs : List Record) (unread : ℕ) (k : Key) (later : Bool) → Stands k later rs unread → (unread == 0 || list_any (λ r. is_le (key_cmp k r.key)) rs) ≡ true
loaded_to_first [] unread k later st = ap (λ u. u == 0 || false) st
loaded_to_first (x ∷ xs) unread k later st = or_left (unread == 0) _ (ap (λ b. b || list_any (λ r. is_le (key_cmp k r.key)) xs) (turned x.key k st.0))

settled_first : (ss : List Source) (k : Key) → ((i : ℕ) → i < length ss → is_loaded_to k (get_or ss i ended) ≡ true) → is_settled ss k ≡ true
settled_first [] k h = refl
settled_first (s ∷ ss) k h = and_true (is_loaded_to k s) (is_settled ss k) (h 0 (omega arith)) (settled_first ss k (λ i l. h (suc i) (omega arith)))

module _ (ss : List Source) (t : ℕ) (least : IsFirst ss t) (rises : AllRise ss) (r : Record) (rs : List Record) (at : (get_or ss t ended).rest ≡ r ∷ rs) where
  pub each_stands : (i : ℕ) → i < length ss → Stands r.key (nat_lt t i) (get_or ss i ended).rest (get_or ss i ended).unread
  each_stands i l =
      let s = get_or ss i ended in
      let rank_t : rank_at ss t ≡ record { class = 1; key = r.key; index = t } = ap (λ l. rank_by l (get_or ss t ended).unread t) at in
      stands s.rest s.unread i t r.key (subst (λ x. is_lt (rank_cmp (rank_at ss i) x) ≡ false) rank_t (least.least i l))

  pub value_at : get (delta (rests ss)) r.key ≡ Some r.value
  value_at =
      get-delta (rests ss) r.key
      ∙ value_of_one ss t r.key r.value least.within (ap (last_value r.key) at ∙ value_first r rs (subst KeysRise at (rises t)))
      (λ i m l. none_later (get_or ss i ended).rest (get_or ss i ended).unread r.key (subst (λ b. Stands r.key b (get_or ss i ended).rest (get_or ss i ended).unread) (lt-ltb t i m) (each_stands i l)) (rises i))

  pub none_before : (q : Key) → IsBelow q r.key → get (delta (rests ss)) q ≡ None
  none_before q l =
      get-delta (rests ss) q
      ∙ none_of_all ss q (λ i m. none_low (get_or ss i ended).rest (get_or ss i ended).unread r.key q (nat_lt t i) (each_stands i m) (rises i) l)

  pub settled_at : is_settled ss r.key ≡ true
  settled_at = settled_first ss r.key (λ i l. loaded_to_first (get_or ss i ended).rest (get_or ss i ended).unread r.key (nat_lt t i) (each_stands i l))

  pub first_kept : (es : List (Key × Value)) × ((kept (is_settled ss) (delta (rests ss))).entries ≡ (r.key, r.value) ∷ es)
  first_kept =
      let p = is_settled ss in
      let d = delta (rests ss) in
      first_entry (kept p d) r.key r.value
      (get-kept p d r.key ∙ ap (λ b. cond b (get d r.key) None) settled_at ∙ value_at)
      (λ q l. get-kept p d q ∙ ap (λ o. cond (p q) o None) (none_before q l) ∙ same_both (p q))

  pub head_item : (others : List Record) × (merged_rest ss ≡ r ∷ others)
  head_item =
      let f = first_kept in
      (listed f.0, ap listed f.1)

-- ---- no head

none_kept : (es : List (Key × Value)) (p : Key → Bool) → ((q : Key) → p q ≡ false) → where_key key_cmp p es ≡ []
none_kept [] p h = refl
none_kept (e ∷ es) p h = ap (λ b. cond b (e ∷ where_key key_cmp p es) (where_key key_cmp p es)) (h e.0) ∙ none_kept es p h

not_settled : (ss : List Source) (t : ℕ) → t < length ss → (get_or ss t ended).rest ≡ [] → ((get_or ss t ended).unread == 0) ≡ false → (q : Key) → is_settled ss q ≡ false
not_settled [] t l e u q = absurd (omega arith)
not_settled (s ∷ ss) zero l e u q = ap (λ b. (b || list_any (λ r. is_le (key_cmp q r.key)) s.rest) && is_settled ss q) u ∙ ap (λ rs. list_any (λ r. is_le (key_cmp q r.key)) rs && is_settled ss q) e
not_settled (s ∷ ss) (suc t) l e u q = and_false (is_loaded_to q s) (is_settled ss q) (not_settled ss t (omega arith) e u q)

some_unread : (ss : List Source) (t : ℕ) → t < length ss → (get_or ss t ended).unread ≤ all_unread ss
some_unread [] t l = absurd (omega arith)
some_unread (s ∷ ss) zero l = omega arith
some_unread (s ∷ ss) (suc t) l = omega (arith, some_unread ss t (omega arith))

pub head_hungry : (ss : List Source) (t : ℕ) → t < length ss → (get_or ss t ended).rest ≡ [] → 0 < (get_or ss t ended).unread → (merged_rest ss ≡ []) × (0 < all_unread ss)
head_hungry ss t l e u = (
  ap listed (none_kept (delta (rests ss)).entries (is_settled ss) (not_settled ss t l e (nonzero (get_or ss t ended).unread u))),
  omega (arith, some_unread ss t l),
)

all_ended : (ss : List Source) → ((i : ℕ) → i < length ss → ((get_or ss i ended).rest ≡ []) × ((get_or ss i ended).unread ≡ 0)) → (rests ss ≡ []) × (all_unread ss ≡ 0)
all_ended [] h = (refl, refl)
all_ended (s ∷ ss) h =
    let one = h 0 (omega arith) in
    let rest = all_ended ss (λ i l. h (suc i) (omega arith)) in
    (ap (λ l. l ++ rests ss) one.0 ∙ rest.0, omega (arith, one.1, rest.1))

ends : (s : Source) (i t : ℕ) → is_lt (rank_cmp (rank s i) (rank ended t)) ≡ false → (s.rest ≡ []) × (s.unread ≡ 0)
ends s i t h = by s.rest (s.unread == 0) refl refl
  where
    by : (rs : List Record) (b : Bool) → s.rest ≡ rs → (s.unread == 0) ≡ b → (s.rest ≡ []) × (s.unread ≡ 0)
    by [] true e u = (e, eqb-true s.unread 0 u)
    by [] false e u = absurd (subst T (sym (ap (λ l. is_lt (rank_cmp (rank_by l s.unread i) (rank ended t))) e ∙ ap (λ b. is_lt (ordering_then (nat_cmp (cond b 2 0) 2) (ordering_then (key_cmp (rank_by [] s.unread i).key (rank ended t).key) (nat_cmp t i)))) u) ∙ h) tt)
    by (x ∷ xs) b e u = absurd (subst T (sym (ap (λ l. is_lt (rank_cmp (rank_by l s.unread i) (rank ended t))) e) ∙ h) tt)

pub head_end : (ss : List Source) (t : ℕ) → IsFirst ss t → (get_or ss t ended).rest ≡ [] → (get_or ss t ended).unread ≡ 0 → (merged_rest ss ≡ []) × (all_unread ss ≡ 0)
head_end ss t least e u =
    let last : rank_at ss t ≡ rank ended t = (λ i. rank_by (e i) (u i) t) in
    let all = all_ended ss (λ i l. ends (get_or ss i ended) i t (subst (λ x. is_lt (rank_cmp (rank_at ss i) x) ≡ false) last (least.least i l))) in
    (ap (λ rs. records_of (kept (is_settled ss) (delta rs))) all.0, all.1)

-- ---- comparing by heads

abbrev rank_of_head : Head → ℕ → Rank
rank_of_head (Item r) i = record { class = 1; key = key_of r.key; index = i }
rank_of_head Hungry i = record { class = 0; key = no_key; index = i }
rank_of_head End i = record { class = 2; key = no_key; index = i }

rank_of : (rest : List Record) (unread i : ℕ) (h : Head) → IsHead rest unread h → rank_by rest unread i ≡ rank_of_head h i
rank_of rest unread i (Item r) is = ap (λ l. rank_by l unread i) is.1.1
rank_of rest unread i Hungry is = ap (λ l. rank_by l unread i) is.0 ∙ ap (λ b. record { class = cond b 2 0; key = no_key; index = i }) (nonzero unread is.1)
rank_of rest unread i End is = ap (λ l. rank_by l unread i) is.0 ∙ ap (λ u. record { class = cond (u == 0) 2 0; key = no_key; index = i }) is.1

heads_compare : (a b : Head) (i j : ℕ) → ordering_then (head_cmp a b) (nat_cmp j i) ≡ rank_cmp (rank_of_head a i) (rank_of_head b j)
heads_compare (Item a) (Item b) i j = by (key_cmp (key_of a.key) (key_of b.key))
  where
    by : (o : Ordering) → ordering_then o (nat_cmp j i) ≡ ordering_then o (nat_cmp j i)
    by o = refl
heads_compare (Item a) Hungry i j = refl
heads_compare (Item a) End i j = refl
heads_compare Hungry (Item b) i j = refl
heads_compare Hungry Hungry i j = refl
heads_compare Hungry End i j = refl
heads_compare End (Item b) i j = refl
heads_compare End Hungry i j = refl
heads_compare End End i j = refl

pub compare_is : (ss : List Source) (i j : ℕ) (a b : Head) → IsHead (get_or ss i ended).rest (get_or ss i ended).unread a → IsHead (get_or ss j ended).rest (get_or ss j ended).unread b
    → ordering_then (head_cmp a b) (nat_cmp j i) ≡ rank_cmp (rank_at ss i) (rank_at ss j)
compare_is ss i j a b p q =
    heads_compare a b i j ∙ sym (λ k. rank_cmp (rank_of (get_or ss i ended).rest (get_or ss i ended).unread i a p k) (rank_of (get_or ss j ended).rest (get_or ss j ended).unread j b q k))

-- the head of the source that is taken first is the head of the merge
pub head_is : (ss : List Source) (t : ℕ) → IsFirst ss t → AllRise ss → (h : Head) → IsHead (get_or ss t ended).rest (get_or ss t ended).unread h → IsHead (merged_rest ss) (all_unread ss) h
head_is ss t least rises (Item r) is = (is.0, head_item ss t least rises (record_of r) is.1.0 is.1.1)
head_is ss t least rises Hungry is = head_hungry ss t least.within is.0 is.1
head_is ss t least rises End is = head_end ss t least is.0 is.1
