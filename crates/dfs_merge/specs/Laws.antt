-- The laws of a merge, from those of its sources.
use Rattle.std.specs.Prelude.{◌≡◌, ◌↔◌, ℕ, ◌+◌, Bool, true, false, ◌&&◌, ◌||◌, ◌==◌, T, List, [], ◌∷◌, ◌++◌, map, flat_map, Option, Some, None, All, refl}
use Rattle.std.proofs.Common.{sym, ap, subst, ◌∙◌, cond, arith, eqb-true, not}
use Rattle.std.specs.List.{AllByRecursion, list_any}
use Rattle.std.specs.Ordering.{is_lt, is_le, is_eq, eq_by_cmp}
use Rattle.std.specs.FinMap.Entries.{where_key, find-where_key, below_all, is_sorted}
use Rattle.std.specs.declared.cmp.Ordering.{Ordering}
use Rattle.std.specs.declared.cmp.Ordering.TheVariants.{Less, Equal, Greater}
use Rattle.std.proofs.lemmas.Option.{none-some}
use Rattle.std.proofs.lemmas.List.Elements.{All-nil, All-cons, All-head, All-tail, All-weaker, filter_passes}
use Rattle.dfs_record.specs.declared.Key.{Key}
use Rattle.dfs_record.specs.declared.Record.{Record}
use Rattle.dfs_record.specs.declared.Value.{Value}
use Rattle.dfs_record.specs.Key.{key_cmp, keys_total, keys_exact}
use Rattle.dfs_record.specs.KeyMap.{get}
use Rattle.dfs_record.specs.Delta.{Delta, delta, records_of, merged, last_value, or_else}
use Rattle.dfs_record.specs.Records.{Files, KeysRise, IsPrefix, IsAbove, IsBelow}
use Rattle.dfs_record.proofs.Maps.{same_map}
use Rattle.dfs_record.proofs.Replays.{get-delta, last_value-append, rising_records}
use Rattle.dfs_cursor.specs.Ranges.{first, second, less}
use Rattle.dfs_merge.specs.Sources.{Source, is_loaded_to, is_settled, kept, merged_rest, all_unread, lesser, least_bound, source, sources, AllCome, MergedComes}

-- ---- a part of a change set by a test of its keys

pub get-kept : (p : Key → Bool) (d : Delta) (q : Key) → get (kept p d) q ≡ cond (p q) (get d q) None
get-kept p d q = find-where_key key_cmp p q (λ x e. ap p (sym (keys_exact q x e))) d.entries

-- ---- the front of a list in order by a test that holds up to some key

IsDown : (Key → Bool) → Type 0
IsDown p = (a b : Key) → IsBelow a b → p b ≡ true → p a ≡ true

none_behind : (p : Key → Bool) → IsDown p → (k : Key) (es : List (Key × Value)) → p k ≡ false → T (below_all key_cmp k es) → where_key key_cmp p es ≡ []
unfolding IsDown
none_behind p down k [] fails b = refl
none_behind p down k (e ∷ es) fails b = by (p e.0) refl (none_behind p down k es fails (second _ _ b))
  where
    by : (c : Bool) → p e.0 ≡ c → where_key key_cmp p es ≡ [] → cond c (e ∷ where_key key_cmp p es) (where_key key_cmp p es) ≡ []
    by true h rest = absurd (subst (λ c. T (not c)) (sym fails ∙ down k e.0 (less _ (first _ _ b)) h) tt)
    by false h rest = rest

front_of : (p : Key → Bool) → IsDown p → (es : List (Key × Value)) → T (is_sorted key_cmp es) → (more : List (Key × Value)) × (es ≡ where_key key_cmp p es ++ more)
unfolding IsDown
front_of p down [] s = ([], refl)
front_of p down (e ∷ es) s = by (p e.0) refl (front_of p down es (second _ _ s))
  where
    by : (c : Bool) → p e.0 ≡ c → ((more : List (Key × Value)) × (es ≡ where_key key_cmp p es ++ more)) → (more : List (Key × Value)) × (e ∷ es ≡ cond c (e ∷ where_key key_cmp p es) (where_key key_cmp p es) ++ more)
    by true h rest = (rest.0, ap (λ l. e ∷ l) rest.1)
    by false h rest = (e ∷ es, ap (λ l. l ++ e ∷ es) (sym (none_behind p down e.0 es h (first _ _ s))))

abbrev listed : List (Key × Value) → List Record
listed es = map (λ e. record { key = e.0; value = e.1 }) es

all_listed : (es : List (Key × Value)) (P : Key → Type 0) → All (λ (e : Key × Value). P e.0) es → All (λ (r : Record). P r.key) (listed es)
all_listed [] P h = All-nil (λ (r : Record). P r.key)
all_listed (e ∷ es) P h = All-cons (λ (r : Record). P r.key) (record { key = e.0; value = e.1 }) (listed es) (All-head (λ (e : Key × Value). P e.0) e es h) (all_listed es P (All-tail (λ (e : Key × Value). P e.0) e es h))

listed-append : (a b : List (Key × Value)) → listed (a ++ b) ≡ listed a ++ listed b
listed-append [] b = refl
listed-append (e ∷ a) b = ap (λ (l : List Record). record { key = e.0; value = e.1 } ∷ l) (listed-append a b)

kept_begins : (p : Key → Bool) → IsDown p → (d : Delta) → IsPrefix (records_of (kept p d)) (records_of d)
kept_begins p down d =
    let f = front_of p down d.entries d.sorted in
    (listed f.0, ap listed f.1 ∙ listed-append (where_key key_cmp p d.entries) f.0)

-- change sets that have the same at each key that passes
kept_alike : (p : Key → Bool) (d e : Delta) → ((q : Key) → p q ≡ true → get d q ≡ get e q) → kept p d ≡ kept p e
kept_alike p d e h = same_map _ _ (λ q. get-kept p d q ∙ by q (p q) refl ∙ sym (get-kept p e q))
  where
    by : (q : Key) (c : Bool) → p q ≡ c → cond (p q) (get d q) None ≡ cond (p q) (get e q) None
    by q true t = ap (λ c. cond c (get d q) None) t ∙ h q t ∙ sym (ap (λ c. cond c (get e q) None) t)
    by q false t = ap (λ c. cond c (get d q) None) t ∙ sym (ap (λ c. cond c (get e q) None) t)

-- ---- orders

le_down : (a b c : Key) → IsBelow a b → is_le (key_cmp b c) ≡ true → is_le (key_cmp a c) ≡ true
le_down a b c l h = by (key_cmp b c) refl h
  where
    by : (o : Ordering) → key_cmp b c ≡ o → is_le o ≡ true → is_le (key_cmp a c) ≡ true
    by Less e p = ap is_le (keys_total.trans a b c l e)
    by Equal e p = subst (λ k. is_le (key_cmp a k) ≡ true) (keys_exact b c e) (ap is_le l)
    by Greater e p = absurd (subst T (sym p) tt)

pub le_below : (a b c : Key) → is_le (key_cmp a b) ≡ true → IsBelow b c → IsBelow a c
le_below a b c h l = by (key_cmp a b) refl h
  where
    by : (o : Ordering) → key_cmp a b ≡ o → is_le o ≡ true → IsBelow a c
    by Less e p = keys_total.trans a b c e l
    by Equal e p = subst (λ k. IsBelow k c) (sym (keys_exact a b e)) l
    by Greater e p = absurd (subst T (sym p) tt)

or_right : (x y : Bool) → y ≡ true → (x || y) ≡ true
or_right true y h = refl
or_right false y h = h

any_le_down : (a b : Key) → IsBelow a b → (rs : List Record) → list_any (λ r. is_le (key_cmp b r.key)) rs ≡ true → list_any (λ r. is_le (key_cmp a r.key)) rs ≡ true
any_le_down a b l [] h = absurd (subst T (sym h) tt)
any_le_down a b l (r ∷ rs) h = by (is_le (key_cmp b r.key)) refl h (any_le_down a b l rs)
  where
    by : (c : Bool) → is_le (key_cmp b r.key) ≡ c → (c || list_any (λ r. is_le (key_cmp b r.key)) rs) ≡ true → (list_any (λ r. is_le (key_cmp b r.key)) rs ≡ true → list_any (λ r. is_le (key_cmp a r.key)) rs ≡ true)
        → (is_le (key_cmp a r.key) || list_any (λ r. is_le (key_cmp a r.key)) rs) ≡ true
    by true e t rest = ap (λ c. c || list_any (λ r. is_le (key_cmp a r.key)) rs) (le_down a b r.key l e)
    by false e t rest = or_right (is_le (key_cmp a r.key)) (list_any (λ r. is_le (key_cmp a r.key)) rs) (rest t)

loaded_down : (s : Source) (a b : Key) → IsBelow a b → is_loaded_to b s ≡ true → is_loaded_to a s ≡ true
loaded_down s a b l h = by (s.unread == 0) h
  where
    by : (c : Bool) → (c || list_any (λ r. is_le (key_cmp b r.key)) s.rest) ≡ true → (c || list_any (λ r. is_le (key_cmp a r.key)) s.rest) ≡ true
    by true h = refl
    by false h = any_le_down a b l s.rest h

and_parts : (a b : Bool) → (a && b) ≡ true → (a ≡ true) × (b ≡ true)
and_parts true b h = (refl, h)
and_parts false b h = absurd (subst T (sym h) tt)

and_both : (a b : Bool) → a ≡ true → b ≡ true → (a && b) ≡ true
and_both a b p q = ap (λ c. c && b) p ∙ q

settled_down : (ss : List Source) (a b : Key) → IsBelow a b → is_settled ss b ≡ true → is_settled ss a ≡ true
settled_down [] a b l h = refl
settled_down (s ∷ ss) a b l h =
    let p = and_parts (is_loaded_to b s) (is_settled ss b) h in
    and_both (is_loaded_to a s) (is_settled ss a) (loaded_down s a b l p.0) (settled_down ss a b l p.1)

settled_is_down : (ss : List Source) → IsDown (is_settled ss)
unfolding IsDown
settled_is_down ss a b l h = settled_down ss a b l h

-- ---- the laws

pub rest_rises : (ss : List Source) → KeysRise (merged_rest ss)
rest_rises ss = rising_records (kept (is_settled ss) (delta (flat_map (λ s. s.rest) ss)))

sum_zero : (a b : ℕ) → a + b ≡ 0 → (a ≡ 0) × (b ≡ 0)
sum_zero a b h = (omega arith, omega arith)

module _ {S : Type 0} (rest : S → List Record) (unread : S → ℕ) (bound : S → Option Key) (none : (s : S) → (bound s ≡ None) ↔ (unread s ≡ 0)) where
  lesser_none : (a b : Option Key) → lesser a b ≡ None → (a ≡ None) × (b ≡ None)
  lesser_none None b h = (refl, h)
  lesser_none (Some k) None h = absurd cc
  lesser_none (Some k) (Some l) h = absurd (by (is_lt (key_cmp l k)) h)
    where
      by : (c : Bool) → cond c (Some l) (Some k) ≡ None → ⊥
      by true h = absurd cc
      by false h = absurd cc

  pub bound_none : (ss : List S) → (least_bound (sources rest unread bound ss) ≡ None) ↔ (all_unread (sources rest unread bound ss) ≡ 0)
  bound_none [] = (λ _. refl, λ _. refl)
  bound_none (s ∷ ss) =
      let ih = bound_none ss in (
        λ h. let p = lesser_none (bound s) (least_bound (sources rest unread bound ss)) h in omega (arith, (none s).0 p.0, ih.0 p.1),
        λ h.
            let p = sum_zero (unread s) (all_unread (sources rest unread bound ss)) h in
            ap (λ b. lesser b (least_bound (sources rest unread bound ss))) ((none s).1 p.0) ∙ ih.1 p.1,
      )

  module _ (above : (s : S) → IsAbove (bound s) (rest s)) where
    any_below : (q key : Key) (rs : List Record) → All (λ r. IsBelow r.key key) rs → list_any (λ r. is_le (key_cmp q r.key)) rs ≡ true → IsBelow q key
    any_below q key [] all h = absurd (subst T (sym h) tt)
    any_below q key (r ∷ rs) all h = by (is_le (key_cmp q r.key)) refl h (any_below q key rs (All-tail (λ r. IsBelow r.key key) r rs all))
      where
        by : (c : Bool) → is_le (key_cmp q r.key) ≡ c → (c || list_any (λ r. is_le (key_cmp q r.key)) rs) ≡ true → (list_any (λ r. is_le (key_cmp q r.key)) rs ≡ true → IsBelow q key) → IsBelow q key
        by true e t rest = le_below q r.key key e (All-head (λ r. IsBelow r.key key) r rs all)
        by false e t rest = rest t

    -- a key up to which a source is loaded is below its bound
    one_below : (s : S) (q key : Key) → bound s ≡ Some key → is_loaded_to q (source rest unread bound s) ≡ true → IsBelow q key
    one_below s q key e h = by (unread s == 0) refl h
      where
        by : (c : Bool) → (unread s == 0) ≡ c → (c || list_any (λ r. is_le (key_cmp q r.key)) (rest s)) ≡ true → IsBelow q key
        by true z t = let no = (none s).1 (eqb-true (unread s) 0 z) in absurd (none-some key (sym no ∙ e))
        by false z t = any_below q key (rest s) (subst (λ b. IsAbove b (rest s)) e (above s)) t

    below_least : (ss : List S) (q key : Key) → least_bound (sources rest unread bound ss) ≡ Some key → is_settled (sources rest unread bound ss) q ≡ true → IsBelow q key
    below_least [] q key e h = absurd cc
    below_least (s ∷ ss) q key e h =
        let p = and_parts (is_loaded_to q (source rest unread bound s)) (is_settled (sources rest unread bound ss) q) h in
        by (bound s) (least_bound (sources rest unread bound ss)) refl refl e p.0 p.1 (λ k f. below_least ss q k f p.1)
      where
        by : (a b : Option Key) → bound s ≡ a → least_bound (sources rest unread bound ss) ≡ b → lesser a b ≡ Some key → is_loaded_to q (source rest unread bound s) ≡ true → is_settled (sources rest unread bound ss) q ≡ true
            → ((k : Key) → least_bound (sources rest unread bound ss) ≡ Some k → IsBelow q k) → IsBelow q key
        by None b f g e here behind ih = ih key (g ∙ e)
        by (Some k) None f g e here behind ih = one_below s q key (f ∙ e) here
        by (Some k) (Some l) f g e here behind ih = last (is_lt (key_cmp l k)) e
          where
            last : (c : Bool) → cond c (Some l) (Some k) ≡ Some key → IsBelow q key
            last true e = ih key (g ∙ e)
            last false e = one_below s q key (f ∙ e) here

    pub bound_above : (ss : List S) → IsAbove (least_bound (sources rest unread bound ss)) (merged_rest (sources rest unread bound ss))
    bound_above ss = by (least_bound (sources rest unread bound ss)) refl
      where
        by : (b : Option Key) → least_bound (sources rest unread bound ss) ≡ b → IsAbove b (merged_rest (sources rest unread bound ss))
        by None e = tt
        by (Some key) e =
            let d = delta (flat_map (λ s. s.rest) (sources rest unread bound ss)) in
            let p = is_settled (sources rest unread bound ss) in
            all_listed (where_key key_cmp p d.entries) (λ q. IsBelow q key)
            (All-weaker (λ (x : Key × Value). p x.0 ≡ true) (λ (x : Key × Value). IsBelow x.0 key) (λ x t. below_least ss x.0 key e t) (where_key key_cmp p d.entries) (filter_passes (λ (x : Key × Value). p x.0) d.entries))

-- ---- the records still to come

above_more : (k : Key) (a b : List Record) → T (below_all key_cmp k (map (λ (r : Record). (r.key, r.value)) (a ++ b))) → T (below_all key_cmp k (map (λ (r : Record). (r.key, r.value)) b))
above_more k [] b h = h
above_more k (r ∷ rs) b h = above_more k rs b (second _ _ h)

-- a key up to which another one of theirs stands is none of those above that one
pub absent_above : (q k : Key) (rs : List Record) → is_le (key_cmp q k) ≡ true → T (below_all key_cmp k (map (λ (r : Record). (r.key, r.value)) rs)) → last_value q rs ≡ None
absent_above q k [] h b = refl
absent_above q k (r ∷ rs) h b =
    ap (λ o. or_else o (cond (eq_by_cmp key_cmp q r.key) (Some r.value) None)) (absent_above q k rs h (second _ _ b))
    ∙ ap (λ o. cond (is_eq o) (Some r.value) None) (le_below q k r.key h (less _ (first _ _ b)))

-- where a key is not above what is loaded, what is behind that doesn't change it
loaded_value : (q : Key) (rest more : List Record) → KeysRise (rest ++ more) → list_any (λ r. is_le (key_cmp q r.key)) rest ≡ true → last_value q more ≡ None
loaded_value q [] more rise h = absurd (subst T (sym h) tt)
loaded_value q (r ∷ rs) more rise h = by (is_le (key_cmp q r.key)) refl h (loaded_value q rs more (second _ _ rise))
  where
    by : (c : Bool) → is_le (key_cmp q r.key) ≡ c → (c || list_any (λ r. is_le (key_cmp q r.key)) rs) ≡ true → (list_any (λ r. is_le (key_cmp q r.key)) rs ≡ true → last_value q more ≡ None) → last_value q more ≡ None
    by true e t rest = absent_above q r.key more e (above_more r.key rs more (first _ _ rise))
    by false e t rest = rest t

-- the lists are those that are still to come, one for each source, over some files
pub record AreLists {S : Type 0} (rest : S → List Record) (unread : S → ℕ) (s : S) (l : List Record) : Type 0 where
  pub rises : KeysRise l
  pub begins : IsPrefix (rest s) l
  pub loaded : unread s ≡ 0 → l ≡ rest s

module _ {S : Type 0} (rest : S → List Record) (unread : S → ℕ) (bound : S → Option Key) (Comes : S → Files → List Record → Type 0) (files : Files)
    (laws : (s : S) (l : List Record) → Comes s files l → AreLists rest unread s l) where
  one_value : (s : S) (l : List Record) (q : Key) → Comes s files l → is_loaded_to q (source rest unread bound s) ≡ true → last_value q (rest s) ≡ last_value q l
  one_value s l q h t = by (unread s == 0) refl t
    where
      by : (c : Bool) → (unread s == 0) ≡ c → (c || list_any (λ r. is_le (key_cmp q r.key)) (rest s)) ≡ true → last_value q (rest s) ≡ last_value q l
      by true z t = ap (last_value q) (sym ((laws s l h).loaded (eqb-true (unread s) 0 z)))
      by false z t =
          let a = laws s l h in
          let more = a.begins.0 in
          sym (ap (last_value q) a.begins.1 ∙ last_value-append q (rest s) more ∙ ap (λ o. or_else o (last_value q (rest s))) (loaded_value q (rest s) more (subst KeysRise a.begins.1 a.rises) t))

  all_value : (ss : List S) (ls : List (List Record)) (q : Key) → AllCome Comes files ss ls → is_settled (sources rest unread bound ss) q ≡ true
      → last_value q (flat_map (λ s. s.rest) (sources rest unread bound ss)) ≡ last_value q (flat_map (λ rs. rs) ls)
  all_value [] [] q h t = refl
  all_value [] (l ∷ ls) q h t = absurd h
  all_value (s ∷ ss) [] q h t = absurd h
  all_value (s ∷ ss) (l ∷ ls) q h t =
      let p = and_parts (is_loaded_to q (source rest unread bound s)) (is_settled (sources rest unread bound ss) q) t in
      last_value-append q (rest s) (flat_map (λ s. s.rest) (sources rest unread bound ss))
      ∙ (λ i. or_else (all_value ss ls q h.1 p.1 i) (one_value s l q h.0 p.0 i))
      ∙ sym (last_value-append q l (flat_map (λ rs. rs) ls))

  pub comes_rises : (ss : List S) (l : List Record) → MergedComes Comes ss files l → KeysRise l
  comes_rises ss l h = subst KeysRise (sym h.2) (rising_records (delta (flat_map (λ rs. rs) h.0)))

  pub comes_begins : (ss : List S) (l : List Record) → MergedComes Comes ss files l → IsPrefix (merged_rest (sources rest unread bound ss)) l
  comes_begins ss l h =
      let p = is_settled (sources rest unread bound ss) in
      let d = delta (flat_map (λ s. s.rest) (sources rest unread bound ss)) in
      let e = delta (flat_map (λ rs. rs) h.0) in
      let same : kept p d ≡ kept p e = kept_alike p d e (λ q t. get-delta (flat_map (λ s. s.rest) (sources rest unread bound ss)) q ∙ all_value ss h.0 q h.1 t ∙ sym (get-delta (flat_map (λ rs. rs) h.0) q)) in
      let front = kept_begins p (settled_is_down (sources rest unread bound ss)) e in
      (front.0, h.2 ∙ front.1 ∙ ap (λ m. records_of m ++ front.0) (sym same))

  all_loaded : (ss : List S) (ls : List (List Record)) → AllCome Comes files ss ls → all_unread (sources rest unread bound ss) ≡ 0 → flat_map (λ rs. rs) ls ≡ flat_map (λ s. s.rest) (sources rest unread bound ss)
  all_loaded [] [] h z = refl
  all_loaded [] (l ∷ ls) h z = absurd h
  all_loaded (s ∷ ss) [] h z = absurd h
  all_loaded (s ∷ ss) (l ∷ ls) h z =
      let p = sum_zero (unread s) (all_unread (sources rest unread bound ss)) z in
      λ i. (laws s l h.0).loaded p.0 i ++ all_loaded ss ls h.1 p.1 i

  all_settled : (ss : List S) (q : Key) → all_unread (sources rest unread bound ss) ≡ 0 → is_settled (sources rest unread bound ss) q ≡ true
  all_settled [] q z = refl
  all_settled (s ∷ ss) q z =
      let p = sum_zero (unread s) (all_unread (sources rest unread bound ss)) z in
      and_both (is_loaded_to q (source rest unread bound s)) (is_settled (sources rest unread bound ss) q) (ap (λ u. (u == 0) || list_any (λ r. is_le (key_cmp q r.key)) (rest s)) p.0) (all_settled ss q p.1)

  pub comes_loaded : (ss : List S) (l : List Record) → MergedComes Comes ss files l → all_unread (sources rest unread bound ss) ≡ 0 → l ≡ merged_rest (sources rest unread bound ss)
  comes_loaded ss l h z =
      let p = is_settled (sources rest unread bound ss) in
      let d = delta (flat_map (λ s. s.rest) (sources rest unread bound ss)) in
      let same : kept p d ≡ d = same_map _ _ (λ q. get-kept p d q ∙ ap (λ c. cond c (get d q) None) (all_settled ss q z)) in
      h.2 ∙ ap (λ rs. records_of (delta rs)) (all_loaded ss h.0 h.1 z) ∙ ap records_of (sym same)

-- ---- at most one list comes

all_one : {S : Type 0} (Comes : S → Files → List Record → Type 0) (files : Files) → ((s : S) (l m : List Record) → Comes s files l → Comes s files m → l ≡ m)
    → (ss : List S) (ls ms : List (List Record)) → AllCome Comes files ss ls → AllCome Comes files ss ms → ls ≡ ms
all_one Comes files one [] [] [] h k = refl
all_one Comes files one [] [] (m ∷ ms) h k = absurd k
all_one Comes files one [] (l ∷ ls) ms h k = absurd h
all_one Comes files one (s ∷ ss) [] ms h k = absurd h
all_one Comes files one (s ∷ ss) (l ∷ ls) [] h k = absurd k
all_one Comes files one (s ∷ ss) (l ∷ ls) (m ∷ ms) h k = λ i. one s l m h.0 k.0 i ∷ all_one Comes files one ss ls ms h.1 k.1 i

pub comes_one : {S : Type 0} (Comes : S → Files → List Record → Type 0) (files : Files) → ((s : S) (l m : List Record) → Comes s files l → Comes s files m → l ≡ m)
    → (ss : List S) (l m : List Record) → MergedComes Comes ss files l → MergedComes Comes ss files m → l ≡ m
comes_one Comes files one ss l m h k = h.2 ∙ ap merged (all_one Comes files one ss h.0 k.0 h.1 k.1) ∙ sym k.2

-- ---- where nothing is left to load

pub none_unread : {S : Type 0} (rest : S → List Record) (unread : S → ℕ) (bound : S → Option Key) (ss : List S) → AllByRecursion (λ s. unread s ≡ 0) ss → all_unread (sources rest unread bound ss) ≡ 0
none_unread rest unread bound [] none = refl
none_unread rest unread bound (s ∷ ss) none = omega (arith, none.0, none_unread rest unread bound ss none.1)

flat_rests : {S : Type 0} (rest : S → List Record) (unread : S → ℕ) (bound : S → Option Key) (ss : List S) → flat_map (λ s. s.rest) (sources rest unread bound ss) ≡ flat_map (λ rs. rs) (map rest ss)
flat_rests rest unread bound [] = refl
flat_rests rest unread bound (s ∷ ss) = ap (λ l. rest s ++ l) (flat_rests rest unread bound ss)

every_settled : (ss : List Source) (q : Key) → all_unread ss ≡ 0 → is_settled ss q ≡ true
every_settled [] q z = refl
every_settled (s ∷ ss) q z =
    let p = sum_zero s.unread (all_unread ss) z in
    and_both (is_loaded_to q s) (is_settled ss q) (ap (λ u. (u == 0) || list_any (λ r. is_le (key_cmp q r.key)) s.rest) p.0) (every_settled ss q p.1)

pub rest_whole : {S : Type 0} (rest : S → List Record) (unread : S → ℕ) (bound : S → Option Key) (ss : List S) → all_unread (sources rest unread bound ss) ≡ 0 → merged_rest (sources rest unread bound ss) ≡ merged (map rest ss)
rest_whole rest unread bound ss z =
    let p = is_settled (sources rest unread bound ss) in
    let d = delta (flat_map (λ s. s.rest) (sources rest unread bound ss)) in
    let same : kept p d ≡ d = same_map _ _ (λ q. get-kept p d q ∙ ap (λ c. cond c (get d q) None) (every_settled (sources rest unread bound ss) q z)) in
    ap records_of same ∙ ap (λ rs. records_of (delta rs)) (flat_rests rest unread bound ss)
