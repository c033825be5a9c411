-- Sources after a key was taken off them.
use Rattle.std.proofs.Common.{◌≡◌, ℕ, zero, suc, ◌+◌, ◌<◌, ◌≤◌, ◌⊎◌, inl, inr, Bool, true, false, cond, not, T, ◌&&◌, ◌==◌, List, [], ◌∷◌, ◌++◌, length, map, get_or, set, drop, refl, sym, ap, subst, ◌∙◌, arith, eqb-true, nat_lt, ltb-true, ltb-false}
use Rattle.std.proofs.lemmas.Bool.{eqb-false}
use Rattle.std.proofs.lemmas.List.{get_or-set_same, get_or-set_other, length-set}
use Rattle.std.specs.Prelude.{Option}
use Rattle.std.specs.Ordering.{is_lt, is_eq, eq_by_cmp, ordering_reverse}
use Rattle.std.specs.FinMap.Entries.{below_all}
use Rattle.std.specs.declared.cmp.Ordering.{Ordering}
use Rattle.std.specs.declared.cmp.Ordering.TheVariants.{Less, Equal, Greater}
use Rattle.dfs_record.specs.declared.Key.{Key}
use Rattle.dfs_record.specs.declared.Record.{Record}
use Rattle.dfs_record.specs.Key.{key_cmp, keys_total}
use Rattle.dfs_record.specs.Delta.{merged}
use Rattle.dfs_record.specs.Records.{Files, KeysRise, IsBelow}
use Rattle.dfs_record.proofs.Maps.{alike_keys, same_key}
use Rattle.dfs_merge.specs.Sources.{Source, ended, source, sources, AllCome, without, taken, IsTaken, ArePassed, IsAdvanced}
use Rattle.dfs_merge.specs.Rank.{have_one_key, IsStep, OthersPassed}
use Rattle.dfs_merge.specs.Laws.{AreLists}
use Rattle.dfs_cursor.specs.Ranges.{first, second, less}
use Rattle.dfs_merge.specs.Sources.{merged_rest, all_unread, least_bound, IsMergePassed}
use Rattle.dfs_merge.specs.Rank.{IsFirst}
use Rattle.dfs_merge.specs.Laws.{comes_begins}
use Rattle.dfs_merge.proofs.Firsts.{Stands, each_stands, head_hungry, head_end, first_kept, none_before, head_item}
use Rattle.dfs_merge.proofs.Taking.{rest_taken, merged_taken, unread_taken, bound_taken}

-- ---- a list without a key

abbrev pairs_above : Key → List Record → Type 0
pairs_above k rs = T (below_all key_cmp k (map (λ r. (r.key, r.value)) rs))

without_above : (k : Key) (rs : List Record) → pairs_above k rs → without k rs ≡ rs
without_above k [] h = refl
without_above k (r ∷ rs) h =
    ap (λ o. cond (not (is_eq o)) (r ∷ without k rs) (without k rs)) (less _ (first _ _ h)) ∙ ap (λ l. r ∷ l) (without_above k rs (second _ _ h))

above_trans : (k x : Key) (rs : List Record) → IsBelow k x → pairs_above x rs → pairs_above k rs
above_trans k x [] l h = tt
above_trans k x (r ∷ rs) l h = both _ _ (subst (λ o. T (is_lt o)) (sym (keys_total.trans k x r.key l (less _ (first _ _ h)))) tt) (above_trans k x rs l (second _ _ h))
  where
    both : (a b : Bool) → T a → T b → T (a && b)
    both true b p q = q
    both false b p q = p

without_own : (r : Record) (rs : List Record) → KeysRise (r ∷ rs) → without r.key (r ∷ rs) ≡ rs
without_own r rs rise = ap (λ b. cond (not b) (r ∷ without r.key rs) (without r.key rs)) (same_key r.key) ∙ without_above r.key rs (first _ _ rise)

without_higher : (k : Key) (x : Record) (xs : List Record) → KeysRise (x ∷ xs) → IsBelow k x.key → without k (x ∷ xs) ≡ x ∷ xs
without_higher k x xs rise l =
    ap (λ o. cond (not (is_eq o)) (x ∷ without k xs) (without k xs)) l ∙ ap (λ r. x ∷ r) (without_above k xs (above_trans k x.key xs l (first _ _ rise)))

head_same : (r x : Record) (rs xs : List Record) → r ∷ rs ≡ x ∷ xs → r ≡ x
head_same r x rs xs e = cc

pub true_not_false : true ≡ false → ⊥
true_not_false e = subst T e tt

-- a list without a key doesn't begin with it
not_first : (k : Key) (rs : List Record) (x : Record) (xs : List Record) → without k rs ≡ x ∷ xs → eq_by_cmp key_cmp k x.key ≡ false
not_first k [] x xs e = absurd cc
not_first k (r ∷ rs) x xs e = by (eq_by_cmp key_cmp k r.key) refl e (not_first k rs x xs)
  where
    by : (b : Bool) → eq_by_cmp key_cmp k r.key ≡ b → cond (not b) (r ∷ without k rs) (without k rs) ≡ x ∷ xs → (without k rs ≡ x ∷ xs → eq_by_cmp key_cmp k x.key ≡ false) → eq_by_cmp key_cmp k x.key ≡ false
    by true f e ih = ih e
    by false f e ih = ap (λ y. eq_by_cmp key_cmp k y.key) (sym (head_same r x (without k rs) xs e)) ∙ f

pub source_len : {S : Type 0} (rest : S → List Record) (unread : S → ℕ) (bound : S → Option Key) (ss : List S) (i : ℕ) → i < length ss → i < length (sources rest unread bound ss)
source_len rest unread bound [] i l = absurd (omega arith)
source_len rest unread bound (s ∷ ss) zero l = omega arith
source_len rest unread bound (s ∷ ss) (suc i) l = omega (arith, source_len rest unread bound ss i (omega arith))

pub len_source : {S : Type 0} (rest : S → List Record) (unread : S → ℕ) (bound : S → Option Key) (ss : List S) (i : ℕ) → i < length (sources rest unread bound ss) → i < length ss
len_source rest unread bound [] i l = absurd (omega arith)
len_source rest unread bound (s ∷ ss) zero l = omega arith
len_source rest unread bound (s ∷ ss) (suc i) l = omega (arith, len_source rest unread bound ss i (omega arith))

weaker : (k : Key) (later : Bool) (rs : List Record) (unread : ℕ) → Stands k later rs unread → Stands k false rs unread
weaker k later [] unread h = h
weaker k later (x ∷ xs) unread h = (h.0, λ e. absurd (true_not_false (sym e)))

positive : (n : ℕ) → (n == 0) ≡ false → 0 < n
positive zero e = absurd (true_not_false e)
positive (suc n) e = omega arith

-- ---- one source

module _ {S : Type 0} (rest : S → List Record) (unread : S → ℕ) (bound : S → Option Key) (Comes : S → Files → List Record → Type 0)
    (rises : (s : S) → KeysRise (rest s)) (lists : (s : S) (files : Files) (l : List Record) → Comes s files l → AreLists rest unread s l) where
  abbrev Taken : Key → S → S → Type 0
  Taken = IsTaken rest unread bound Comes

  pub taken_by_advance : (s t : S) (r : Record) (rs : List Record) → rest s ≡ r ∷ rs → rest t ≡ drop 1 (rest s) → unread t ≡ unread s → bound t ≡ bound s → ((files : Files) (l : List Record) → Comes s files l → Comes t files (drop 1 l)) → Taken r.key s t
  taken_by_advance s t r rs at e u b c = record {
    same_rest = e ∙ ap (drop 1) at ∙ sym (ap (without r.key) at ∙ without_own r rs (subst KeysRise at (rises s)));
    same_unread = u;
    same_bound = b;
    comes = λ files l h.
        let a = lists s files l h in
        let whole : l ≡ r ∷ (rs ++ a.begins.0) = a.begins.1 ∙ ap (λ x. x ++ a.begins.0) at in
        let gone : drop 1 l ≡ without r.key l = ap (drop 1) whole ∙ sym (ap (without r.key) whole ∙ without_own r (rs ++ a.begins.0) (subst KeysRise whole a.rises)) in
        subst (Comes t files) gone (c files l h);
  }

  -- a source whose first key is another one doesn't have the key
  pub taken_absent : (s : S) (r : Record) (rs : List Record) → Stands r.key false (rest s) (unread s) → have_one_key (rest s) (r ∷ rs) ≡ false → Taken r.key s s
  taken_absent s r rs st one = by (rest s) refl
    where
      above : (x : Record) → (is_lt (key_cmp x.key r.key) ≡ false) → is_eq (key_cmp x.key r.key) ≡ false → IsBelow r.key x.key
      above x low other = keys_total.antisymm r.key x.key ∙ ap ordering_reverse (greater (key_cmp x.key r.key) low other)
        where
          greater : (o : Ordering) → is_lt o ≡ false → is_eq o ≡ false → o ≡ Greater
          greater Less p q = absurd (subst T p tt)
          greater Equal p q = absurd (subst T q tt)
          greater Greater p q = refl

      by : (l : List Record) → rest s ≡ l → Taken r.key s s
      by [] e =
          let none : unread s ≡ 0 = subst (λ l. Stands r.key false l (unread s)) e st in
          record {
            same_rest = e ∙ sym (ap (without r.key) e);
            same_unread = refl;
            same_bound = refl;
            comes = λ files l h. let is : l ≡ [] = (lists s files l h).loaded none ∙ e in subst (Comes s files) (is ∙ sym (ap (without r.key) is)) h;
          }
      by (x ∷ xs) e =
          let st' = subst (λ l. Stands r.key false l (unread s)) e st in
          let low : IsBelow r.key x.key = above x st'.0 (sym (ap (λ l. have_one_key l (r ∷ rs)) e) ∙ one) in
          record {
            same_rest = e ∙ sym (ap (without r.key) e ∙ without_higher r.key x xs (subst KeysRise e (rises s)) low);
            same_unread = refl;
            same_bound = refl;
            comes = λ files l h.
                let a = lists s files l h in
                let whole : l ≡ x ∷ (xs ++ a.begins.0) = a.begins.1 ∙ ap (λ y. y ++ a.begins.0) e in
                subst (Comes s files) (whole ∙ sym (ap (without r.key) whole ∙ without_higher r.key x (xs ++ a.begins.0) (subst KeysRise whole a.rises) low)) h;
          }

  -- ---- all sources

  pub at_source : (ss : List S) (i : ℕ) (d : S) → i < length ss → get_or (sources rest unread bound ss) i ended ≡ source rest unread bound (get_or ss i d)
  at_source [] i d l = absurd (omega arith)
  at_source (s ∷ ss) zero d l = refl
  at_source (s ∷ ss) (suc i) d l = at_source ss i d (omega arith)

  pub all_rise : (ss : List S) (i : ℕ) → KeysRise (get_or (sources rest unread bound ss) i ended).rest
  all_rise [] i = tt
  all_rise (s ∷ ss) zero = rises s
  all_rise (s ∷ ss) (suc i) = all_rise ss i

  pub all_taken : (olds news : List S) (k : Key) → length news ≡ length olds → ((i : ℕ) (d : S) → i < length olds → Taken k (get_or olds i d) (get_or news i d)) → sources rest unread bound news ≡ map (taken k) (sources rest unread bound olds)
  all_taken [] [] k e h = refl
  all_taken [] (t ∷ ts) k e h = absurd (omega arith)
  all_taken (s ∷ ss) [] k e h = absurd (omega arith)
  all_taken (s ∷ ss) (t ∷ ts) k e h =
      let one = h 0 s (omega arith) in
      let head : source rest unread bound t ≡ taken k (source rest unread bound s) = λ i. record { rest = one.same_rest i; unread = one.same_unread i; bound = one.same_bound i } in
      λ i. head i ∷ all_taken ss ts k (omega arith) (λ j d l. h (suc j) d (omega arith)) i

  pub all_come : (olds news : List S) (k : Key) (files : Files) (ls : List (List Record)) → length news ≡ length olds → ((i : ℕ) (d : S) → i < length olds → Taken k (get_or olds i d) (get_or news i d))
      → AllCome Comes files olds ls → AllCome Comes files news (map (without k) ls)
  all_come [] [] k files [] e h c = c
  all_come [] [] k files (l ∷ ls) e h c = absurd c
  all_come [] (t ∷ ts) k files ls e h c = absurd (omega arith)
  all_come (s ∷ ss) [] k files ls e h c = absurd (omega arith)
  all_come (s ∷ ss) (t ∷ ts) k files [] e h c = absurd c
  all_come (s ∷ ss) (t ∷ ts) k files (l ∷ ls) e h c = ((h 0 s (omega arith)).comes files l c.0, all_come ss ts k files ls (omega arith) (λ j d m. h (suc j) d (omega arith)) c.1)

  -- one more source has passed its record, which had the key
  pub passed_more : (olds curs news : List S) (k : Key) (i : ℕ) → ArePassed rest unread bound Comes k olds curs → IsAdvanced rest unread bound Comes i curs news
      → ((d : S) → (r : Record) × (rs : List Record) × (rest (get_or curs i d) ≡ r ∷ rs) × (r.key ≡ k)) → ArePassed rest unread bound Comes k olds news
  passed_more olds curs news k i p a has = record {
    len = a.len ∙ p.len;
    each = λ j d l. by j d l (j == i) refl (p.each j d l);
  }
    where
      by : (j : ℕ) (d : S) → j < length olds → (b : Bool) → (j == i) ≡ b → Taken k (get_or olds j d) (get_or curs j d) ⊎ (get_or curs j d ≡ get_or olds j d) → Taken k (get_or olds j d) (get_or news j d) ⊎ (get_or news j d ≡ get_or olds j d)
      by j d l false e q =
          let same = a.others j d (eqb-false j i e) in
          subst (λ x. Taken k (get_or olds j d) x ⊎ (x ≡ get_or olds j d)) (sym same) q
      by j d l true e (inl q) =
          let at : j ≡ i = eqb-true j i e in
          let f = has d in
          absurd (true_not_false (sym (same_key f.0.key) ∙ ap (λ x. eq_by_cmp key_cmp x f.0.key) f.3 ∙ not_first k (rest (get_or olds j d)) f.0 f.1 (sym q.same_rest ∙ ap (λ x. rest (get_or curs x d)) at ∙ f.2)))
      by j d l true e (inr q) =
          let at : j ≡ i = eqb-true j i e in
          let f = has d in
          let old : rest (get_or olds j d) ≡ f.0 ∷ f.1 = ap rest (sym q) ∙ ap (λ x. rest (get_or curs x d)) at ∙ f.2 in
          let back : get_or olds j d ≡ get_or curs i d = sym q ∙ ap (λ x. get_or curs x d) at in
          let to : get_or news j d ≡ get_or news i d = ap (λ x. get_or news x d) at in
          inl (subst (λ x. Taken x (get_or olds j d) (get_or news j d)) f.3
          (taken_by_advance (get_or olds j d) (get_or news j d) f.0 f.1 old
          (ap rest to ∙ a.rest_is d ∙ ap (λ x. drop 1 (rest x)) (sym back)) (ap unread to ∙ a.unread_is d ∙ ap unread (sym back)) (ap bound to ∙ a.bound_is d ∙ ap bound (sym back))
          (λ files m h. subst (λ x. Comes x files (drop 1 m)) (sym to) (a.comes d files m (subst (λ x. Comes x files m) back h)))))

  one_key : (l : List Record) (r : Record) (rs : List Record) → have_one_key l (r ∷ rs) ≡ true → (x : Record) × (xs : List Record) × (l ≡ x ∷ xs) × (x.key ≡ r.key)
  one_key [] r rs h = absurd (true_not_false (sym h))
  one_key (x ∷ xs) r rs h = (x, xs, refl, alike_keys x.key r.key h)

  -- behind its first record a list has another key
  behind_apart : (l m : List Record) → KeysRise l → have_one_key l m ≡ true → have_one_key (drop 1 l) m ≡ false
  behind_apart [] m rise h = absurd (true_not_false (sym h))
  behind_apart (x ∷ xs) [] rise h = absurd (true_not_false (sym h))
  behind_apart (x ∷ []) (r ∷ rs) rise h = refl
  behind_apart (x ∷ y ∷ ys) (r ∷ rs) rise h =
      let same : x.key ≡ r.key = alike_keys x.key r.key h in
      let up : IsBelow r.key y.key = subst (λ k. IsBelow k y.key) same (less _ (first _ _ (first _ _ rise))) in
      ap is_eq (keys_total.antisymm y.key r.key ∙ ap ordering_reverse up)

  abbrev At : List S → ℕ → Source
  At ss i = get_or (sources rest unread bound ss) i ended

  pub source_same : (olds news : List S) (i : ℕ) → length news ≡ length olds → ((d : S) → get_or news i d ≡ get_or olds i d) → At news i ≡ At olds i
  source_same [] [] i e h = refl
  source_same [] (t ∷ ts) i e h = absurd (omega arith)
  source_same (s ∷ ss) [] i e h = absurd (omega arith)
  source_same (s ∷ ss) (t ∷ ts) zero e h = ap (source rest unread bound) (h s)
  source_same (s ∷ ss) (t ∷ ts) (suc i) e h = source_same ss ts i (omega arith) h

  source_advanced : (olds news : List S) (i : ℕ) → IsAdvanced rest unread bound Comes i olds news → (At news i).rest ≡ drop 1 (At olds i).rest
  source_advanced [] news i a = absurd (omega (arith, a.within))
  source_advanced (s ∷ ss) news i a =
      ap (λ x. x.rest) (at_source news i s (omega (arith, a.len, a.within))) ∙ a.rest_is s ∙ sym (ap (λ x. drop 1 x.rest) (at_source (s ∷ ss) i s a.within))

  -- ---- the sources of a part of the tree

  none_passed : (olds : List S) (k : Key) → ArePassed rest unread bound Comes k olds olds
  none_passed olds k = record { len = refl; each = λ i d l. inr refl }

  -- where all of them have another key, they are left alone
  pub others_kept : (olds : List S) (t low high : ℕ) → ((j : ℕ) → low ≤ j → j < high → ¬ (j ≡ t) → have_one_key (At olds j).rest (At olds t).rest ≡ false) → OthersPassed rest unread bound Comes t low high olds olds
  others_kept olds t low high h = record {
    passed = λ r rs at. none_passed olds r.key;
    len = refl;
    same = λ d. refl;
    outside = λ j d o. refl;
    apart = h;
  }

  step_kept : (olds : List S) (t i : ℕ) → (i ≡ t) ⊎ (have_one_key (At olds i).rest (At olds t).rest ≡ false) → (j : ℕ) → i ≤ j → j < i + 1 → ¬ (j ≡ t) → have_one_key (At olds j).rest (At olds t).rest ≡ false
  step_kept olds t i (inl e) j m l ne = absurd (ne (omega arith))
  step_kept olds t i (inr e) j m l ne = subst (λ x. have_one_key (At olds x).rest (At olds t).rest ≡ false) (omega arith) e

  step_advanced : (olds news : List S) (t i : ℕ) → IsAdvanced rest unread bound Comes i olds news → ¬ (i ≡ t) → have_one_key (At olds i).rest (At olds t).rest ≡ true → OthersPassed rest unread bound Comes t i (i + 1) olds news
  step_advanced olds news t i a ne one = record {
    passed = λ r rs at. passed_more olds olds news r.key i (none_passed olds r.key) a (λ d.
        one_key (rest (get_or olds i d)) r rs (ap (λ x. have_one_key x.rest (r ∷ rs)) (sym (at_source olds i d a.within)) ∙ ap (have_one_key (At olds i).rest) (sym at) ∙ one));
    len = a.len;
    same = λ d. a.others t d (λ e. ne (sym e));
    outside = λ j d o. a.others j d (λ e. apart_from_i j o e);
    apart = λ j m l other.
        subst (λ x. have_one_key (At news x).rest (At olds t).rest ≡ false) (omega arith)
        (ap (λ x. have_one_key x (At olds t).rest) (source_advanced olds news i a) ∙ behind_apart (At olds i).rest (At olds t).rest (all_rise olds i) one);
  }
    where
      apart_from_i : (j : ℕ) → (j < i) ⊎ (i + 1 ≤ j) → j ≡ i → ⊥
      apart_from_i j (inl l) e = omega arith
      apart_from_i j (inr l) e = omega arith

  pub others_step : (olds news : List S) (t i low high : ℕ) → i ≡ low → high ≡ low + 1 → IsStep rest unread bound Comes i t olds news → OthersPassed rest unread bound Comes t low high olds news
  others_step olds news t i low high a b step = subst (λ n. OthersPassed rest unread bound Comes t n high olds news) a (subst (λ n. OthersPassed rest unread bound Comes t i n olds news) (sym (b ∙ ap (λ n. n + 1) (sym a))) (by step))
    where
      by : IsStep rest unread bound Comes i t olds news → OthersPassed rest unread bound Comes t i (i + 1) olds news
      by (inl q) = subst (OthersPassed rest unread bound Comes t i (i + 1) olds) (sym q.0) (others_kept olds t i (i + 1) (step_kept olds t i q.1))
      by (inr q) = step_advanced olds news t i q.0 q.1 q.2

  -- two parts side by side
  module _ (olds curs news : List S) (t low middle high : ℕ) (a : low ≤ middle) (b : middle ≤ high) (p : OthersPassed rest unread bound Comes t low middle olds curs) (q : OthersPassed rest unread bound Comes t middle high curs news) where
    joined_each : (k : Key) → ArePassed rest unread bound Comes k olds curs → ArePassed rest unread bound Comes k curs news → (i : ℕ) (d : S) → i < length olds → Taken k (get_or olds i d) (get_or news i d) ⊎ (get_or news i d ≡ get_or olds i d)
    joined_each k x y i d l = by (nat_lt i middle) refl
      where
        by : (c : Bool) → nat_lt i middle ≡ c → Taken k (get_or olds i d) (get_or news i d) ⊎ (get_or news i d ≡ get_or olds i d)
        by true e = subst (λ z. Taken k (get_or olds i d) z ⊎ (z ≡ get_or olds i d)) (sym (q.outside i d (inl (ltb-true i middle e)))) (x.each i d l)
        by false e = subst (λ z. Taken k z (get_or news i d) ⊎ (get_or news i d ≡ z)) (p.outside i d (inr (ltb-false i middle e))) (y.each i d (omega (arith, p.len)))

    joined_outside : (j : ℕ) (d : S) → (j < low) ⊎ (high ≤ j) → get_or news j d ≡ get_or olds j d
    joined_outside j d (inl l) = q.outside j d (inl (omega arith)) ∙ p.outside j d (inl l)
    joined_outside j d (inr l) = q.outside j d (inr l) ∙ p.outside j d (inr (omega arith))

    first_kept_still : At curs t ≡ At olds t
    first_kept_still = source_same olds curs t p.len p.same

    joined_apart : (j : ℕ) → low ≤ j → j < high → ¬ (j ≡ t) → have_one_key (At news j).rest (At olds t).rest ≡ false
    joined_apart j m l ne = by (nat_lt j middle) refl
      where
        by : (c : Bool) → nat_lt j middle ≡ c → have_one_key (At news j).rest (At olds t).rest ≡ false
        by true e =
            let under : j < middle = ltb-true j middle e in
            ap (λ s. have_one_key s.rest (At olds t).rest) (source_same curs news j q.len (λ d. q.outside j d (inl under))) ∙ p.apart j m under ne
        by false e = ap (λ s. have_one_key (At news j).rest s.rest) (sym first_kept_still) ∙ q.apart j (ltb-false j middle e) l ne

    pub others_join : OthersPassed rest unread bound Comes t low high olds news
    others_join = record {
      passed = λ r rs at.
          let x = p.passed r rs at in
          let y = q.passed r rs (ap (λ s. s.rest) first_kept_still ∙ at) in
          record { len = y.len ∙ x.len; each = joined_each r.key x y };
      len = q.len ∙ p.len;
      same = λ d. q.same d ∙ p.same d;
      outside = joined_outside;
      apart = joined_apart;
    }

  each_taken : (olds curs news : List S) (t : ℕ) (r : Record) (rs : List Record) → IsFirst (sources rest unread bound olds) t → (get_or (sources rest unread bound olds) t ended).rest ≡ r ∷ rs → t < length olds
      → OthersPassed rest unread bound Comes t 0 (length olds) olds curs → IsAdvanced rest unread bound Comes t curs news → ArePassed rest unread bound Comes r.key olds news → (i : ℕ) (d : S) → i < length olds → Taken r.key (get_or olds i d) (get_or news i d)
  each_taken olds curs news t r rs least at within p a passed i d l = by (i == t) refl (passed.each i d l)
    where
      by : (b : Bool) → (i == t) ≡ b → Taken r.key (get_or olds i d) (get_or news i d) ⊎ (get_or news i d ≡ get_or olds i d) → Taken r.key (get_or olds i d) (get_or news i d)
      by b e (inl q) = q
      by true e (inr q) =
          let here : i ≡ t = eqb-true i t e in
          let had : rest (get_or olds t d) ≡ r ∷ rs = sym (ap (λ s. s.rest) (at_source olds t d within)) ∙ at in
          let now : rest (get_or news t d) ≡ rs = a.rest_is d ∙ ap (λ x. drop 1 (rest x)) (p.same d) ∙ ap (drop 1) had in
          let same : rs ≡ r ∷ rs = sym now ∙ ap (λ x. rest (get_or news x d)) (sym here) ∙ ap rest q ∙ ap (λ x. rest (get_or olds x d)) here ∙ had in
          absurd (omega (arith, ap length same))
      by false e (inr q) =
          let ne = eqb-false i t e in
          let still : get_or news i d ≡ get_or curs i d = a.others i d ne in
          let had : rest (get_or olds t d) ≡ r ∷ rs = sym (ap (λ s. s.rest) (at_source olds t d within)) ∙ at in
          let here' : (At curs i).rest ≡ rest (get_or olds i d) = ap (λ s. s.rest) (at_source curs i d (omega (arith, p.len))) ∙ ap rest (sym still ∙ q) in
          let other : have_one_key (rest (get_or olds i d)) (r ∷ rs) ≡ false = sym (λ k. have_one_key (here' k) (at k)) ∙ p.apart i (omega arith) l ne in
          let st = each_stands (sources rest unread bound olds) t least (all_rise olds) r rs at i (source_len rest unread bound olds i l) in
          let here = at_source olds i d l in
          let st' : Stands r.key false (rest (get_or olds i d)) (unread (get_or olds i d)) = weaker r.key (nat_lt t i) _ _ (subst (λ s. Stands r.key (nat_lt t i) s.rest s.unread) here st) in
          subst (λ x. Taken r.key (get_or olds i d) x) (sym q) (taken_absent (get_or olds i d) r rs st' other)

  -- the source that is taken first has a record where the merged list has one
  pub first_some : (olds : List S) (t : ℕ) → IsFirst (sources rest unread bound olds) t → 0 < length (merged_rest (sources rest unread bound olds)) → (r : Record) × (rs : List Record) × ((get_or (sources rest unread bound olds) t ended).rest ≡ r ∷ rs)
  first_some olds t least some = by (get_or (sources rest unread bound olds) t ended).rest ((get_or (sources rest unread bound olds) t ended).unread == 0) refl refl
    where
      by : (l : List Record) (b : Bool) → (get_or (sources rest unread bound olds) t ended).rest ≡ l → ((get_or (sources rest unread bound olds) t ended).unread == 0) ≡ b → (r : Record) × (rs : List Record) × ((get_or (sources rest unread bound olds) t ended).rest ≡ r ∷ rs)
      by (r ∷ rs) b e u = (r, rs, e)
      by [] true e u = absurd (omega (arith, some, ap length (head_end (sources rest unread bound olds) t least e (eqb-true _ 0 u)).0))
      by [] false e u =
          let n = (get_or (sources rest unread bound olds) t ended).unread in
          let more : 0 < n = positive n u in
          absurd (omega (arith, some, ap length (head_hungry (sources rest unread bound olds) t least.within e more).0))

  pub merge_passed : (olds curs news : List S) (t : ℕ) → IsFirst (sources rest unread bound olds) t → 0 < length (merged_rest (sources rest unread bound olds))
      → OthersPassed rest unread bound Comes t 0 (length olds) olds curs → IsAdvanced rest unread bound Comes t curs news → IsMergePassed rest unread bound Comes olds news
  merge_passed olds curs news t least some p a =
      let ss = sources rest unread bound olds in
      let f = first_some olds t least some in
      let within : t < length olds = len_source rest unread bound olds t least.within in
      let at : (d : S) → rest (get_or olds t d) ≡ f.0 ∷ f.1 = λ d. sym (ap (λ s. s.rest) (at_source olds t d within)) ∙ f.2 in
      let passed = passed_more olds curs news f.0.key t (p.passed f.0 f.1 f.2) a (λ d. (f.0, f.1, ap rest (p.same d) ∙ at d, refl)) in
      let each : (i : ℕ) (d : S) → i < length olds → Taken f.0.key (get_or olds i d) (get_or news i d) = λ i d l. each_taken olds curs news t f.0 f.1 least f.2 within p a passed i d l in
      let len : length news ≡ length olds = a.len ∙ p.len in
      let all = all_taken olds news f.0.key len each in
      let e = first_kept ss t least (all_rise olds) f.0 f.1 f.2 in
      record {
        rest_is = ap merged_rest all ∙ rest_taken ss f.0.key f.0.value e.0 e.1 (none_before ss t least (all_rise olds) f.0 f.1 f.2);
        unread_is = ap all_unread all ∙ unread_taken ss f.0.key;
        bound_is = ap least_bound all ∙ bound_taken ss f.0.key;
        comes = λ files l h.
            let head = head_item ss t least (all_rise olds) f.0 f.1 f.2 in
            let front = comes_begins rest unread bound Comes files (λ s m. lists s files m) olds l h in
            let whole : merged h.0 ≡ f.0 ∷ (head.0 ++ front.0) = sym h.2 ∙ front.1 ∙ ap (λ x. x ++ front.0) head.1 in
            (map (without f.0.key) h.0, all_come olds news f.0.key files h.0 len each h.1, ap (drop 1) h.2 ∙ sym (merged_taken h.0 f.0.key f.0 (head.0 ++ front.0) whole refl));
      }

  same_any : (xs : List S) (i : ℕ) (d e : S) → i < length xs → get_or xs i d ≡ get_or xs i e
  same_any [] i d e l = absurd (omega arith)
  same_any (x ∷ xs) zero d e l = refl
  same_any (x ∷ xs) (suc i) d e l = same_any xs i d e (omega arith)

  pub advanced_set : (curs : List S) (i : ℕ) (x y : S) → i < length curs → y ≡ get_or curs i y → rest x ≡ drop 1 (rest y) → unread x ≡ unread y → bound x ≡ bound y
      → ((files : Files) (l : List Record) → Comes y files l → Comes x files (drop 1 l)) → IsAdvanced rest unread bound Comes i curs (set curs i x)
  advanced_set curs i x y l at r u b c =
      let was : (d : S) → y ≡ get_or curs i d = λ d. at ∙ same_any curs i y d l in
      let is : (d : S) → get_or (set curs i x) i d ≡ x = λ d. get_or-set_same curs i x d l in
      record {
        len = length-set curs i x;
        within = l;
        others = λ j d ne. get_or-set_other curs i j x d ne;
        rest_is = λ d. ap rest (is d) ∙ r ∙ ap (λ z. drop 1 (rest z)) (was d);
        unread_is = λ d. ap unread (is d) ∙ u ∙ ap unread (was d);
        bound_is = λ d. ap bound (is d) ∙ b ∙ ap bound (was d);
        comes = λ d files m h. subst (λ z. Comes z files (drop 1 m)) (sym (is d)) (c files m (subst (λ z. Comes z files m) (sym (was d)) h));
      }

  -- the source that is taken first still has its record, once the others are passed
  pub still_some : (olds curs : List S) (t : ℕ) (y : S) → IsFirst (sources rest unread bound olds) t → 0 < length (merged_rest (sources rest unread bound olds)) → OthersPassed rest unread bound Comes t 0 (length olds) olds curs → y ≡ get_or curs t y → 0 < length (rest y)
  still_some olds curs t y least some p at =
      let f = first_some olds t least some in
      let within = len_source rest unread bound olds t least.within in
      let e : rest y ≡ f.0 ∷ f.1 = ap rest at ∙ ap rest (p.same y) ∙ sym (ap (λ s. s.rest) (at_source olds t y within)) ∙ f.2 in
      omega (arith, ap length e)
