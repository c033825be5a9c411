-- Records whose keys rise.
use Rattle.std.proofs.Common.{◌≡◌, ◌≤◌, length, suc, Bool, true, false, cond, ◌&&◌, T, List, [], ◌∷◌, ◌++◌, refl, sym, ap, subst, ◌∙◌, arith}
use Rattle.std.specs.Prelude.{Option, Some, None, ◌↔◌, map, option_map, IfSome}
use Rattle.std.specs.Ordering.{is_lt, is_eq, eq_by_cmp}
use Rattle.std.specs.declared.cmp.Ordering.{Ordering}
use Rattle.std.specs.declared.cmp.Ordering.TheVariants.{Less, Equal, Greater}
use Rattle.std.specs.List.{AllByRecursion}
use Rattle.std.specs.FinMap.Entries.{below_all, is_sorted}
use Rattle.dfs_record.specs.declared.Key.{Key}
use Rattle.dfs_record.specs.declared.Value.{Value}
use Rattle.dfs_record.specs.declared.Record.{Record}
use Rattle.dfs_record.specs.declared.ValueRef.{ValueRef}
use Rattle.dfs_record.specs.Lend.{value_of}
use Rattle.dfs_record.specs.Delta.{last_value, or_else}
use Rattle.dfs_record.specs.Record.{IsKey, IsRecord, IsValue}
use Rattle.dfs_record.specs.Key.{key_cmp, keys_total, keys_exact}
use Rattle.dfs_record.specs.Records.{KeysRise, IsBelow}
use Rattle.dfs_record.proofs.Maps.{alike_keys, other_key, same_key}
use Rattle.dfs_block.specs.Block.{last_key, Has, HasNot, IsAboveLast, RisesByLast}
use Rattle.dfs_block.specs.Read.{is_above, value_for}

abbrev entries : List Record → List (Key × Value)
entries rs = map (λ r. (r.key, r.value)) rs

first : (a b : Bool) → T (a && b) → T a
first true b p = tt
first false b p = p

second : (a b : Bool) → T (a && b) → T b
second true b p = p
second false b p = absurd p

both : (a b : Bool) → T a → T b → T (a && b)
both true b p q = q
both false b p q = p

less : (o : Ordering) → T (is_lt o) → o ≡ Less
less Less t = refl
less Equal t = absurd t
less Greater t = absurd t

is_less : (o : Ordering) → o ≡ Less → T (is_lt o)
is_less o e = subst (λ (x : Ordering). T (is_lt x)) (sym e) tt

true_lt : (o : Ordering) → is_lt o ≡ true → o ≡ Less
true_lt Less e = refl
true_lt Equal e = absurd cc
true_lt Greater e = absurd cc

-- below the first one, and so below all behind it
below_rest : (key : Key) (r : Record) (rs : List Record) → IsBelow key r.key → T (below_all key_cmp r.key (entries rs)) → T (below_all key_cmp key (entries rs))
below_rest key r [] lt all = tt
below_rest key r (s ∷ rs) lt all =
    both (is_lt (key_cmp key s.key)) (below_all key_cmp key (entries rs))
    (is_less (key_cmp key s.key) (keys_total.trans key r.key s.key lt (less (key_cmp r.key s.key) (first (is_lt (key_cmp r.key s.key)) (below_all key_cmp r.key (entries rs)) all))))
    (below_rest key r rs lt (second (is_lt (key_cmp r.key s.key)) (below_all key_cmp r.key (entries rs)) all))

pub rise_first : (r : Record) (rs : List Record) → KeysRise (r ∷ rs) → T (below_all key_cmp r.key (entries rs))
rise_first r rs h = first (below_all key_cmp r.key (entries rs)) (is_sorted key_cmp (entries rs)) h

pub rise_behind : (r : Record) (rs : List Record) → KeysRise (r ∷ rs) → KeysRise rs
rise_behind r rs h = second (below_all key_cmp r.key (entries rs)) (is_sorted key_cmp (entries rs)) h

below_all_of : (key : Key) (r : Record) (rs : List Record) → IsBelow key r.key → KeysRise (r ∷ rs) → T (below_all key_cmp key (entries (r ∷ rs)))
below_all_of key r rs lt h =
    both (is_lt (key_cmp key r.key)) (below_all key_cmp key (entries rs)) (is_less (key_cmp key r.key) lt) (below_rest key r rs lt (rise_first r rs h))

pub rise_before : (r s : Record) (rs : List Record) → IsBelow r.key s.key → KeysRise (s ∷ rs) → KeysRise (r ∷ s ∷ rs)
rise_before r s rs lt h = both (below_all key_cmp r.key (entries (s ∷ rs))) (is_sorted key_cmp (entries (s ∷ rs))) (below_all_of r.key s rs lt h) h

pub below_second : (r s : Record) (rs : List Record) → KeysRise (r ∷ s ∷ rs) → IsBelow r.key s.key
below_second r s rs h = less (key_cmp r.key s.key) (first (is_lt (key_cmp r.key s.key)) (below_all key_cmp r.key (entries rs)) (rise_first r (s ∷ rs) h))

-- one more behind the last
pub rise_more : (rs : List Record) (r : Record) → KeysRise rs → is_above (last_key rs) r.key ≡ true → KeysRise (rs ++ r ∷ [])
rise_more [] r h above = tt
rise_more (x ∷ []) r h above = rise_before x r [] (true_lt (key_cmp x.key r.key) above) tt
rise_more (x ∷ y ∷ rs) r h above =
    rise_before x y (rs ++ r ∷ []) (below_second x y rs h) (rise_more (y ∷ rs) r (rise_behind x (y ∷ rs) h) above)

pub last_more : (rs : List Record) (r : Record) → last_key (rs ++ r ∷ []) ≡ Some r.key
last_more [] r = refl
last_more (x ∷ []) r = refl
last_more (x ∷ y ∷ rs) r = last_more (y ∷ rs) r

-- what stands behind others is above the last of them
pub some_last : (rs : List Record) → 1 ≤ length rs → last_key rs ≡ None → ⊥
some_last [] some e = absurd (omega (arith, some))
some_last (r ∷ []) some e = absurd cc
some_last (r ∷ s ∷ rs) some e = some_last (s ∷ rs) (omega arith) e

pub last_valid : (rs : List Record) (key : Key) → AllByRecursion IsRecord rs → last_key rs ≡ Some key → IsKey key
last_valid [] key valid e = absurd cc
last_valid (r ∷ []) key valid e = let same : r.key ≡ key = cc in subst IsKey same valid.0.key
last_valid (r ∷ s ∷ rs) key valid e = last_valid (s ∷ rs) key valid.1 e

pub above_last : (rs : List Record) (r : Record) (more : List Record) → KeysRise (rs ++ r ∷ more) → is_above (last_key rs) r.key ≡ true
above_last [] r more h = refl
above_last (x ∷ []) r more h = ap is_lt (below_second x r more h)
above_last (x ∷ y ∷ rs) r more h = above_last (y ∷ rs) r more (rise_behind x (y ∷ rs ++ r ∷ more) h)

front_rises : (rs : List Record) (r : Record) → KeysRise (rs ++ r ∷ []) → KeysRise rs
front_rises [] r h = tt
front_rises (x ∷ []) r h = tt
front_rises (x ∷ y ∷ rs) r h = rise_before x y rs (below_second x y (rs ++ r ∷ []) h) (front_rises (y ∷ rs) r (rise_behind x (y ∷ rs ++ r ∷ []) h))

above_true : (o : Option Key) (key : Key) → IsAboveLast o key → is_above o key ≡ true
above_true None key h = refl
above_true (Some last) key h = ap is_lt h

true_above : (o : Option Key) (key : Key) → is_above o key ≡ true → IsAboveLast o key
true_above None key h = tt
true_above (Some last) key h = true_lt (key_cmp last key) h

pub rise_above : (rs : List Record) (r : Record) → KeysRise rs → IsAboveLast (last_key rs) r.key → KeysRise (rs ++ r ∷ [])
rise_above rs r rise above = rise_more rs r rise (above_true (last_key rs) r.key above)

pub rises_by_last : RisesByLast
rises_by_last rs r = (
  (λ h. (front_rises rs r h, true_above (last_key rs) r.key (above_last rs r [] h))),
  (λ h. rise_above rs r h.0 h.1),
)

below_behind : (q : Key) (rs : List Record) (r : Record) → T (below_all key_cmp q (entries (rs ++ r ∷ []))) → T (below_all key_cmp q (entries (r ∷ [])))
below_behind q [] r below = below
below_behind q (x ∷ rs) r below = below_behind q rs r (second (is_lt (key_cmp q x.key)) (below_all key_cmp q (entries (rs ++ r ∷ []))) below)

-- ---- the value of a key

value_none : (q : Key) (rs : List Record) → T (below_all key_cmp q (entries rs)) → last_value q rs ≡ None
value_none q [] below = refl
value_none q (r ∷ rs) below =
    ap (λ o. or_else o (cond (eq_by_cmp key_cmp q r.key) (Some r.value) None)) (value_none q rs (second (is_lt (key_cmp q r.key)) (below_all key_cmp q (entries rs)) below))
    ∙ ap (λ (o : Ordering). cond (is_eq o) (Some r.value) None) (less (key_cmp q r.key) (first (is_lt (key_cmp q r.key)) (below_all key_cmp q (entries rs)) below))

pub value_less : (q : Key) (r : Record) (rs : List Record) → KeysRise (r ∷ rs) → key_cmp q r.key ≡ Less → last_value q (r ∷ rs) ≡ None
value_less q r rs rise lt = value_none q (r ∷ rs) (below_all_of q r rs lt rise)

pub value_equal : (q : Key) (r : Record) (rs : List Record) → KeysRise (r ∷ rs) → key_cmp q r.key ≡ Equal → last_value q (r ∷ rs) ≡ Some r.value
value_equal q r rs rise eq =
    ap (λ o. or_else o (cond (eq_by_cmp key_cmp q r.key) (Some r.value) None)) (value_none q rs (subst (λ (k : Key). T (below_all key_cmp k (entries rs))) (sym (keys_exact q r.key eq)) (rise_first r rs rise)))
    ∙ ap (λ (o : Ordering). cond (is_eq o) (Some r.value) None) eq

nothing_else : (o : Option Value) → or_else o None ≡ o
nothing_else None = refl
nothing_else (Some v) = refl

pub value_greater : (q : Key) (r : Record) (rs : List Record) → key_cmp q r.key ≡ Greater → last_value q (r ∷ rs) ≡ last_value q rs
value_greater q r rs gt = ap (λ (o : Ordering). or_else (last_value q rs) (cond (is_eq o) (Some r.value) None)) gt ∙ nothing_else (last_value q rs)

-- with one more behind the last, the first value that is there
value_more : (q : Key) (rs : List Record) (r : Record) → KeysRise (rs ++ r ∷ []) → last_value q (rs ++ r ∷ []) ≡ or_else (last_value q rs) (last_value q (r ∷ []))
value_more q [] r rise = refl
value_more q (x ∷ rs) r rise = by_case (value_more q rs r (rise_behind x (rs ++ r ∷ []) rise)) (key_cmp q x.key) refl
  where
    by_case : last_value q (rs ++ r ∷ []) ≡ or_else (last_value q rs) (last_value q (r ∷ [])) → (o : Ordering) → key_cmp q x.key ≡ o
        → last_value q (x ∷ rs ++ r ∷ []) ≡ or_else (last_value q (x ∷ rs)) (last_value q (r ∷ []))
    by_case more Less lt =
        let below = below_all_of q x (rs ++ r ∷ []) lt rise in
        value_none q (x ∷ rs ++ r ∷ []) below
        ∙ sym (ap (λ o. or_else o (last_value q (r ∷ []))) (value_less q x rs (front_rises (x ∷ rs) r rise) lt) ∙ value_none q (r ∷ []) (below_behind q (x ∷ rs) r below))
    by_case more Equal eq = value_equal q x (rs ++ r ∷ []) rise eq ∙ sym (ap (λ o. or_else o (last_value q (r ∷ []))) (value_equal q x rs (front_rises (x ∷ rs) r rise) eq))
    by_case more Greater gt =
        value_greater q x (rs ++ r ∷ []) gt
        ∙ more
        ∙ sym (ap (λ o. or_else o (last_value q (r ∷ []))) (value_greater q x rs gt))

pub sought_more : (key : Option Key) (rs : List Record) (r : Record) → KeysRise (rs ++ r ∷ []) → value_for key (rs ++ r ∷ []) ≡ or_else (value_for key rs) (value_for key (r ∷ []))
sought_more None rs r rise = refl
sought_more (Some q) rs r rise = value_more q rs r rise

-- ---- that a key stands there

has_behind : (q : Key) (v : Value) (r : Record) (rs : List Record) → Has q v rs → Has q v (r ∷ rs)
has_behind q v r rs h = (suc h.0, omega (arith, h.1), h.2)

pub value_has : (q : Key) (rs : List Record) (v : Value) → last_value q rs ≡ Some v → Has q v rs
value_has q [] v e = absurd cc
value_has q (r ∷ rs) v e = by_case (λ f. value_has q rs v f) (last_value q rs) refl (eq_by_cmp key_cmp q r.key) refl e
  where
    by_case : (last_value q rs ≡ Some v → Has q v rs) → (o : Option Value) → last_value q rs ≡ o → (b : Bool) → eq_by_cmp key_cmp q r.key ≡ b → or_else o (cond b (Some r.value) None) ≡ Some v → Has q v (r ∷ rs)
    by_case behind (Some w) f b t g = has_behind q v r rs (behind (f ∙ g))
    by_case behind None f true t g =
        let key : q ≡ r.key = alike_keys q r.key t in
        let value : r.value ≡ v = cc in
        (0, omega arith, λ i. record { key = sym key i; value = value i })
    by_case behind None f false t g = absurd cc

value_none_has : (q : Key) (rs : List Record) → last_value q rs ≡ None → HasNot q rs
value_none_has q [] e = tt
value_none_has q (r ∷ rs) e = by_case (λ f. value_none_has q rs f) (last_value q rs) refl (eq_by_cmp key_cmp q r.key) refl e
  where
    by_case : (last_value q rs ≡ None → HasNot q rs) → (o : Option Value) → last_value q rs ≡ o → (b : Bool) → eq_by_cmp key_cmp q r.key ≡ b → or_else o (cond b (Some r.value) None) ≡ None → HasNot q (r ∷ rs)
    by_case behind (Some w) f b t g = absurd cc
    by_case behind None f true t g = absurd cc
    by_case behind None f false t g = ((λ same. absurd (cc (t, ap (eq_by_cmp key_cmp q) same, same_key q))), behind f)

has_none_value : (q : Key) (rs : List Record) → HasNot q rs → last_value q rs ≡ None
has_none_value q [] h = refl
has_none_value q (r ∷ rs) h =
    ap (λ o. or_else o (cond (eq_by_cmp key_cmp q r.key) (Some r.value) None)) (has_none_value q rs h.1)
    ∙ ap (λ b. cond b (Some r.value) None) (other_key q r.key (λ same. h.0 (sym same)))

value_valid : (q : Key) (rs : List Record) (v : Value) → AllByRecursion IsRecord rs → last_value q rs ≡ Some v → IsValue v
value_valid q [] v all e = absurd cc
value_valid q (r ∷ rs) v all e = by_case (λ f. value_valid q rs v all.1 f) (last_value q rs) refl (eq_by_cmp key_cmp q r.key) e
  where
    by_case : (last_value q rs ≡ Some v → IsValue v) → (o : Option Value) → last_value q rs ≡ o → (b : Bool) → or_else o (cond b (Some r.value) None) ≡ Some v → IsValue v
    by_case behind (Some w) f b g = behind (f ∙ g)
    by_case behind None f true g = let same : r.value ≡ v = cc in subst IsValue same all.0.value
    by_case behind None f false g = absurd cc

pub sought_valid : (key : Option Key) (rs : List Record) (o : Option ValueRef) → AllByRecursion IsRecord rs → option_map value_of o ≡ value_for key rs → IfSome o (λ v. IsValue (value_of v))
sought_valid key rs None all e = tt
sought_valid None rs (Some v) all e = absurd cc
sought_valid (Some q) rs (Some v) all e = value_valid q rs (value_of v) all (sym e)

-- what is lent of a value is there
pub lent_has : (q : Key) (rs : List Record) (o : Option ValueRef) → option_map value_of o ≡ last_value q rs → IfSome o (λ v. Has q (value_of v) rs)
lent_has q rs None e = tt
lent_has q rs (Some v) e = value_has q rs (value_of v) (sym e)

pub lent_not : (q : Key) (rs : List Record) (o : Option ValueRef) → option_map value_of o ≡ last_value q rs → (o ≡ None) ↔ HasNot q rs
lent_not q rs None e = ((λ _. value_none_has q rs (sym e)), (λ _. refl))
lent_not q rs (Some v) e = ((λ f. absurd cc), (λ h. absurd (cc (e, has_none_value q rs h))))
