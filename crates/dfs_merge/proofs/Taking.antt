-- A key is taken off every source that has it.
use Rattle.std.proofs.Common.{◌≡◌, ◌+◌, Bool, true, false, cond, not, T, ◌&&◌, ◌||◌, ◌==◌, List, [], ◌∷◌, ◌++◌, length, map, drop, refl, sym, ap, subst, ◌∙◌, arith}
use Rattle.std.specs.Prelude.{Option, Some, None, flat_map}
use Rattle.std.specs.List.{list_any}
use Rattle.std.specs.Ordering.{is_le, is_eq, eq_by_cmp, ordering_reverse}
use Rattle.std.specs.FinMap.Entries.{where_key, below_all, is_sorted}
use Rattle.std.specs.declared.cmp.Ordering.{Ordering}
use Rattle.std.specs.declared.cmp.Ordering.TheVariants.{Less, Equal, Greater}
use Rattle.dfs_record.specs.declared.Key.{Key}
use Rattle.dfs_record.specs.declared.Record.{Record}
use Rattle.dfs_record.specs.declared.Value.{Value}
use Rattle.dfs_record.specs.Key.{key_cmp, keys_total}
use Rattle.dfs_record.specs.KeyMap.{get, remove}
use Rattle.dfs_record.specs.Delta.{Delta, delta, records_of, merged, last_value, or_else}
use Rattle.dfs_record.specs.Records.{IsBelow}
use Rattle.dfs_record.proofs.Maps.{same_map, alike_keys, same_key, get-remove}
use Rattle.dfs_record.proofs.Replays.{get-delta, last_value-append, or_else-none}
use Rattle.dfs_merge.specs.Sources.{Source, is_settled, kept, merged_rest, all_unread, least_bound, lesser, without, taken}
use Rattle.dfs_merge.specs.Laws.{get-kept}
use Rattle.dfs_cursor.specs.Ranges.{first, second, less}
use Rattle.dfs_merge.proofs.Firsts.{listed, rests}

-- ---- values

abbrev first_key : List Record → Key → Key
first_key [] k = k
first_key (r ∷ rs) k = r.key

value_without : (k q : Key) (rs : List Record) → last_value q (without k rs) ≡ cond (eq_by_cmp key_cmp q k) None (last_value q rs)
value_without k q [] = same_none (eq_by_cmp key_cmp q k)
  where
    same_none : (b : Bool) → None ≡ cond {A = Option Value} b None None
    same_none true = refl
    same_none false = refl
value_without k q (r ∷ rs) = by (eq_by_cmp key_cmp k r.key) refl (eq_by_cmp key_cmp q k) refl (value_without k q rs)
  where
    by : (a : Bool) → eq_by_cmp key_cmp k r.key ≡ a → (b : Bool) → eq_by_cmp key_cmp q k ≡ b → last_value q (without k rs) ≡ cond (eq_by_cmp key_cmp q k) None (last_value q rs)
        → last_value q (cond (not a) (r ∷ without k rs) (without k rs)) ≡ cond b None (or_else (last_value q rs) (cond (eq_by_cmp key_cmp q r.key) (Some r.value) None))
    by true e true f ih = ih ∙ ap (λ b. cond b None (last_value q rs)) f
    by true e false f ih =
        ih ∙ ap (λ b. cond b None (last_value q rs)) f
        ∙ sym (ap (λ b. or_else (last_value q rs) (cond b (Some r.value) None)) (ap (λ x. eq_by_cmp key_cmp q x) (sym (alike_keys k r.key e)) ∙ f) ∙ or_else-none (last_value q rs))
    by false e true f ih =
        ap (λ o. or_else o (cond (eq_by_cmp key_cmp q r.key) (Some r.value) None)) (ih ∙ ap (λ b. cond b None (last_value q rs)) f)
        ∙ ap (λ b. cond b (Some r.value) None) (ap (λ x. eq_by_cmp key_cmp x r.key) (alike_keys q k f) ∙ e)
    by false e false f ih = ap (λ o. or_else o (cond (eq_by_cmp key_cmp q r.key) (Some r.value) None)) (ih ∙ ap (λ b. cond b None (last_value q rs)) f)

flat_without : {X : Type 0} (f : X → List Record) (k q : Key) (xs : List X) → last_value q (flat_map (λ x. without k (f x)) xs) ≡ cond (eq_by_cmp key_cmp q k) None (last_value q (flat_map f xs))
flat_without f k q [] = value_without k q []
flat_without f k q (x ∷ xs) =
    last_value-append q (without k (f x)) (flat_map (λ x. without k (f x)) xs)
    ∙ (λ i. or_else (flat_without f k q xs i) (value_without k q (f x) i))
    ∙ both (eq_by_cmp key_cmp q k)
    ∙ ap (cond (eq_by_cmp key_cmp q k) None) (sym (last_value-append q (f x) (flat_map f xs)))
  where
    both : (b : Bool) → or_else (cond b None (last_value q (flat_map f xs))) (cond b None (last_value q (f x))) ≡ cond b None (or_else (last_value q (flat_map f xs)) (last_value q (f x)))
    both true = refl
    both false = refl

-- ---- what is left of the merged list

map_flat : {X Y : Type 0} (g : X → Y) (f : Y → List Record) (xs : List X) → flat_map f (map g xs) ≡ flat_map (λ x. f (g x)) xs
map_flat g f [] = refl
map_flat g f (x ∷ xs) = ap (λ l. f (g x) ++ l) (map_flat g f xs)

delta_without : {X : Type 0} (f : X → List Record) (k : Key) (xs : List X) → delta (flat_map (λ x. without k (f x)) xs) ≡ remove (delta (flat_map f xs)) k
delta_without f k xs = same_map _ _ (λ q.
    get-delta (flat_map (λ x. without k (f x)) xs) q
    ∙ flat_without f k q xs
    ∙ ap (cond (eq_by_cmp key_cmp q k) None) (sym (get-delta (flat_map f xs) q))
    ∙ sym (get-remove (delta (flat_map f xs)) k q))

all_kept : (k : Key) (es : List (Key × Value)) → T (below_all key_cmp k es) → where_key key_cmp (λ x. not (eq_by_cmp key_cmp k x)) es ≡ es
all_kept k [] h = refl
all_kept k (e ∷ es) h =
    ap (λ o. cond (not (is_eq o)) (e ∷ where_key key_cmp (λ x. not (eq_by_cmp key_cmp k x)) es) (where_key key_cmp (λ x. not (eq_by_cmp key_cmp k x)) es)) (less _ (first _ _ h))
    ∙ ap (λ l. e ∷ l) (all_kept k es (second _ _ h))

-- the first key of a change set removed
pub without_first : (m : Delta) (k : Key) (v : Value) (es : List (Key × Value)) → m.entries ≡ (k, v) ∷ es → records_of (remove m k) ≡ drop 1 (records_of m)
without_first m k v es e =
    let above : T (below_all key_cmp k es) = first _ _ (subst (λ l. T (is_sorted key_cmp l)) e m.sorted) in
    let off : where_key key_cmp (λ x. not (eq_by_cmp key_cmp k x)) m.entries ≡ es =
    ap (where_key key_cmp (λ x. not (eq_by_cmp key_cmp k x))) e
    ∙ ap (λ b. cond (not b) ((k, v) ∷ where_key key_cmp (λ x. not (eq_by_cmp key_cmp k x)) es) (where_key key_cmp (λ x. not (eq_by_cmp key_cmp k x)) es)) (same_key k)
    ∙ all_kept k es above in
    ap listed off ∙ sym (ap (λ l. drop 1 (listed l)) e)

any_without : (k q : Key) (rs : List Record) → IsBelow k q → list_any (λ r. is_le (key_cmp q r.key)) (without k rs) ≡ list_any (λ r. is_le (key_cmp q r.key)) rs
any_without k q [] l = refl
any_without k q (r ∷ rs) l = by (eq_by_cmp key_cmp k r.key) refl (any_without k q rs l)
  where
    by : (b : Bool) → eq_by_cmp key_cmp k r.key ≡ b → list_any (λ r. is_le (key_cmp q r.key)) (without k rs) ≡ list_any (λ r. is_le (key_cmp q r.key)) rs
        → list_any (λ r. is_le (key_cmp q r.key)) (cond (not b) (r ∷ without k rs) (without k rs)) ≡ (is_le (key_cmp q r.key) || list_any (λ r. is_le (key_cmp q r.key)) rs)
    by true e ih = ih ∙ ap (λ b. b || list_any (λ r. is_le (key_cmp q r.key)) rs) (sym (ap (λ x. is_le (key_cmp q x)) (sym (alike_keys k r.key e)) ∙ ap is_le (keys_total.antisymm q k ∙ ap ordering_reverse l)))
    by false e ih = ap (λ b. is_le (key_cmp q r.key) || b) ih

settled_without : (k q : Key) → IsBelow k q → (ss : List Source) → is_settled (map (taken k) ss) q ≡ is_settled ss q
settled_without k q l [] = refl
settled_without k q l (s ∷ ss) = λ i. (s.unread == 0 || any_without k q s.rest l i) && settled_without k q l ss i

-- once the first key is taken off every source, the merged list is without its first record
pub rest_taken : (ss : List Source) (k : Key) (v : Value) (es : List (Key × Value)) → (kept (is_settled ss) (delta (rests ss))).entries ≡ (k, v) ∷ es
    → ((q : Key) → IsBelow q k → get (delta (rests ss)) q ≡ None) → merged_rest (map (taken k) ss) ≡ drop 1 (merged_rest ss)
rest_taken ss k v es e low =
    let p = is_settled ss in
    let p' = is_settled (map (taken k) ss) in
    let d = delta (rests ss) in
    let d' : delta (rests (map (taken k) ss)) ≡ remove d k = ap delta (map_flat (taken k) (λ s. s.rest) ss) ∙ delta_without (λ s. s.rest) k ss in
    let same : kept p' (remove d k) ≡ remove (kept p d) k = same_map _ _ (λ q.
    get-kept p' (remove d k) q
    ∙ ap (λ o. cond (p' q) o None) (get-remove d k q)
    ∙ by q (key_cmp q k) refl
    ∙ sym (get-remove (kept p d) k q ∙ ap (cond (eq_by_cmp key_cmp q k) None) (get-kept p d q))) in
    ap (λ m. records_of (kept p' m)) d' ∙ ap records_of same ∙ without_first (kept p d) k v es e
  where
    nothing : (b : Bool) → cond {A = Option Value} b None None ≡ None
    nothing true = refl
    nothing false = refl

    by : (q : Key) (o : Ordering) → key_cmp q k ≡ o → cond (is_settled (map (taken k) ss) q) (cond (eq_by_cmp key_cmp q k) None (get (delta (rests ss)) q)) None ≡ cond (eq_by_cmp key_cmp q k) None (cond (is_settled ss q) (get (delta (rests ss)) q) None)
    by q Less f =
        (λ i. cond (is_settled (map (taken k) ss) q) (cond (is_eq (f i)) None (low q f i)) None) ∙ nothing (is_settled (map (taken k) ss) q)
        ∙ sym ((λ i. cond (is_eq (f i)) None (cond (is_settled ss q) (low q f i) None)) ∙ nothing (is_settled ss q))
    by q Equal f =
        (λ i. cond (is_settled (map (taken k) ss) q) (cond (is_eq (f i)) None (get (delta (rests ss)) q)) None) ∙ nothing (is_settled (map (taken k) ss) q)
        ∙ sym (λ i. cond (is_eq (f i)) None (cond (is_settled ss q) (get (delta (rests ss)) q) None))
    by q Greater f =
        let above : IsBelow k q = keys_total.antisymm k q ∙ ap ordering_reverse f in
        (λ i. cond (settled_without k q above ss i) (cond (is_eq (f i)) None (get (delta (rests ss)) q)) None)
        ∙ sym (λ i. cond (is_eq (f i)) None (cond (is_settled ss q) (get (delta (rests ss)) q) None))

-- the same of the lists that are still to come
pub merged_taken : (ls : List (List Record)) (k : Key) (r : Record) (others : List Record) → merged ls ≡ r ∷ others → r.key ≡ k → merged (map (without k) ls) ≡ drop 1 (merged ls)
merged_taken ls k r others e at =
    let d = delta (flat_map (λ rs. rs) ls) in
    ap (λ l. records_of (delta l)) (map_flat (without k) (λ rs. rs) ls)
    ∙ ap records_of (delta_without (λ rs. rs) k ls)
    ∙ by d.entries refl
  where
    by : (es : List (Key × Value)) → (delta (flat_map (λ rs. rs) ls)).entries ≡ es → records_of (remove (delta (flat_map (λ rs. rs) ls)) k) ≡ drop 1 (merged ls)
    by [] f = absurd (omega (arith, ap length e, ap (λ l. length (listed l)) f))
    by (x ∷ es) f =
        let same : x.0 ≡ k = ap (λ l. first_key l k) (sym (ap listed f) ∙ e) ∙ at in
        without_first (delta (flat_map (λ rs. rs) ls)) k x.1 es (f ∙ ap (λ y. (y, x.1) ∷ es) same)

pub unread_taken : (ss : List Source) (k : Key) → all_unread (map (taken k) ss) ≡ all_unread ss
unread_taken [] k = refl
unread_taken (s ∷ ss) k = ap (λ n. s.unread + n) (unread_taken ss k)

pub bound_taken : (ss : List Source) (k : Key) → least_bound (map (taken k) ss) ≡ least_bound ss
bound_taken [] k = refl
bound_taken (s ∷ ss) k = ap (lesser s.bound) (bound_taken ss k)
