-- The children of a directory, from the records between its two bounds.
use Rattle.std.proofs.Common.{◌≡◌, ◌<◌, ℕ, ◌||◌, length, arith, Bool, true, false, ◌&&◌, T, cond, not, List, [], ◌∷◌, ◌++◌, map, refl, sym, ap, subst, ◌∙◌}
use Rattle.std.specs.Prelude.{◌↔◌, Option, Some, None, flat_map, filter}
use Rattle.std.specs.List.{AllByRecursion, list_any}
use Rattle.std.specs.declared.cmp.Ordering.{Ordering}
use Rattle.std.specs.declared.cmp.Ordering.TheVariants.{Less, Equal, Greater}
use Rattle.std.specs.Ordering.{eq_by_cmp, is_eq, is_le, is_lt, ordering_reverse}
use Rattle.std.specs.declared.ops.Bound.TheVariants.{Included}
use Rattle.std.specs.BTreeMap.Range.{range_contains}
use Rattle.std.specs.FinMap.Entries.{below_all, find, is_sorted, where_key}
use Rattle.dfs_record.specs.declared.DirId.{DirId}
use Rattle.dfs_record.specs.declared.Entry.{Entry}
use Rattle.dfs_record.specs.declared.Key.{Key}
use Rattle.dfs_record.specs.declared.Record.{Record}
use Rattle.dfs_record.specs.declared.Value.{Value}
use Rattle.dfs_record.specs.declared.Value.TheVariants.{Del, Put}
use Rattle.dfs_record.specs.Delta.{Delta, delta, last_value, or_else, records_of}
use Rattle.dfs_record.specs.Key.{key_cmp, keys_total}
use Rattle.dfs_record.specs.KeyMap.{KeyMap, empty}
use Rattle.dfs_record.specs.Namespace.{Namespace, after_records}
use Rattle.dfs_record.specs.Record.{IsId, IsKey, IsRecord}
use Rattle.dfs_record.proofs.Maps.{alike_keys, same_map}
use Rattle.dfs_record.proofs.Replays.{effect, get-after_records, get-delta, last_of_own, replay_as_delta}
use Rattle.dfs_cursor.specs.Ranges.{is_within, part}
use Rattle.dfs_merge.specs.Laws.{get-kept}
use Rattle.dfs_merge.specs.Sources.{kept}
use Rattle.dfs_space.specs.Children.{child_of, children, has_child, is_in, is_same_dir}
use Rattle.dfs_space.specs.Span.{end_of, first_key, next_dir}
use Rattle.dfs_space.proofs.Spans.{in_span}
use Rattle.dfs_view.specs.Children.{end_key, first_of, listed, shown}

-- ---- the puts of a change set are the entries that it leaves

abbrev put_at : Key → Value → List (Key × Entry)
put_at key Del = []
put_at key (Put entry) = (key, entry) ∷ []

abbrev puts : List (Key × Value) → List (Key × Entry)
puts es = flat_map (λ (e : Key × Value). put_at e.0 e.1) es

both : (a b : Bool) → T a → T b → T (a && b)
both true b p q = q
both false b p q = p

first : (a b : Bool) → T (a && b) → T a
first true b p = tt
first false b p = p

second : (a b : Bool) → T (a && b) → T b
second true b p = p
second false b p = absurd p

below_puts : (k : Key) (es : List (Key × Value)) → T (below_all key_cmp k es) → T (below_all key_cmp k (puts es))
below_puts k [] h = tt
below_puts k (e ∷ es) h = by e.1 (below_puts k es (second _ _ h))
  where
    by : (v : Value) → T (below_all key_cmp k (puts es)) → T (below_all key_cmp k (put_at e.0 v ++ puts es))
    by Del rest = rest
    by (Put x) rest = both _ _ (first _ _ h) rest

puts_sorted : (es : List (Key × Value)) → T (is_sorted key_cmp es) → T (is_sorted key_cmp (puts es))
puts_sorted [] h = tt
puts_sorted (e ∷ es) h = by e.1 (puts_sorted es (second _ _ h)) (below_puts e.0 es (first _ _ h))
  where
    by : (v : Value) → T (is_sorted key_cmp (puts es)) → T (below_all key_cmp e.0 (puts es)) → T (is_sorted key_cmp (put_at e.0 v ++ puts es))
    by Del rest below = rest
    by (Put x) rest below = both _ _ below rest

lower_apart : (o : Ordering) → T (is_lt o) → is_eq o ≡ false
lower_apart Less h = refl
lower_apart Equal h = absurd h
lower_apart Greater h = absurd h

-- a key below all others stands nowhere
not_there : {X : Type 0} (q : Key) (es : List (Key × X)) → T (below_all key_cmp q es) → find key_cmp q es ≡ None
not_there q [] h = refl
not_there q (e ∷ es) h = ap (λ b. cond b (Some e.1) (find key_cmp q es)) (lower_apart (key_cmp q e.0) (first _ _ h)) ∙ not_there q es (second _ _ h)

find_puts : (q : Key) (es : List (Key × Value)) → T (is_sorted key_cmp es) → find key_cmp q (puts es) ≡ effect (find key_cmp q es) None
find_puts q [] h = refl
find_puts q (e ∷ es) h = by (eq_by_cmp key_cmp q e.0) refl e.1 (find_puts q es (second _ _ h))
  where
    gone : eq_by_cmp key_cmp q e.0 ≡ true → find key_cmp q es ≡ None
    gone t = not_there q es (subst (λ k. T (below_all key_cmp k es)) (sym (alike_keys q e.0 t)) (first _ _ h))

    by : (b : Bool) → eq_by_cmp key_cmp q e.0 ≡ b → (v : Value) → find key_cmp q (puts es) ≡ effect (find key_cmp q es) None → find key_cmp q (put_at e.0 v ++ puts es) ≡ effect (cond b (Some v) (find key_cmp q es)) None
    by true t Del rest = rest ∙ ap (λ o. effect o None) (gone t)
    by true t (Put x) rest = ap (λ b. cond b (Some x) (find key_cmp q (puts es))) t
    by false t Del rest = rest
    by false t (Put x) rest = ap (λ b. cond b (Some x) (find key_cmp q (puts es))) t ∙ rest

abbrev put_map : Delta → KeyMap Entry
put_map d = record { entries = puts d.entries; sorted = puts_sorted d.entries d.sorted }

left_entries : (d : Delta) → after_records empty (records_of d) ≡ put_map d
left_entries d = same_map _ _ (λ q. get-after_records empty (records_of d) q ∙ ap (λ o. effect o None) (last_of_own d q) ∙ sym (find_puts q d.entries d.sorted))

-- ---- those of a directory

abbrev is_of : DirId → Key → Bool
is_of dir key = is_same_dir key.parent dir

kept_puts : (dir : DirId) (es : List (Key × Value)) → filter (is_in dir) (puts es) ≡ puts (where_key key_cmp (is_of dir) es)
kept_puts dir [] = refl
kept_puts dir (e ∷ es) = by e.1 (is_of dir e.0) refl (kept_puts dir es)
  where
    by : (v : Value) (b : Bool) → is_of dir e.0 ≡ b → filter (is_in dir) (puts es) ≡ puts (where_key key_cmp (is_of dir) es)
        → filter (is_in dir) (put_at e.0 v ++ puts es) ≡ puts (cond b ((e.0, v) ∷ where_key key_cmp (is_of dir) es) (where_key key_cmp (is_of dir) es))
    by Del true t rest = rest
    by Del false t rest = rest
    by (Put x) true t rest = ap (λ b. cond b ((e.0, x) ∷ filter (is_in dir) (puts es)) (filter (is_in dir) (puts es))) t ∙ ap (λ l. (e.0, x) ∷ l) rest
    by (Put x) false t rest = ap (λ b. cond b ((e.0, x) ∷ filter (is_in dir) (puts es)) (filter (is_in dir) (puts es))) t ∙ rest

shown_puts : (es : List (Key × Value)) → map child_of (puts es) ≡ listed (map (λ (e : Key × Value). record { key = e.0; value = e.1 }) es)
shown_puts [] = refl
shown_puts (e ∷ es) = by e.1 (shown_puts es)
  where
    by : (v : Value) → map child_of (puts es) ≡ listed (map (λ (e : Key × Value). record { key = e.0; value = e.1 }) es)
        → map child_of (put_at e.0 v ++ puts es) ≡ shown e.0.name v ++ listed (map (λ (e : Key × Value). record { key = e.0; value = e.1 }) es)
    by Del rest = rest
    by (Put x) rest = ap (λ l. (e.0.name, x) ∷ l) rest

-- ---- the part between the two bounds

value_of_part : (p : Key → Bool) (q : Key) (rs : List Record) → last_value q (filter (λ (r : Record). p r.key) rs) ≡ cond (p q) (last_value q rs) None
value_of_part p q [] = by (p q)
  where
    by : (b : Bool) → ◌≡◌ {A = Option Value} None (cond b None None)
    by true = refl
    by false = refl
value_of_part p q (r ∷ rs) = by (p r.key) refl (eq_by_cmp key_cmp q r.key) refl (value_of_part p q rs)
  where
    nothing : (c : Bool) (o : Option Value) → or_else (cond c o None) None ≡ cond c (or_else o None) None
    nothing true o = refl
    nothing false o = refl

    by : (b : Bool) → p r.key ≡ b → (t : Bool) → eq_by_cmp key_cmp q r.key ≡ t → last_value q (filter (λ (r : Record). p r.key) rs) ≡ cond (p q) (last_value q rs) None
        → last_value q (cond b (r ∷ filter (λ (r : Record). p r.key) rs) (filter (λ (r : Record). p r.key) rs)) ≡ cond (p q) (or_else (last_value q rs) (cond t (Some r.value) None)) None
    by true e true t rest =
        let here : p q ≡ true = ap p (alike_keys q r.key t) ∙ e in
        (λ i. or_else (rest i) (cond (t i) (Some r.value) None)) ∙ ap (λ c. or_else (cond c (last_value q rs) None) (Some r.value)) here
        ∙ sym (ap (λ c. cond c (or_else (last_value q rs) (Some r.value)) None) here)
    by true e false t rest = (λ i. or_else (rest i) (cond (t i) (Some r.value) None)) ∙ nothing (p q) (last_value q rs)
    by false e true t rest =
        let here : p q ≡ false = ap p (alike_keys q r.key t) ∙ e in
        rest ∙ ap (λ c. cond c (last_value q rs) None) here ∙ sym (ap (λ c. cond c (or_else (last_value q rs) (Some r.value)) None) here)
    by false e false t rest = rest ∙ ap (λ o. cond (p q) o None) (sym (or_none (last_value q rs)))
      where
        or_none : (o : Option Value) → or_else o None ≡ o
        or_none None = refl
        or_none (Some v) = refl

kept_part : (p : Key → Bool) (rs : List Record) → kept p (delta rs) ≡ delta (filter (λ (r : Record). p r.key) rs)
kept_part p rs = same_map _ _ (λ q. get-kept p (delta rs) q ∙ ap (λ o. cond (p q) o None) (get-delta rs q) ∙ sym (get-delta (filter (λ (r : Record). p r.key) rs) q ∙ value_of_part p q rs))

below_end : (o p : Ordering) → p ≡ ordering_reverse o → is_lt o ≡ not (is_le p)
below_end Less p e = ap (λ x. not (is_le x)) (sym e)
below_end Equal p e = ap (λ x. not (is_le x)) (sym e)
below_end Greater p e = ap (λ x. not (is_le x)) (sym e)

-- the keys of a directory are those between its bounds
bounds : (dir : DirId) (key : Key) → IsId dir → IsKey key → is_within (Some (first_key dir)) (end_key dir) key ≡ is_of dir key
bounds dir key id valid = by (next_dir dir) ∙ in_span dir key id valid
  where
    by : (o : Option DirId) → is_within (Some (first_key dir)) (first_of o) key ≡ range_contains key_cmp (Included (first_key dir)) (end_of o) key
    by None = refl
    by (Some next) = ap (λ b. is_le (key_cmp (first_key dir) key) && b) (below_end (key_cmp key (first_key next)) (key_cmp (first_key next) key) (keys_total.antisymm (first_key next) key))

part_of_dir : (dir : DirId) (rs : List Record) → IsId dir → AllByRecursion IsRecord rs → filter (λ (r : Record). is_of dir r.key) rs ≡ part (Some (first_key dir)) (end_key dir) rs
part_of_dir dir [] id valid = refl
part_of_dir dir (r ∷ rs) id valid =
    ap (λ b. cond b (r ∷ filter (λ (r : Record). is_of dir r.key) rs) (filter (λ (r : Record). is_of dir r.key) rs)) (sym (bounds dir r.key id valid.0.key))
    ∙ ap (λ l. cond (is_within (Some (first_key dir)) (end_key dir) r.key) (r ∷ l) l) (part_of_dir dir rs id valid.1)

-- what the records between the bounds show is what the directory has
pub children_shown : (dir : DirId) (rs : List Record) → IsId dir → AllByRecursion IsRecord rs → listed (records_of (delta (part (Some (first_key dir)) (end_key dir) rs))) ≡ children (after_records empty rs) dir
children_shown dir rs id valid =
    ap (λ l. listed (records_of (delta l))) (sym (part_of_dir dir rs id valid))
    ∙ ap (λ d. listed (records_of d)) (sym (kept_part (is_of dir) rs))
    ∙ sym (shown_puts (where_key key_cmp (is_of dir) (delta rs).entries))
    ∙ ap (map child_of) (sym (kept_puts dir (delta rs).entries))
    ∙ ap (λ m. children m dir) (sym (left_entries (delta rs)) ∙ replay_as_delta empty rs)

-- ---- whether there is a child

abbrev Many : Bool → ℕ → Type 0
Many true n = 0 < n
Many false n = n ≡ 0

any_many : (dir : DirId) (es : List (Key × Entry)) → Many (list_any (is_in dir) es) (length (map child_of (filter (is_in dir) es)))
any_many dir [] = refl
any_many dir (e ∷ es) = by (is_in dir e) (any_many dir es)
  where
    by : (b : Bool) → Many (list_any (is_in dir) es) (length (map child_of (filter (is_in dir) es))) → Many (b || list_any (is_in dir) es) (length (map child_of (cond b (e ∷ filter (is_in dir) es) (filter (is_in dir) es))))
    by true rest = omega arith
    by false rest = rest

pub has_some : (dir : DirId) (m : Namespace) (b : Bool) → (b ≡ true ↔ (0 < length (children m dir))) → b ≡ has_child m dir
has_some dir m b both = by b (has_child m dir) both (any_many dir m.entries)
  where
    by : (b c : Bool) → (b ≡ true ↔ (0 < length (children m dir))) → Many c (length (children m dir)) → b ≡ c
    by true true both many = refl
    by false false both many = refl
    by true false both many = absurd (omega (arith, both.0 refl, many))
    by false true both many = absurd (cc (both.1 many))
