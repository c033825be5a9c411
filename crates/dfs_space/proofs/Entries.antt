-- The entries of an ordered map, seen as the finite map.
use Rattle.std.proofs.Common.{◌≡◌, Bool, true, false, not, cond, T, List, [], ◌∷◌, All, Bor, Result, Ok, Err, IfOk, map, refl, sym, ap, subst, ◌∙◌}
use Rattle.std.specs.Prelude.{Option, Some, None, is_some, filter, ◌||◌, ◌&&◌}
use Rattle.std.specs.List.{list_any, AllByRecursion}
use Rattle.std.specs.List.Sorted.{IsStrictlySortedBy}
use Rattle.std.specs.declared.cmp.Ordering.{Ordering}
use Rattle.std.specs.declared.cmp.Ordering.TheVariants.{Less}
use Rattle.std.specs.declared.ops.Bound.{Bound}
use Rattle.std.specs.declared.ops.Bound.TheVariants.{Included}
use Rattle.std.specs.Ordering.{is_lt}
use Rattle.std.specs.BTreeMap.{is_at}
use Rattle.std.specs.BTreeMap.Range.{entries_between}
use Rattle.std.specs.Map.{lookup, keys_of}
use Rattle.std.specs.Map.Iter.{TakesFirst, deref_pair}
use Rattle.std.specs.Cmp.{eq_by_cmp_equiv}
use Rattle.std.specs.FinMap.Entries.{find, below_all, is_sorted}
use Rattle.dfs_record.specs.declared.DirId.{DirId}
use Rattle.dfs_record.specs.declared.Key.{Key}
use Rattle.dfs_record.specs.declared.Name.{Name}
use Rattle.dfs_record.specs.declared.NoMemory.{NoMemory}
use Rattle.dfs_record.specs.declared.Entry.{Entry}
use Rattle.dfs_record.specs.Key.{key_cmp, keys_total}
use Rattle.dfs_record.specs.Record.{IsId}
use Rattle.dfs_record.specs.KeyMap.{KeyMap, get, insert, remove, from_entries}
use Rattle.dfs_record.proofs.Maps.{get-insert, get-remove, get-from_entries, same_map}
use Rattle.dfs_space.specs.Children.{is_in, has_child, child_of, children}
use Rattle.dfs_space.specs.PlainSpace.{IsStored}
use Rattle.dfs_space.specs.Span.{first_key, next_dir, end_of}
use Rattle.dfs_space.proofs.Spans.{span_is}

both : (a b : Bool) → T a → T b → T (a && b)
both true b p q = q
both false b p q = p

abbrev is_nil : List (Key × Entry) → Bool
is_nil [] = true
is_nil (e ∷ es) = false

abbrev entry_at : List (Key × Entry) → Key → Option Entry
entry_at es q = lookup (is_at (key_cmp q)) es

find_entry : (es : List (Key × Entry)) (q : Key) → find key_cmp q es ≡ entry_at es q
find_entry [] q = refl
find_entry (e ∷ es) q = ap (cond (is_at (key_cmp q) e.0) (Some e.1)) (find_entry es q)

pub get_entry : (es : List (Key × Entry)) (q : Key) → get (from_entries es) q ≡ entry_at es q
get_entry es q = get-from_entries es q ∙ find_entry es q

pub one_put : (es fs : List (Key × Entry)) (k : Key) (x : Entry) → ((q : Key) → entry_at fs q ≡ cond (is_at (key_cmp k) q) (Some x) (entry_at es q)) → from_entries fs ≡ insert (from_entries es) k x
one_put es fs k x h = same_map _ _ (λ q.
    get_entry fs q ∙ h q ∙ ap (λ b. cond b (Some x) (entry_at es q)) ((eq_by_cmp_equiv keys_total).symm k q)
    ∙ sym (get-insert (from_entries es) k x q ∙ ap (cond (is_at (key_cmp q) k) (Some x)) (get_entry es q)))

pub one_deleted : (es fs : List (Key × Entry)) (k : Key) → ((q : Key) → entry_at fs q ≡ cond (is_at (key_cmp k) q) None (entry_at es q)) → from_entries fs ≡ remove (from_entries es) k
one_deleted es fs k h = same_map _ _ (λ q.
    get_entry fs q ∙ h q ∙ ap (λ b. cond b None (entry_at es q)) ((eq_by_cmp_equiv keys_total).symm k q)
    ∙ sym (get-remove (from_entries es) k q ∙ ap (cond (is_at (key_cmp q) k) None) (get_entry es q)))

-- Entries in order are the map's own.

below_rest : (k : Key) (es : List (Key × Entry)) → AllByRecursion (λ y. key_cmp k y ≡ Less) (keys_of es) → T (below_all key_cmp k es)
below_rest k [] h = tt
below_rest k (e ∷ es) h = both _ _ (let P : Ordering → Type 0 = λ o. T (is_lt o) in subst P (sym h.0) tt) (below_rest k es h.1)

rising : (es : List (Key × Entry)) → IsStrictlySortedBy key_cmp (keys_of es) → T (is_sorted key_cmp es)
unfolding IsStrictlySortedBy
rising [] h = tt
rising (e ∷ es) h = both _ _ (below_rest e.0 es h.0) (rising es h.1)

own_entries : (es : List (Key × Entry)) → IsStrictlySortedBy key_cmp (keys_of es) → (from_entries es).entries ≡ es
own_entries es h =
    let m : KeyMap Entry = record { entries = es; sorted = rising es h } in
    ap (λ n. n.entries) (same_map (from_entries es) m (λ q. get-from_entries es q))

-- what a range of a directory's keys has
pub range_is : (dir : DirId) (m : KeyMap Entry) (es range : List (Key × Entry)) (span : Bound Key × Bound Key) → IsId dir → All IsStored es → IsStrictlySortedBy key_cmp (keys_of es)
    → from_entries es ≡ m → ◌≡◌ {A = Bound Key × Bound Key} span (Included (first_key dir), end_of (next_dir dir)) → range ≡ entries_between key_cmp span.0 span.1 es
    → range ≡ filter (is_in dir) m.entries
range_is dir m es range span id all ordered view is between =
    between
    ∙ ap (λ (s : Bound Key × Bound Key). entries_between key_cmp s.0 s.1 es) is
    ∙ span_is dir es id all
    ∙ ap (filter (is_in dir)) (sym (own_entries es ordered) ∙ ap (λ n. n.entries) view)

any_kept : (p : Key × Entry → Bool) (es : List (Key × Entry)) → list_any p es ≡ not (is_nil (filter p es))
any_kept p [] = refl
any_kept p (e ∷ es) = elim (p e) as (λ b. (b || list_any p es) ≡ not (is_nil (cond b (e ∷ filter p es) (filter p es)))) [ true ↦ refl | false ↦ any_kept p es ]

-- what a first call of the iterator says
pub any_first : (dir : DirId) (m : KeyMap Entry) (range rest : List (Key × Entry)) (first : Option (Bor Key × Bor Entry)) → range ≡ filter (is_in dir) m.entries
    → TakesFirst deref_pair range first rest → is_some first ≡ has_child m dir
any_first dir m range rest None is none = ap (λ es. not (is_nil es)) (sym none.0 ∙ is) ∙ sym (any_kept (is_in dir) m.entries)
any_first dir m range rest (Some e) is some = ap (λ es. not (is_nil es)) (sym some ∙ is) ∙ sym (any_kept (is_in dir) m.entries)

pub all_listed : (dir : DirId) (m : KeyMap Entry) (range : List (Key × Entry)) (answer : Result (List (Name × Entry)) NoMemory) → range ≡ filter (is_in dir) m.entries
    → IfOk answer (λ listing. listing ≡ map child_of range) → IfOk answer (λ listing. listing ≡ children m dir)
all_listed dir m range (Ok listing) is listed = listed ∙ ap (map child_of) is
all_listed dir m range (Err e) is listed = tt
