-- The laws of change sets and replays. All go by the last value that a list of records has for a key.
use Rattle.std.proofs.Common.{append_assoc, append-nil, ◌≡◌, Bool, true, false, cond, T, List, [], ◌∷◌, ◌++◌, ◌&&◌, refl, sym, ap, subst, ◌∙◌}
use Rattle.std.specs.Prelude.{Option, Some, None, fold, flat_map, map}
use Rattle.std.specs.Ordering.{eq_by_cmp, is_eq, is_lt}
use Rattle.std.specs.declared.cmp.Ordering.{Ordering}
use Rattle.std.specs.declared.cmp.Ordering.TheVariants.{Less, Equal, Greater}
use Rattle.std.specs.FinMap.Entries.{find, is_sorted, below_all}
use Rattle.dfs_record.specs.declared.Key.{Key}
use Rattle.dfs_record.specs.declared.Entry.{Entry}
use Rattle.dfs_record.specs.declared.Record.{Record}
use Rattle.dfs_record.specs.declared.Value.{Value}
use Rattle.dfs_record.specs.declared.Value.TheVariants.{Del, Put}
use Rattle.dfs_record.specs.Key.{key_cmp, keys_total}
use Rattle.dfs_record.specs.KeyMap.{empty, get}
use Rattle.dfs_record.specs.Delta.{Delta, with_record, delta, records_of, merged, or_else, last_value, HasLastValues, IsOwnRecords}
use Rattle.dfs_record.specs.Namespace.{Namespace, with_value, after_record, after_records, replay, MergedReplays}
use Rattle.dfs_record.specs.Records.{OwnRecordsRise, RisingAreOwn}
use Rattle.dfs_record.proofs.Maps.{get-insert, get-remove, same_map}

-- what a value makes of an entry
abbrev pub effect : Option Value → Option Entry → Option Entry
effect None e = e
effect (Some Del) e = None
effect (Some (Put x)) e = Some x

pub or_else-none : (o : Option Value) → or_else o None ≡ o
or_else-none None = refl
or_else-none (Some v) = refl

or_else-assoc : (a b c : Option Value) → or_else a (or_else b c) ≡ or_else (or_else a b) c
or_else-assoc None b c = refl
or_else-assoc (Some v) b c = refl

pub last_value-append : (q : Key) (rs ss : List Record) → last_value q (rs ++ ss) ≡ or_else (last_value q ss) (last_value q rs)
last_value-append q [] ss = sym (or_else-none (last_value q ss))
last_value-append q (r ∷ rs) ss =
    ap (λ o. or_else o (cond (eq_by_cmp key_cmp q r.key) (Some r.value) None)) (last_value-append q rs ss)
    ∙ sym (or_else-assoc (last_value q ss) (last_value q rs) (cond (eq_by_cmp key_cmp q r.key) (Some r.value) None))

or_else-test : (o p : Option Value) (b : Bool) (v : Value) → or_else o (cond b (Some v) p) ≡ or_else (or_else o (cond b (Some v) None)) p
or_else-test (Some w) p b v = refl
or_else-test None p true v = refl
or_else-test None p false v = refl

effect-test : (o : Option Value) (e : Option Entry) (b : Bool) (v : Value) → effect o (cond b (effect (Some v) e) e) ≡ effect (or_else o (cond b (Some v) None)) e
effect-test (Some w) e b v = one w
  where
    one : (w : Value) → effect (Some w) (cond b (effect (Some v) e) e) ≡ effect (Some w) e
    one Del = refl
    one (Put x) = refl
effect-test None e true v = refl
effect-test None e false v = refl

get-with_value : (m : Namespace) (k : Key) (v : Value) (q : Key) → get (with_value m k v) q ≡ cond (eq_by_cmp key_cmp q k) (effect (Some v) (get m q)) (get m q)
get-with_value m k Del q = get-remove m k q
get-with_value m k (Put x) q = get-insert m k x q

pub get-after_records : (m : Namespace) (rs : List Record) (q : Key) → get (after_records m rs) q ≡ effect (last_value q rs) (get m q)
get-after_records m [] q = refl
get-after_records m (r ∷ rs) q =
    get-after_records (after_record m r) rs q
    ∙ ap (effect (last_value q rs)) (get-with_value m r.key r.value q)
    ∙ effect-test (last_value q rs) (get m q) (eq_by_cmp key_cmp q r.key) r.value

pub get-with_records : (d : Delta) (rs : List Record) (q : Key) → get (fold with_record d rs) q ≡ or_else (last_value q rs) (get d q)
get-with_records d [] q = refl
get-with_records d (r ∷ rs) q =
    get-with_records (with_record d r) rs q
    ∙ ap (or_else (last_value q rs)) (get-insert d r.key r.value q)
    ∙ or_else-test (last_value q rs) (get d q) (eq_by_cmp key_cmp q r.key) r.value

-- a change set has the last value of each key
pub get-delta : HasLastValues
get-delta rs q = get-with_records empty rs q ∙ or_else-none (last_value q rs)

abbrev listed : List (Key × Value) → List Record
listed es = map (λ e. record { key = e.0; value = e.1 }) es

first : (a b : Bool) → T (a && b) → T a
first true b p = tt
first false b p = absurd p

second : (a b : Bool) → T (a && b) → T b
second true b p = p
second false b p = absurd p

apart : (a b : Ordering) → a ≡ b → T (is_eq a) → T (is_lt b) → ⊥
apart a Less e p l = subst (λ r. T (is_eq r)) e p
apart a Equal e p l = l
apart a Greater e p l = l

equal : (r : Ordering) → T (is_eq r) → r ≡ Equal
equal Less p = absurd p
equal Equal p = refl
equal Greater p = absurd p

-- a key below all of the entries is at none of them
none_above : (q k : Key) (es : List (Key × Value)) → T (eq_by_cmp key_cmp q k) → T (below_all key_cmp k es) → last_value q (listed es) ≡ None
none_above q k [] t b = refl
none_above q k (e ∷ es) t b =
    let rest = none_above q k es t (second _ _ b) in
    let same = keys_total.congr q k e.0 (equal _ t) in
    ap (λ o. or_else o (cond (eq_by_cmp key_cmp q e.0) (Some e.1) None)) rest
    ∙ by (eq_by_cmp key_cmp q e.0) (λ p. apart (key_cmp q e.0) (key_cmp k e.0) same p (first _ _ b))
  where
    by : (c : Bool) → (T c → ⊥) → cond c (Some e.1) None ≡ None
    by true f = absurd (f tt)
    by false f = refl

last_of_sorted : (q : Key) (es : List (Key × Value)) → T (is_sorted key_cmp es) → last_value q (listed es) ≡ find key_cmp q es
last_of_sorted q [] s = refl
last_of_sorted q (e ∷ es) s = by (eq_by_cmp key_cmp q e.0) (λ t. none_above q e.0 es t (first _ _ s)) (last_of_sorted q es (second _ _ s))
  where
    by : (c : Bool) → (T c → last_value q (listed es) ≡ None) → last_value q (listed es) ≡ find key_cmp q es
        → or_else (last_value q (listed es)) (cond c (Some e.1) None) ≡ cond c (Some e.1) (find key_cmp q es)
    by true none ih = ap (λ o. or_else o (Some e.1)) (none tt)
    by false none ih = or_else-none _ ∙ ih

pub last_of_own : (d : Delta) (q : Key) → last_value q (records_of d) ≡ get d q
last_of_own d q = last_of_sorted q d.entries d.sorted

pub delta-records_of : IsOwnRecords
delta-records_of d = same_map _ _ (λ q. get-delta (records_of d) q ∙ last_of_own d q)

paired : (es : List (Key × Value)) → map (λ (r : Record). (r.key, r.value)) (listed es) ≡ es
paired [] = refl
paired (e ∷ es) = ap (λ l. e ∷ l) (paired es)

relisted : (rs : List Record) → listed (map (λ (r : Record). (r.key, r.value)) rs) ≡ rs
relisted [] = refl
relisted (r ∷ rs) = ap (λ l. r ∷ l) (relisted rs)

pub rising_records : OwnRecordsRise
rising_records d = subst (λ es. T (is_sorted key_cmp es)) (sym (paired d.entries)) d.sorted

pub records_of-delta : RisingAreOwn
records_of-delta rs rise =
    let d : Delta = record { entries = map (λ (r : Record). (r.key, r.value)) rs; sorted = rise } in
    ap (λ l. records_of (delta l)) (sym (relisted rs)) ∙ ap records_of (delta-records_of d) ∙ relisted rs

-- records may be replayed as their change set
pub replay_as_delta : (m : Namespace) (rs : List Record) → after_records m (records_of (delta rs)) ≡ after_records m rs
replay_as_delta m rs = same_map _ _ (λ q.
    get-after_records m (records_of (delta rs)) q
    ∙ ap (λ o. effect o (get m q)) (last_of_own (delta rs) q ∙ get-delta rs q)
    ∙ sym (get-after_records m rs q))

pub after-append : (m : Namespace) (rs ss : List Record) → after_records m (rs ++ ss) ≡ after_records (after_records m rs) ss
after-append m [] ss = refl
after-append m (r ∷ rs) ss = after-append (after_record m r) rs ss

flat-append : (ds bs : List Delta) → flat_map records_of (ds ++ bs) ≡ flat_map records_of ds ++ flat_map records_of bs
flat-append [] bs = refl
flat-append (d ∷ ds) bs = ap (λ l. records_of d ++ l) (flat-append ds bs) ∙ sym (append_assoc (records_of d) (flat_map records_of ds) (flat_map records_of bs))

joined_lists : (s : List Delta) → flat_map (λ rs. rs) (map records_of s) ≡ flat_map records_of s
joined_lists [] = refl
joined_lists (d ∷ s) = ap (λ l. records_of d ++ l) (joined_lists s)

delta-merged : (s : List Delta) → delta (merged (map records_of s)) ≡ delta (flat_map records_of s)
delta-merged s = delta-records_of (delta (flat_map (λ rs. rs) (map records_of s))) ∙ ap delta (joined_lists s)

in_three : (m : Namespace) (a s b rs : List Record) → after_records m ((a ++ s ++ b) ++ rs) ≡ after_records (after_records (after_records m a) s) (b ++ rs)
in_three m a s b rs =
    ap (after_records m) (append_assoc (a ++ s) b rs)
    ∙ after-append m (a ++ s) (b ++ rs)
    ∙ ap (λ n. after_records n (b ++ rs)) (after-append m a s)

split_replay : (a s b : List Delta) (rs : List Record) → replay (a ++ s ++ b) rs ≡ after_records (after_records (after_records empty (flat_map records_of a)) (flat_map records_of s)) (flat_map records_of b ++ rs)
split_replay a s b rs =
    ap (λ l. after_records empty (l ++ rs)) (flat-append (a ++ s) b ∙ ap (λ l. l ++ flat_map records_of b) (flat-append a s))
    ∙ in_three empty (flat_map records_of a) (flat_map records_of s) (flat_map records_of b) rs

pub merged_replays : MergedReplays
merged_replays a s b rs =
    split_replay a s b rs
    ∙ ap (λ n. after_records n (flat_map records_of b ++ rs)) (sym (one (after_records empty (flat_map records_of a))))
    ∙ sym (split_replay a (delta (merged (map records_of s)) ∷ []) b rs)
  where
    one : (m : Namespace) → after_records m (flat_map records_of (delta (merged (map records_of s)) ∷ [])) ≡ after_records m (flat_map records_of s)
    one m = ap (after_records m) (append-nil (records_of (delta (merged (map records_of s))))) ∙ ap (λ d. after_records m (records_of d)) (delta-merged s) ∙ replay_as_delta m (flat_map records_of s)
