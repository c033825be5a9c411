-- What operations make and leave: valid records, with the identities that a job may have.
use Rattle.std.proofs.Common.{◌≡◌, ◌≢◌, ◌⊎◌, inl, inr, ℕ, ◌+◌, ◌<◌, ◌≤◌, ◌^◌, nat_lt, Bool, true, false, cond, List, [], ◌∷◌, length, All, refl, sym, ap, subst, ◌∙◌, arith, add-zero}
use Rattle.std.specs.Prelude.{Option, Some, None, ◌&&◌}
use Rattle.std.specs.List.{list_all}
use Rattle.std.specs.Ordering.{is_eq, eq_by_cmp}
use Rattle.std.specs.declared.cmp.Ordering.{Ordering}
use Rattle.std.specs.declared.cmp.Ordering.TheVariants.{Less, Equal, Greater}
use Rattle.std.proofs.lemmas.Bool.Decides.{nat_tests}
use Rattle.std.proofs.lemmas.List.Elements.{All-cons, All-head, All-tail, All-nil, All-weaker}
use Rattle.dfs_record.specs.declared.DirId.{DirId}
use Rattle.dfs_record.specs.declared.Key.{Key}
use Rattle.dfs_record.specs.declared.Name.{Name}
use Rattle.dfs_record.specs.declared.Entry.{Entry}
use Rattle.dfs_record.specs.declared.Entry.TheVariants.{Dir, File}
use Rattle.dfs_record.specs.declared.Value.{Value}
use Rattle.dfs_record.specs.declared.Value.TheVariants.{Del, Put}
use Rattle.dfs_record.specs.declared.Record.{Record}
use Rattle.dfs_record.specs.Key.{root, key_cmp, keys_exact}
use Rattle.dfs_record.specs.KeyMap.{empty, get}
use Rattle.dfs_record.specs.Name.{is_name}
use Rattle.dfs_record.specs.Namespace.{Namespace, after_record, after_records}
use Rattle.dfs_record.specs.Record.{IsId, IsKey, IsEntry, IsRecord}
use Rattle.dfs_record.proofs.Maps.{get-insert, get-remove}
use Rattle.dfs_path.specs.Op.{IsOp}
use Rattle.dfs_path.specs.Path.{IsPath}
use Rattle.dfs_path.specs.declared.Op.{Op}
use Rattle.dfs_path.specs.declared.Op.TheVariants.{Mkdir, Create, Unlink, Rmdir, Rename, Setattr, Stat, List as ListOp}
use Rattle.dfs_space.specs.Children.{has_child}
use Rattle.dfs_walk.specs.declared.Walked.{Walked}
use Rattle.dfs_walk.specs.Walk.{Walk, no_entry, not_dir, at, passing_by, through, walk_from, walk}
use Rattle.dfs_ops.specs.declared.Ids.{Ids}
use Rattle.dfs_ops.specs.declared.OpReply.{OpReply}
use Rattle.dfs_ops.specs.declared.OpReply.TheVariants.{Done, Root, NoEnt, NotDir, IsDir, Exists, NotEmpty, Inside, Full}
use Rattle.dfs_ops.specs.Op.{Outcome, only, makes, put, del, where_it_ends, at_place, with_found, below_root, is_found, adds, unlinks_entry, rmdirs_entry, sets_attributes, with_attributes, lists, is_among, replaces, moves, is_root, next_id, outcome, AreIds, counted, ids_after}
use Rattle.dfs_ops.specs.Within.{IsIdWithin, IsEntryWithin, IsValueWithin, IsRecordWithin, IsWithin, MakesWithin, LeavesWithin, StaysWithin, LeavesEmpty, IsBounded, EachBounded}

-- Later numbers.

later_id : (ids : Ids) (n : ℕ) (used : Bool) (id : DirId) → IsIdWithin ids id → IsIdWithin (counted ids n used) id
later_id ids n used id within = record { job = within.job; counter = λ same. let bound = within.counter same in omega (arith, bound) }

later_value : (ids : Ids) (n : ℕ) (used : Bool) (value : Value) → IsValueWithin ids value → IsValueWithin (counted ids n used) value
later_value ids n used Del within = tt
later_value ids n used (Put (Dir id mode time)) within = later_id ids n used id within
later_value ids n used (Put (File mode time size reference)) within = tt

pub later : (ids : Ids) (n : ℕ) (used : Bool) (rec : Record) → IsRecordWithin ids rec → IsRecordWithin (counted ids n used) rec
later ids n used rec within = record { valid = within.valid; parent = later_id ids n used rec.key.parent within.parent; value = later_value ids n used rec.value within.value }

-- The empty namespace has none.
pub empty_within : (ids : Ids) → IsWithin ids empty
empty_within ids key entry is = absurd (cc is)

pub map_later : (ids : Ids) (n : ℕ) (used : Bool) (m : Namespace) → IsWithin ids m → IsWithin (counted ids n used) m
map_later ids n used m within key entry is = later ids n used (put key entry) (within key entry is)

-- Records that a namespace takes.

tied : (o : Ordering) → is_eq o ≡ true → o ≡ Equal
tied Less h = absurd (cc h)
tied Equal h = refl
tied Greater h = absurd (cc h)

-- what stands in the namespace is so
abbrev HasSuch : (Record → Type 0) → Namespace → Type 0
HasSuch P m = (key : Key) (entry : Entry) → get m key ≡ Some entry → P (put key entry)

module _ (P : Record → Type 0) where
  put_at : (m : Namespace) (key q : Key) (x e : Entry) (b : Bool) → eq_by_cmp key_cmp q key ≡ b → HasSuch P m → P (put key x) → cond b (Some x) (get m q) ≡ Some e → P (put q e)
  put_at m key q x e true same such new is =
      let one : q ≡ key = keys_exact q key (tied _ same) in
      let other : x ≡ e = cc is in
      subst (λ (p : Key × Entry). P (put p.0 p.1)) (λ i. (sym one i, other i)) new
  put_at m key q x e false same such new is = such q e is

  deleted_at : (m : Namespace) (q : Key) (e : Entry) (b : Bool) → HasSuch P m → cond b None (get m q) ≡ Some e → P (put q e)
  deleted_at m q e true such is = absurd (cc is)
  deleted_at m q e false such is = such q e is

  after_one : (m : Namespace) (key : Key) (value : Value) → HasSuch P m → P (record { key = key; value = value }) → HasSuch P (after_record m (record { key = key; value = value }))
  after_one m key Del such new q e is = deleted_at m q e _ such (sym (get-remove m key q) ∙ is)
  after_one m key (Put x) such new q e is = put_at m key q x e _ refl such new (sym (get-insert m key x q) ∙ is)

  stays_such : (m : Namespace) (rs : List Record) → HasSuch P m → All P rs → HasSuch P (after_records m rs)
  stays_such m [] such all = such
  stays_such m (r ∷ rs) such all = stays_such (after_record m r) rs (after_one m r.key r.value such (All-head P r rs all)) (All-tail P r rs all)

pub stays_within : StaysWithin
stays_within m ids rs within all = stays_such (IsRecordWithin ids) m rs within all

-- An outcome is an answer with no record, or what a list of records makes.

abbrev IsMade : Ids → (List Record → Bool → Type 0) → Outcome → Type 0
IsMade ids P o = ((answer : OpReply) × (o ≡ only answer)) ⊎ ((rs : List Record) × (used : Bool) × (o ≡ makes ids rs used) × P rs used)

module _ (ids : Ids) (P : List Record → Bool → Type 0) where
  answers : (answer : OpReply) → IsMade ids P (only answer)
  answers answer = inl (answer, refl)

  made_of : (rs : List Record) (used : Bool) → P rs used → IsMade ids P (makes ids rs used)
  made_of rs used p = inr (rs, used, refl, p)

  one_of : (b : Bool) (o p : Outcome) → IsMade ids P o → IsMade ids P p → IsMade ids P (cond b o p)
  one_of true o p x y = x
  one_of false o p x y = y

  found_made : (found : Option Entry) (f : Entry → Outcome) → ((e : Entry) → found ≡ Some e → IsMade ids P (f e)) → IsMade ids P (with_found found f)
  found_made None f each = answers NoEnt
  found_made (Some e) f each = each e refl

  place_made : (place : Option Key) (f : Key → Outcome) → ((key : Key) → place ≡ Some key → IsMade ids P (f key)) → IsMade ids P (at_place place f)
  place_made None f each = answers Root
  place_made (Some key) f each = each key refl

  walk_made : (end : Walk) (f : Walked → Outcome) → ((w : Walked) → end ≡ at w → IsMade ids P (f w)) → IsMade ids P (where_it_ends end f)
  walk_made no_entry f each = answers NoEnt
  walk_made not_dir f each = answers NotDir
  walk_made (at w) f each = each w refl

  replaces_made : (m : Namespace) (e : Entry) (found : Option Entry) (o : Outcome) → IsMade ids P o → IsMade ids P (replaces m e found o)
  replaces_made m e None o made = made
  replaces_made m (File mode time size reference) (Some (File mode' time' size' reference')) o made = made
  replaces_made m (File mode time size reference) (Some (Dir id mode' time')) o made = answers IsDir
  replaces_made m (Dir id mode time) (Some (File mode' time' size' reference')) o made = answers NotDir
  replaces_made m (Dir id mode time) (Some (Dir id' mode' time')) o made = one_of (has_child m id') _ _ (answers NotEmpty) made

-- What a walk finds.

record IsGood (ids : Ids) (found : Option Entry) (key : Key) : Type 0 where
  valid : IsKey key
  parent : IsIdWithin ids key.parent
  entry : (e : Entry) → found ≡ Some e → IsEntry e × IsEntryWithin ids e

end_place : Walk → Option Key
end_place no_entry = None
end_place not_dir = None
end_place (at w) = w.place

end_found : Walk → Option Entry
end_found no_entry = None
end_found not_dir = None
end_found (at w) = w.found

abbrev EndsWell : Ids → Walk → Type 0
EndsWell ids end = (key : Key) → end_place end ≡ Some key → IsGood ids (end_found end) key

head_of : (p q : Bool) → (p && q) ≡ true → p ≡ true
head_of true q h = refl
head_of false q h = h

tail_of : (p q : Bool) → (p && q) ≡ true → q ≡ true
tail_of true q h = h
tail_of false q h = absurd (cc h)

passed_well : (ids : Ids) (dir : DirId) (end : Walk) → EndsWell ids end → EndsWell ids (passing_by dir end)
unfolding end_place end_found
passed_well ids dir no_entry well = well
passed_well ids dir not_dir well = well
passed_well ids dir (at w) well = well

through_well : (ids : Ids) (dir : DirId) (found : Option Entry) (on : DirId → Walk) → ((e : Entry) → found ≡ Some e → IsEntry e × IsEntryWithin ids e)
    → ((id : DirId) → IsId id → IsIdWithin ids id → EndsWell ids (on id)) → EndsWell ids (through dir found on)
unfolding end_place end_found
through_well ids dir None on good each key is = absurd (cc is)
through_well ids dir (Some (File mode time size reference)) on good each key is = absurd (cc is)
through_well ids dir (Some (Dir id mode time)) on good each key is =
    let entry = good (Dir id mode time) refl in
    passed_well ids dir (on id) (each id entry.0.0 entry.1) key is

walk_well : (ids : Ids) (m : Namespace) → IsWithin ids m → (path : List Name) → list_all is_name path ≡ true → (dir : DirId) → IsId dir → IsIdWithin ids dir → EndsWell ids (walk_from m path dir)
unfolding end_place end_found
walk_well ids m within [] names dir id bound key is = absurd (cc is)
walk_well ids m within (name ∷ []) names dir id bound key is =
    let here : Key = record { parent = dir; name = name } in
    let same : here ≡ key = cc is in
    subst (IsGood ids (get m here)) same (record {
      valid = record { parent = id; name = head_of _ _ names };
      parent = bound;
      entry = λ e found. let there = within here e found in (there.valid.value, there.value);
    })
walk_well ids m within (name ∷ next ∷ path) names dir id bound key is =
    let here : Key = record { parent = dir; name = name } in
    through_well ids dir (get m here) (walk_from m (next ∷ path)) (λ e found. let there = within here e found in (there.valid.value, there.value))
    (walk_well ids m within (next ∷ path) (tail_of _ _ names)) key is

names_of : (path : List Name) → IsPath path → list_all is_name path ≡ true
names_of path valid = head_of _ _ (head_of _ _ valid)

root_within : (ids : Ids) → AreIds ids → IsIdWithin ids root
root_within ids are = record { job = omega arith; counter = λ same. let low = are.job in absurd (omega (arith, low, same)) }

-- a record of an operation: it stands in a directory that was there, and its entry may be the directory that was made
record IsNew (ids : Ids) (n : ℕ) (used : Bool) (rec : Record) : Type 0 where
  valid : IsRecord rec
  parent : IsIdWithin ids rec.key.parent
  value : IsValueWithin (counted ids n used) rec.value

module _ (m : Namespace) (ids : Ids) (op : Op) where
  record Given : Type 0 where
    are : AreIds ids
    valid : IsOp op
    within : IsWithin ids m

  -- one or two records that are valid, with such identities where the namespace is
  record Makes (rs : List Record) (used : Bool) : Type 0 where
    some : 1 ≤ length rs
    few : length rs ≤ 2
    valid : Given → All (IsNew ids (length rs) used) rs

  single : (rec : Record) (used : Bool) → (Given → IsNew ids 1 used rec) → IsMade ids Makes (makes ids (rec ∷ []) used)
  single rec used valid = made_of ids Makes (rec ∷ []) used (record {
    some = omega arith;
    few = omega arith;
    valid = λ given. All-cons (IsNew ids 1 used) rec [] (valid given) (All-nil (IsNew ids 1 used));
  })

  below_made : (path : List Name) (f : Walked → Key → Outcome) → (Given → IsPath path)
      → ((w : Walked) (key : Key) → (Given → IsGood ids w.found key) → IsMade ids Makes (f w key)) → IsMade ids Makes (below_root m path f)
  unfolding end_place end_found
  below_made path f valid each = walk_made ids Makes (walk m path) (λ w. at_place w.place (f w)) (λ w ends. place_made ids Makes w.place (f w) (λ key place.
      each w key (λ given.
      let well = walk_well ids m given.within path (names_of path (valid given)) root (omega arith, omega arith) (root_within ids given.are) in
      let here : end_place (walk m path) ≡ Some key = ap end_place ends ∙ place in
      subst (λ found. IsGood ids found key) (ap end_found ends) (well key here))))

  deletes : (key : Key) (found : Option Entry) → (Given → IsGood ids found key) → IsMade ids Makes (makes ids (del key ∷ []) false)
  deletes key found good = single (del key) false (λ given.
      record { valid = record { key = (good given).valid; value = tt }; parent = (good given).parent; value = tt })

  unlinks_made : (w : Walked) (key : Key) → (Given → IsGood ids w.found key) → (e : Entry) → IsMade ids Makes (unlinks_entry ids key e)
  unlinks_made w key good (Dir id mode time) = answers ids Makes IsDir
  unlinks_made w key good (File mode time size reference) = deletes key w.found good

  rmdirs_made : (w : Walked) (key : Key) → (Given → IsGood ids w.found key) → (e : Entry) → IsMade ids Makes (rmdirs_entry m ids key e)
  rmdirs_made w key good (File mode time size reference) = answers ids Makes NotDir
  rmdirs_made w key good (Dir id mode time) = one_of ids Makes (has_child m id) _ _ (answers ids Makes NotEmpty) (deletes key w.found good)

  lists_made : (e : Entry) → IsMade ids Makes (lists m e)
  lists_made (File mode time size reference) = answers ids Makes NotDir
  lists_made (Dir id mode time) = answers ids Makes _

  changed_good : (mode time : ℕ) (e : Entry) → mode ≤ 4095 → time < 2 ^ 64 → IsEntry e × IsEntryWithin ids e → IsEntry (with_attributes e mode time) × IsEntryWithin (counted ids 1 false) (with_attributes e mode time)
  changed_good mode time (Dir id mode' time') low high good = ((good.0.0, good.0.1, good.0.2, low, high), later_id ids 1 false id good.1)
  changed_good mode time (File mode' time' size reference) low high good = ((low, high, good.0.2, good.0.3), tt)

  sets_made : (mode time : ℕ) (w : Walked) (key : Key) → (Given → mode ≤ 4095) → (Given → time < 2 ^ 64) → (Given → IsGood ids w.found key) → IsMade ids Makes (sets_attributes ids mode time w key)
  sets_made mode time w key low high good = found_made ids Makes w.found _ (λ e found. single (put key (with_attributes e mode time)) false (λ given.
      let changed = changed_good mode time e (low given) (high given) ((good given).entry e found) in
      record { valid = record { key = (good given).valid; value = changed.0 }; parent = (good given).parent; value = changed.1 }))

  adds_made : (e : Entry) (used : Bool) (w : Walked) (key : Key) → (Given → IsEntry e) → (Given → IsEntryWithin (counted ids 1 used) e) → (Given → IsGood ids w.found key) → IsMade ids Makes (adds ids e used w key)
  adds_made e used w key valid within good = one_of ids Makes (is_found w.found) _ _ (answers ids Makes Exists) (single (put key e) used (λ given.
      record { valid = record { key = (good given).valid; value = valid given }; parent = (good given).parent; value = within given }))

  moves_made : (from : Key) (e : Entry) (w : Walked) (key : Key) → (Given → IsKey from) → (Given → IsIdWithin ids from.parent) → (Given → IsEntry e × IsEntryWithin ids e) → (Given → IsGood ids w.found key)
      → IsMade ids Makes (moves m ids from e w key)
  moves_made from e w key valid parent entry good =
      let P : Record → Type 0 = IsNew ids 2 false in
      one_of ids Makes (is_eq (key_cmp from key)) _ _ (answers ids Makes Done)
      (one_of ids Makes (is_among e w.passed) _ _ (answers ids Makes Inside)
      (replaces_made ids Makes m e w.found _ (made_of ids Makes (del from ∷ put key e ∷ []) false (record {
        some = omega arith;
        few = omega arith;
        valid = λ given. All-cons P (del from) (put key e ∷ [])
            (record { valid = record { key = valid given; value = tt }; parent = parent given; value = tt })
            (All-cons P (put key e) []
            (record { valid = record { key = (good given).valid; value = (entry given).0 }; parent = (good given).parent; value = later_value ids 2 false (Put e) (entry given).1 })
            (All-nil P));
      }))))

next_good : (ids : Ids) (mode time : ℕ) → AreIds ids → mode ≤ 4095 → time < 2 ^ 64 → IsEntry (Dir (next_id ids) mode time)
next_good ids mode time are low high =
    let fits = are.fits in let job = are.job in let counter = are.counter in let made = are.made in
    ((fits, omega (arith, counter, made)), job, omega arith, low, high)

outcome_made : (m : Namespace) (ids : Ids) (op : Op) → IsMade ids (Makes m ids op) (outcome m ids op)
outcome_made m ids (Mkdir path mode time) =
    let op : Op = Mkdir path mode time in
    below_made m ids op path _ (λ given. given.valid.0) (λ w key.
    adds_made m ids op (Dir (next_id ids) mode time) true w key (λ given. next_good ids mode time given.are given.valid.1 given.valid.2) (λ given. record { job = omega arith; counter = λ same. omega arith }))
outcome_made m ids (Create path mode time size reference) =
    let op : Op = Create path mode time size reference in
    below_made m ids op path _ (λ given. given.valid.0) (λ w key.
    adds_made m ids op (File mode time size reference) false w key (λ given. (given.valid.1, given.valid.2, given.valid.3, given.valid.4)) (λ given. tt))
outcome_made m ids (Unlink path) = below_made m ids (Unlink path) path _ (λ given. given.valid) (λ w key good. found_made ids _ w.found _ (λ e found. unlinks_made m ids (Unlink path) w key good e))
outcome_made m ids (Rmdir path) = below_made m ids (Rmdir path) path _ (λ given. given.valid) (λ w key good. found_made ids _ w.found _ (λ e found. rmdirs_made m ids (Rmdir path) w key good e))
outcome_made m ids (Rename from to) =
    let op : Op = Rename from to in
    one_of ids _ (is_root to) _ _ (answers ids _ Root) (below_made m ids op from _ (λ given. given.valid.0) (λ w key good. found_made ids _ w.found _ (λ e found.
    below_made m ids op to _ (λ given. given.valid.1) (λ v to_key. moves_made m ids op key e v to_key (λ given. (good given).valid) (λ given. (good given).parent) (λ given. (good given).entry e found)))))
outcome_made m ids (Setattr path mode time) =
    let op : Op = Setattr path mode time in
    below_made m ids op path _ (λ given. given.valid.0) (λ w key. sets_made m ids op mode time w key (λ given. given.valid.1) (λ given. given.valid.2))
outcome_made m ids (Stat path) = walk_made ids _ (walk m path) _ (λ w ends. found_made ids _ w.found _ (λ e found. answers ids _ _))
outcome_made m ids (ListOp path) = walk_made ids _ (walk m path) _ (λ w ends. found_made ids _ w.found _ (λ e found. lists_made m ids (ListOp path) e))

-- The laws.

new_of : (m : Namespace) (ids : Ids) (op : Op) (o : Outcome) → IsMade ids (Makes m ids op) o → Given m ids op → All (IsNew ids (length o.records) o.used) o.records
new_of m ids op o (inl answer) given = subst (λ (o : Outcome). All (IsNew ids (length o.records) o.used) o.records) (sym answer.1) (All-nil _)
new_of m ids op o (inr made) given =
    let Fine : Outcome → Type 0 = λ o. All (IsNew ids (length o.records) o.used) o.records in
    subst Fine (sym made.2) (elim (nat_lt 1048576 (ids.made + length made.0)) as (λ b. Fine (cond b (only Full) (record { answer = Done; records = made.0; used = made.1 }))) [
      | true ↦ All-nil _
      | false ↦ made.3.valid given
    ])

all_new : (m : Namespace) (ids : Ids) (op : Op) → AreIds ids → IsOp op → IsWithin ids m → All (IsNew ids (length (outcome m ids op).records) (outcome m ids op).used) (outcome m ids op).records
all_new m ids op are valid within = new_of m ids op _ (outcome_made m ids op) (record { are = are; valid = valid; within = within })

pub makes_within : MakesWithin
makes_within m ids op are valid within =
    let o = outcome m ids op in
    All-weaker (IsNew ids (length o.records) o.used) (IsRecordWithin (ids_after ids o)) (λ r new. record { valid = new.valid; parent = later_id ids (length o.records) o.used r.key.parent new.parent; value = new.value }) o.records
    (all_new m ids op are valid within)

pub leaves_within : LeavesWithin
leaves_within m ids op are valid within =
    let o = outcome m ids op in
    stays_within m (ids_after ids o) o.records (map_later ids (length o.records) o.used m within) (makes_within m ids op are valid within)

-- it stands in a directory that may be there
abbrev HasParentWithin : Ids → Record → Type 0
HasParentWithin ids rec = IsIdWithin ids rec.key.parent

-- the next directory is none of them
not_next : (ids : Ids) (id : DirId) → IsIdWithin ids id → id ≢ next_id ids
not_next ids id within same = let bound = within.counter (ap (λ (d : DirId). d.job) same) in absurd (omega (arith, bound, ap (λ (d : DirId). d.counter) same))

pub leaves_empty : LeavesEmpty
leaves_empty m ids op are valid within =
    let o = outcome m ids op in
    let new = All-weaker (IsNew ids (length o.records) o.used) (HasParentWithin ids) (λ r new. new.parent) o.records (all_new m ids op are valid within) in
    let below = stays_such (HasParentWithin ids) m o.records (λ key entry is. (within key entry is).parent) new in
    λ key entry is. not_next ids key.parent (below key entry is)

same_numbers : (ids : Ids) → counted ids 0 false ≡ ids
same_numbers ids = λ i. record { job = ids.job; counter = add-zero ids.counter i; made = add-zero ids.made i }

answered : (ids : Ids) (answer : OpReply) → IsBounded ids (only answer)
answered ids answer = record {
  refused = λ other. (refl, same_numbers ids);
  few = omega arith;
  again = λ are. subst AreIds (sym (same_numbers ids)) are;
}

made_bounded : (m : Namespace) (ids : Ids) (op : Op) (rs : List Record) (used b : Bool) → nat_lt 1048576 (ids.made + length rs) ≡ b → Makes m ids op rs used → IsBounded ids (cond b (only Full) (record { answer = Done; records = rs; used = used }))
made_bounded m ids op rs used true over makes = answered ids Full
made_bounded m ids op rs used false over makes = record {
  refused = λ other. absurd (other refl);
  few = makes.few;
  again = λ are.
      let counter = are.counter in let some = makes.some in
      record {
        job = are.job;
        fits = are.fits;
        counter = elim used as (λ u. ids.counter + cond u 1 0 ≤ ids.made + length rs) [ true ↦ omega (arith, counter, some) | false ↦ omega (arith, counter) ];
        made = grind (arith, nat_tests);
      };
}

bounded_of : (m : Namespace) (ids : Ids) (op : Op) (o : Outcome) → IsMade ids (Makes m ids op) o → IsBounded ids o
bounded_of m ids op o (inl answer) = subst (IsBounded ids) (sym answer.1) (answered ids answer.0)
bounded_of m ids op o (inr made) = subst (IsBounded ids) (sym made.2) (made_bounded m ids op made.0 made.1 _ refl made.3)

pub each_bounded : EachBounded
each_bounded m ids op = bounded_of m ids op _ (outcome_made m ids op)
