-- Merged lists that are cut, and the cuts joined again.
use Rattle.std.proofs.Common.{◌≡◌, ◌≤◌, ◌+◌, ℕ, suc, Bool, true, false, cond, ◌&&◌, not, if◌then◌else◌, List, [], ◌∷◌, ◌++◌, length, map, refl, sym, ap, subst, ◌∙◌, arith}
use Rattle.std.specs.Prelude.{Option, Some, None, fold, flat_map, filter, is_some}
use Rattle.std.specs.List.{AllByRecursion, sum_by}
use Rattle.std.specs.Cmp.{upto}
use Rattle.std.specs.Ordering.{eq_by_cmp, is_gt, is_le, is_lt, ordering_reverse}
use Rattle.std.specs.declared.cmp.Ordering.{Ordering}
use Rattle.std.specs.declared.cmp.Ordering.TheVariants.{Less, Equal, Greater}
use Rattle.std.specs.FinMap.Entries.{length-put, where_key}
use Rattle.std.proofs.lemmas.List.Elements.{filter-append}
use Rattle.dfs_record.specs.declared.Key.{Key}
use Rattle.dfs_record.specs.declared.Record.{Record}
use Rattle.dfs_record.specs.declared.Value.{Value}
use Rattle.dfs_record.specs.Delta.{Delta, delta, last_value, merged, or_else, records_of, with_record}
use Rattle.dfs_record.specs.Key.{key_cmp, keys_total}
use Rattle.dfs_record.specs.KeyMap.{get, len, empty}
use Rattle.dfs_record.specs.Records.{KeysRise}
use Rattle.dfs_record.proofs.Maps.{alike_keys, same_map}
use Rattle.dfs_record.proofs.Replays.{get-delta, rising_records}
use Rattle.dfs_block.proofs.Rising.{below_second, rise_behind}
use Rattle.dfs_cursor.specs.Ranges.{is_from, is_within, part, part_past}
use Rattle.dfs_fence.proofs.Orders.{at_most_below, less}
use Rattle.dfs_merge.specs.Laws.{get-kept}
use Rattle.dfs_merge.specs.Sources.{kept}
use Rattle.dfs_table.specs.Writer.{KeyPasses}
use Rattle.dfs_compact.specs.Parts.{merged_part}
use Rattle.dfs_compact.proofs.Ranges.{all_lengths, all_within}

-- ---- a part of a change set

value_of_part : (p : Key → Bool) (q : Key) (rs : List Record) → last_value q (filter (λ (r : Record). p r.key) rs) ≡ cond (p q) (last_value q rs) None
value_of_part p q [] = by (p q)
  where
    by : (b : Bool) → ◌≡◌ {A = Option Value} None (cond b None None)
    by true = refl
    by false = refl
value_of_part p q (r ∷ rs) = by (p r.key) refl (eq_by_cmp key_cmp q r.key) refl (value_of_part p q rs)
  where
    nothing : (c : Bool) (o : Option Value) → or_else (cond c o None) None ≡ cond c (or_else o None) None
    nothing true o = refl
    nothing false o = refl

    by : (b : Bool) → p r.key ≡ b → (t : Bool) → eq_by_cmp key_cmp q r.key ≡ t → last_value q (filter (λ (r : Record). p r.key) rs) ≡ cond (p q) (last_value q rs) None
        → last_value q (cond b (r ∷ filter (λ (r : Record). p r.key) rs) (filter (λ (r : Record). p r.key) rs)) ≡ cond (p q) (or_else (last_value q rs) (cond t (Some r.value) None)) None
    by true e true t rest =
        let here : p q ≡ true = ap p (alike_keys q r.key t) ∙ e in
        (λ i. or_else (rest i) (cond (t i) (Some r.value) None)) ∙ ap (λ c. or_else (cond c (last_value q rs) None) (Some r.value)) here
        ∙ sym (ap (λ c. cond c (or_else (last_value q rs) (Some r.value)) None) here)
    by true e false t rest = (λ i. or_else (rest i) (cond (t i) (Some r.value) None)) ∙ nothing (p q) (last_value q rs)
    by false e true t rest =
        let here : p q ≡ false = ap p (alike_keys q r.key t) ∙ e in
        rest ∙ ap (λ c. cond c (last_value q rs) None) here ∙ sym (ap (λ c. cond c (or_else (last_value q rs) (Some r.value)) None) here)
    by false e false t rest = rest ∙ ap (λ o. cond (p q) o None) (sym (or_none (last_value q rs)))
      where
        or_none : (o : Option Value) → or_else o None ≡ o
        or_none None = refl
        or_none (Some v) = refl

kept_part : (p : Key → Bool) (rs : List Record) → kept p (delta rs) ≡ delta (filter (λ (r : Record). p r.key) rs)
kept_part p rs = same_map _ _ (λ q. get-kept p (delta rs) q ∙ ap (λ o. cond (p q) o None) (get-delta rs q) ∙ sym (get-delta (filter (λ (r : Record). p r.key) rs) q ∙ value_of_part p q rs))

abbrev as_record : Key × Value → Record
as_record e = record { key = e.0; value = e.1 }

entries_part : (p : Key → Bool) (es : List (Key × Value)) → map (λ (e : Key × Value). record { key = e.0; value = e.1 }) (where_key key_cmp p es) ≡ filter (λ (r : Record). p r.key) (map (λ (e : Key × Value). record { key = e.0; value = e.1 }) es)
entries_part p [] = refl
entries_part p (e ∷ es) = by (p e.0) (entries_part p es)
  where
    by : (b : Bool) → map as_record (where_key key_cmp p es) ≡ filter (λ (r : Record). p r.key) (map as_record es)
        → map as_record (cond b (e ∷ where_key key_cmp p es) (where_key key_cmp p es)) ≡ cond b (as_record e ∷ filter (λ (r : Record). p r.key) (map as_record es)) (filter (λ (r : Record). p r.key) (map as_record es))
    by true h = ap (λ l. as_record e ∷ l) h
    by false h = h

-- what a part of the records leaves is that part of what they leave
delta_part : (low high : Option Key) (rs : List Record) → records_of (delta (part low high rs)) ≡ part low high (records_of (delta rs))
delta_part low high rs = ap records_of (sym (kept_part (is_within low high) rs)) ∙ entries_part (is_within low high) (delta rs).entries

-- ---- a part of merged lists

parts_flat : {X : Type 0} (low high : Option Key) (g : X → List Record) (xs : List X) → flat_map (λ (rs : List Record). rs) (map (λ x. part low high (g x)) xs) ≡ part low high (flat_map (λ (rs : List Record). rs) (map g xs))
parts_flat low high g [] = refl
parts_flat low high g (x ∷ xs) = ap (λ l. part low high (g x) ++ l) (parts_flat low high g xs) ∙ sym (filter-append (λ r. is_within low high r.key) (g x) (flat_map (λ (rs : List Record). rs) (map g xs)))

pub merged_cut : {X : Type 0} (low high : Option Key) (g : X → List Record) (xs : List X) → merged (map (λ x. part low high (g x)) xs) ≡ part low high (merged (map g xs))
merged_cut low high g xs = ap (λ l. records_of (delta l)) (parts_flat low high g xs) ∙ delta_part low high (flat_map (λ (rs : List Record). rs) (map g xs))

pub merged_part_is : (low high : Option Key) (ds : List Delta) → merged_part low high ds ≡ part low high (merged (map records_of ds))
merged_part_is low high ds = merged_cut low high records_of ds

pub merged_rises : (lists : List (List Record)) → KeysRise (merged lists)
merged_rises lists = rising_records (delta (flat_map (λ (rs : List Record). rs) lists))

-- lists with keys of a range have a merged list with keys of that range
kept_all : (low high : Option Key) (rs : List Record) → AllByRecursion (KeyPasses (is_within low high)) rs → part low high rs ≡ rs
kept_all low high [] all = refl
kept_all low high (r ∷ rs) all = by (is_within low high r.key) all.0 (kept_all low high rs all.1)
  where
    by : (b : Bool) → b ≡ true → part low high rs ≡ rs → (if b then r ∷ part low high rs else part low high rs) ≡ r ∷ rs
    by true e h = ap (λ l. r ∷ l) h
    by false e h = absurd cc

lists_kept : {S : Type 0} (low high : Option Key) (rest : S → List Record) (ss : List S) → AllByRecursion (λ s. AllByRecursion (KeyPasses (is_within low high)) (rest s)) ss → map (λ s. part low high (rest s)) ss ≡ map rest ss
lists_kept low high rest [] all = refl
lists_kept low high rest (s ∷ ss) all = λ i. kept_all low high (rest s) all.0 i ∷ lists_kept low high rest ss all.1 i

pub merged_within : {S : Type 0} (low high : Option Key) (rest : S → List Record) (ss : List S) → AllByRecursion (λ s. AllByRecursion (KeyPasses (is_within low high)) (rest s)) ss
    → AllByRecursion (KeyPasses (is_within low high)) (merged (map rest ss))
merged_within low high rest ss all =
    let same : merged (map rest ss) ≡ part low high (merged (map rest ss)) = ap merged (sym (lists_kept low high rest ss all)) ∙ merged_cut low high rest ss in
    subst (AllByRecursion (KeyPasses (is_within low high))) (sym same) (all_within low high (merged (map rest ss)))

-- merging makes nothing more
one_key_more : (d : Delta) (r : Record) → len (with_record d r) ≤ len d + 1
one_key_more d r = by (is_some (get d r.key)) (length-put key_cmp keys_total r.key r.value d.entries d.sorted)
  where
    by : (b : Bool) → length (with_record d r).entries ≡ cond b (length d.entries) (length d.entries + 1) → length (with_record d r).entries ≤ length d.entries + 1
    by true e = omega (arith, e)
    by false e = omega (arith, e)

after_few : (d : Delta) (rs : List Record) → len (fold with_record d rs) ≤ len d + length rs
after_few d [] = omega arith
after_few d (r ∷ rs) = omega (arith, after_few (with_record d r) rs, one_key_more d r)

entries_same : (es : List (Key × Value)) → length (map as_record es) ≡ length es
entries_same [] = refl
entries_same (e ∷ es) = ap suc (entries_same es)

pub merged_few : (lists : List (List Record)) → length (merged lists) ≤ length (flat_map (λ (rs : List Record). rs) lists)
merged_few lists =
    let all = flat_map (λ (rs : List Record). rs) lists in
    omega (arith, entries_same (delta all).entries, after_few empty all)

pub few_of : {S : Type 0} (rest : S → List Record) (ss : List S) (n : ℕ) → sum_by (λ s. length (rest s)) ss ≤ n → length (merged (map rest ss)) ≤ n
few_of rest ss n le = omega (arith, merged_few (map rest ss), all_lengths rest ss, le)

-- ---- the order of keys

le_not_gt : (r : Ordering) → is_le r ≡ true → is_gt r ≡ false
le_not_gt Less e = refl
le_not_gt Equal e = refl
le_not_gt Greater e = sym e

not_gt_le : (r : Ordering) → is_gt r ≡ false → is_le r ≡ true
not_gt_le Less e = refl
not_gt_le Equal e = refl
not_gt_le Greater e = sym e

le_chain : (x y z : Key) → is_le (key_cmp x y) ≡ true → is_le (key_cmp y z) ≡ true → is_le (key_cmp x z) ≡ true
le_chain x y z p q = not_gt_le _ (upto keys_total x y z (le_not_gt _ p) (le_not_gt _ q))

turned : (r : Ordering) → is_lt (ordering_reverse r) ≡ not (is_le r)
turned Less = refl
turned Equal = refl
turned Greater = refl

-- a key is below another exactly where the other is not up to it
pub below_not_le : (x y : Key) → is_lt (key_cmp x y) ≡ not (is_le (key_cmp y x))
below_not_le x y = ap is_lt (keys_total.antisymm x y) ∙ turned (key_cmp y x)

not_true : (b : Bool) → not b ≡ true → b ≡ false
not_true true e = absurd cc
not_true false e = refl

not_false : (b : Bool) → not b ≡ false → b ≡ true
not_false true e = refl
not_false false e = absurd cc

pub from_later : (low : Option Key) (k x : Key) → is_from low k ≡ true → is_le (key_cmp k x) ≡ true → is_from low x ≡ true
from_later None k x from le = refl
from_later (Some l) k x from le = le_chain l k x from le

-- ---- two parts that meet

-- from the key on nothing but higher keys comes
all_from : (k : Key) (r : Record) (rs : List Record) → KeysRise (r ∷ rs) → is_le (key_cmp k r.key) ≡ true → AllByRecursion (λ (s : Record). is_le (key_cmp k s.key) ≡ true) (r ∷ rs)
all_from k r [] rise le = (le, tt)
all_from k r (s ∷ rs) rise le = (le, all_from k s rs (rise_behind r (s ∷ rs) rise) (ap is_le (at_most_below k r.key s.key le (below_second r s rs rise))))

part_all : (low : Option Key) (k : Key) (rs : List Record) → is_from low k ≡ true → AllByRecursion (λ (s : Record). is_le (key_cmp k s.key) ≡ true) rs → part low None rs ≡ rs
part_all low k [] from all = refl
part_all low k (r ∷ rs) from all = by (is_from low r.key) (from_later low k r.key from all.0) (part_all low k rs from all.1)
  where
    by : (b : Bool) → b ≡ true → part low None rs ≡ rs → (if b && true then r ∷ part low None rs else part low None rs) ≡ r ∷ rs
    by true e h = ap (λ l. r ∷ l) h
    by false e h = absurd cc

le_self : (k : Key) → is_le (key_cmp k k) ≡ true
le_self k = by (is_lt (key_cmp k k)) refl
  where
    by : (b : Bool) → is_lt (key_cmp k k) ≡ b → is_le (key_cmp k k) ≡ true
    by true e = ap is_le (less (key_cmp k k) e)
    by false e = not_false _ (sym (below_not_le k k) ∙ e)

pub two_parts : (low : Option Key) (k : Key) (rs : List Record) → is_from low k ≡ true → KeysRise rs → part low (Some k) rs ++ part (Some k) None rs ≡ part low None rs
two_parts low k [] from rise = refl
two_parts low k (r ∷ rs) from rise = by (is_lt (key_cmp r.key k)) refl (two_parts low k rs from (rise_behind r rs rise))
  where
    below : (f u g : Bool) → u ≡ true → g ≡ false → part low (Some k) rs ++ part (Some k) None rs ≡ part low None rs
        → (if f && u then r ∷ part low (Some k) rs else part low (Some k) rs) ++ (if g && true then r ∷ part (Some k) None rs else part (Some k) None rs) ≡ (if f && true then r ∷ part low None rs else part low None rs)
    below true true false p q h = ap (λ l. r ∷ l) h
    below false true false p q h = h
    below f true true p q h = absurd cc
    below f false g p q h = absurd cc

    by : (b : Bool) → is_lt (key_cmp r.key k) ≡ b → part low (Some k) rs ++ part (Some k) None rs ≡ part low None rs → part low (Some k) (r ∷ rs) ++ part (Some k) None (r ∷ rs) ≡ part low None (r ∷ rs)
    by true e h =
        below (is_from low r.key) (is_lt (key_cmp r.key k)) (is_le (key_cmp k r.key)) e (not_true _ (sym (below_not_le r.key k) ∙ e)) h
    by false e h =
        let all = all_from k r rs rise (not_false _ (sym (below_not_le r.key k) ∙ e)) in
        ap (λ l. l ++ part (Some k) None (r ∷ rs)) (part_past low (Some k) r rs rise e)
        ∙ part_all (Some k) k (r ∷ rs) (le_self k) all
        ∙ sym (part_all low k (r ∷ rs) from all)
