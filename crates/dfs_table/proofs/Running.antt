-- The blocks of a run that meet a range, and what a cursor has of them.
use Rattle.std.proofs.Common.{◌≡◌, ◌≤◌, ◌<◌, ◌+◌, ◌-◌, ℕ, zero, suc, Bool, true, false, ◌&&◌, not, if◌then◌else◌, List, [], ◌∷◌, ◌++◌, length, take, drop, map, refl, sym, ap, subst, ◌∙◌, arith, length-append, take_all}
use Rattle.std.specs.Prelude.{Option, Some, None, slice_get, filter}
use Rattle.std.specs.List.{AllByRecursion}
use Rattle.std.specs.Ordering.{is_lt}
use Rattle.std.proofs.lemmas.List.{drop_at, take_at, map-append}
use Rattle.std.proofs.lemmas.List.Elements.{filter-append}
use Rattle.std.proofs.lemmas.Option.{get_or_from_slice_get, same_Some, slice_get_within}
use Rattle.dfs_record.specs.declared.Key.{Key}
use Rattle.dfs_record.specs.declared.Record.{Record}
use Rattle.dfs_record.specs.declared.RecordRef.{RecordRef}
use Rattle.dfs_record.specs.Key.{key_cmp}
use Rattle.dfs_record.specs.Lend.{record_of}
use Rattle.dfs_record.specs.Records.{KeysRise, IsBelow}
use Rattle.dfs_block.proofs.Rising.{below_second, rise_behind}
use Rattle.dfs_fence.specs.declared.fence.Fence.{Fence}
use Rattle.dfs_fence.specs.Index.{AreApart, AreFences, IsFence, last_end}
use Rattle.dfs_fence.specs.Reading.{is_above}
use Rattle.dfs_fence.specs.Ranges.{AreThoseThatMeet, has_room, is_below, is_from, meets}
use Rattle.dfs_fence.proofs.Apart.{last_is, no_last}
use Rattle.dfs_fence.proofs.Orders.{at_most_below, below_at_most, below_below, less}
use Rattle.dfs_table.specs.declared.table.Table.{Table}
use Rattle.dfs_table.specs.RunRecords.{BeginsIn, IsFirstTable, IsTakenOff, Reaches, blocks_from, blocks_left, blocks_of, counted, records_in, records_meeting, rest_of, rising_from, run_blocks, up_to}
use Rattle.dfs_table.specs.Starts.{starts_from}
use Rattle.dfs_table.specs.Stored.{IsBlockOf, IsTableOf, block_at, blocks_by, records_at, records_by}
use Rattle.dfs_table.specs.Tables.{AreTables, all_fences}
use Rattle.dfs_table.specs.Spans.{ends_below}
use Rattle.dfs_table.proofs.Finding.{block_len, each_at}
use Rattle.dfs_table.proofs.Searching.{behind, end_below, ends_here}
use Rattle.dfs_table.proofs.Rising.{all_blocks, blocks_rise}
use Rattle.dfs_table.proofs.Stays.{all_append, all_weaker}

-- ---- records whose keys rise

pub rising_same : (r : Record) (rs : List Record) → KeysRise (r ∷ rs) → rising_from r.key rs ≡ rs
rising_same r [] rise = refl
rising_same r (s ∷ rs) rise =
    ap (λ b. if b then s ∷ rising_from s.key rs else []) (ap is_lt (below_second r s rs rise)) ∙ ap (λ l. s ∷ l) (rising_same s rs (rise_behind r (s ∷ rs) rise))

-- ---- the blocks of a table

abbrev pair : List ℕ → Fence → Fence × List ℕ
pair file f = (f, block_at file f)

starts_at_least : (fs : List Fence) (place i start : ℕ) → slice_get (starts_from place fs) i ≡ Some start → place ≤ start
starts_at_least [] place i start at = absurd cc
starts_at_least (f ∷ fs) place zero start at = omega (arith, same_Some place start at)
starts_at_least (f ∷ fs) place (suc i) start at = omega (arith, starts_at_least fs (place + f.len) i start at)

-- the bytes behind so many blocks are those of the others
pub bytes_behind : (file : List ℕ) (fs : List Fence) (place i start : ℕ) → AllByRecursion (IsBlockOf file) fs → slice_get (starts_from place fs) i ≡ Some (place + start) → drop start (blocks_by file fs) ≡ blocks_by file (drop i fs)
bytes_behind file [] place i start each at = absurd cc
bytes_behind file (f ∷ fs) place zero start each at = let none : start ≡ 0 = omega (arith, same_Some place (place + start) at) in ap (λ n. drop n (blocks_by file (f ∷ fs))) none
bytes_behind file (f ∷ fs) place (suc i) start each at =
    let len = block_len file f each.0.inside in
    let more : f.len ≤ start = omega (arith, starts_at_least fs (place + f.len) i (place + start) at) in
    let there : slice_get (starts_from (place + f.len) fs) i ≡ Some (place + f.len + (start - f.len)) = subst (λ n. slice_get (starts_from (place + f.len) fs) i ≡ Some n) (omega (arith, more)) at in
    behind_one (block_at file f) (blocks_by file fs) start f.len len more ∙ bytes_behind file fs (place + f.len) i (start - f.len) each.1 there
  where
    behind_one : (xs ys : List ℕ) (n len : ℕ) → length xs ≡ len → len ≤ n → drop n (xs ++ ys) ≡ drop (n - len) ys
    behind_one [] ys n len e le = let same : n ≡ n - len = omega (arith, e) in ap (λ k. drop k ys) same
    behind_one (x ∷ xs) ys zero len e le = absurd (omega (arith, e, le))
    behind_one (x ∷ xs) ys (suc n) zero e le = absurd (omega (arith, e))
    behind_one (x ∷ xs) ys (suc n) (suc len) e le = let same : n - len ≡ suc n - suc len = omega arith in behind_one xs ys n len (omega (arith, e)) (omega (arith, le)) ∙ ap (λ k. drop k ys) same

pub blocks_are : (file : List ℕ) (fs : List Fence) → AllByRecursion (IsBlockOf file) fs → blocks_of (blocks_by file fs) fs ≡ map (pair file) fs
blocks_are file [] each = refl
blocks_are file (f ∷ fs) each =
    let len = block_len file f each.0.inside in
    ap (λ l. (f, l) ∷ blocks_of (drop f.len (block_at file f ++ blocks_by file fs)) fs) (take_at (block_at file f) (blocks_by file fs) f.len len)
    ∙ ap (λ l. pair file f ∷ blocks_of l fs) (drop_at (block_at file f) (blocks_by file fs) f.len len)
    ∙ ap (λ l. pair file f ∷ l) (blocks_are file fs each.1)

pub run_blocks_are : (file : List ℕ) (ts : List Table) → AllByRecursion (IsTableOf file) ts → run_blocks ts ≡ map (pair file) (all_fences ts)
run_blocks_are file [] each = refl
run_blocks_are file (t ∷ ts) each =
    ap (λ l. blocks_of l t.fences ++ run_blocks ts) each.0.blocks
    ∙ ap (λ l. l ++ run_blocks ts) (blocks_are file t.fences each.0.each)
    ∙ ap (λ l. map (pair file) t.fences ++ l) (run_blocks_are file ts each.1)
    ∙ sym (map-append (pair file) t.fences (all_fences ts))

-- ---- those that meet a range

and_three : (a b c : Bool) → a ≡ true → c ≡ true → (a && b && c) ≡ b
and_three true true true p q = refl
and_three true false true p q = refl
and_three true b false p q = absurd cc
and_three false b c p q = absurd cc

and_second : (a b c : Bool) → b ≡ false → (a && b && c) ≡ false
and_second true false c p = refl
and_second false false c p = refl
and_second a true c p = absurd cc

and_third : (a b c : Bool) → c ≡ false → (a && b && c) ≡ false
and_third true true false p = refl
and_third true false false p = refl
and_third false true false p = refl
and_third false false false p = refl
and_third a b true p = absurd cc

-- none of the first ones meets
skip_fences : (low high : Option Key) (fs : List Fence) (n : ℕ) → ((i : ℕ) (f : Fence) → slice_get fs i ≡ Some f → i < n → is_from low f.last ≡ false) → filter (meets low high) fs ≡ filter (meets low high) (drop n fs)
skip_fences low high fs zero none = refl
skip_fences low high [] (suc n) none = refl
skip_fences low high (f ∷ fs) (suc n) none =
    ap (λ b. if b then f ∷ filter (meets low high) fs else filter (meets low high) fs) (and_third (has_room low high) (is_below f.first high) (is_from low f.last) (none 0 f refl (omega arith)))
    ∙ skip_fences low high fs n (λ i g at lt. none (suc i) g at (omega (arith, lt)))

skip_tables : (low high : Option Key) (ts : List Table) (n : ℕ) → ((i : ℕ) (t : Table) → slice_get ts i ≡ Some t → i < n → filter (meets low high) t.fences ≡ []) → filter (meets low high) (all_fences ts) ≡ filter (meets low high) (all_fences (drop n ts))
skip_tables low high ts zero none = refl
skip_tables low high [] (suc n) none = refl
skip_tables low high (t ∷ ts) (suc n) none =
    filter-append (meets low high) t.fences (all_fences ts)
    ∙ ap (λ l. l ++ filter (meets low high) (all_fences ts)) (none 0 t refl (omega arith))
    ∙ skip_tables low high ts n (λ i u at lt. none (suc i) u at (omega (arith, lt)))

-- a key that is below the last one of fences is below them all
begins_below : (low : Key) (f : Fence) (fs : List Fence) (last : Key) → AllByRecursion IsFence (f ∷ fs) → AreApart (f ∷ fs) → last_end (f ∷ fs) ≡ Some last → IsBelow last low → IsBelow f.last low
begins_below low f [] last each apart ends lt = subst (λ k. IsBelow k low) (sym (same_Some f.last last ends)) lt
begins_below low f (g ∷ fs) last each apart ends lt =
    below_below f.last g.first low apart.0 (at_most_below g.first g.last low each.1.0.order (begins_below low g fs last each.1 apart.1 ends lt))

one : (low : Key) (high : Option Key) (f : Fence) (fs : List Fence) → IsBelow f.last low → filter (meets (Some low) high) (f ∷ fs) ≡ filter (meets (Some low) high) fs
one low high f fs lt =
    let out : is_from (Some low) f.last ≡ false = ap (λ o. not (is_lt o)) lt in
    ap (λ b. if b then f ∷ filter (meets (Some low) high) fs else filter (meets (Some low) high) fs) (and_third (has_room (Some low) high) (is_below f.first high) (is_from (Some low) f.last) out)

-- fences that end below the low end
ends_none : (low : Key) (high : Option Key) (fs : List Fence) (last : Key) → AllByRecursion IsFence fs → AreApart fs → last_end fs ≡ Some last → IsBelow last low → filter (meets (Some low) high) fs ≡ []
ends_none low high [] last each apart ends lt = refl
ends_none low high (f ∷ []) last each apart ends lt = one low high f [] (begins_below low f [] last each apart ends lt)
ends_none low high (f ∷ g ∷ fs) last each apart ends lt = one low high f (g ∷ fs) (begins_below low f (g ∷ fs) last each apart ends lt) ∙ ends_none low high (g ∷ fs) last each.1 apart.1 ends lt

from_later : (low : Option Key) (a b : Key) → is_from low a ≡ true → IsBelow a b → is_from low b ≡ true
from_later None a b from lt = refl
from_later (Some low) a b from lt = by (is_lt (key_cmp b low)) refl
  where
    by : (c : Bool) → is_lt (key_cmp b low) ≡ c → not c ≡ true
    by true e = absurd (cc (sym from ∙ ap (λ o. not (is_lt o)) (below_below a b low lt (less (key_cmp b low) e))))
    by false e = refl

from_on : (low : Option Key) (f : Fence) (fs : List Fence) → AllByRecursion IsFence (f ∷ fs) → AreApart (f ∷ fs) → is_from low f.last ≡ true → AllByRecursion (λ (g : Fence). is_from low g.last ≡ true) (f ∷ fs)
from_on low f [] each apart from = (from, tt)
from_on low f (g ∷ fs) each apart from = (from, from_on low g fs each.1 apart.1 (from_later low f.last g.last from (below_at_most f.last g.first g.last apart.0 each.1.0.order)))

above_later : (high : Option Key) (a b : Key) → is_below a high ≡ false → IsBelow a b → is_below b high ≡ false
above_later None a b above lt = absurd cc
above_later (Some high) a b above lt = by (is_lt (key_cmp b high)) refl
  where
    by : (c : Bool) → is_lt (key_cmp b high) ≡ c → c ≡ false
    by true e = absurd (cc (sym above ∙ ap is_lt (below_below a b high lt (less (key_cmp b high) e))))
    by false e = refl

above_one : (low high : Option Key) (f : Fence) (fs : List Fence) → is_below f.first high ≡ false → filter (meets low high) (f ∷ fs) ≡ filter (meets low high) fs
above_one low high f fs above =
    ap (λ b. if b then f ∷ filter (meets low high) fs else filter (meets low high) fs) (and_second (has_room low high) (is_below f.first high) (is_from low f.last) above)

-- from the first that does not begin below the high end on
above_none : (low high : Option Key) (f : Fence) (fs : List Fence) → AllByRecursion IsFence (f ∷ fs) → AreApart (f ∷ fs) → is_below f.first high ≡ false → filter (meets low high) (f ∷ fs) ≡ []
above_none low high f [] each apart above = above_one low high f [] above
above_none low high f (g ∷ fs) each apart above =
    above_one low high f (g ∷ fs) above ∙ above_none low high g fs each.1 apart.1 (above_later high f.first g.first above (at_most_below f.first f.last g.first each.0.order apart.0))

apart_behind : (f : Fence) (fs : List Fence) → AreApart (f ∷ fs) → AreApart fs
apart_behind f [] apart = tt
apart_behind f (g ∷ fs) apart = apart.1

-- of blocks that do not end below the low end, those up to the high end are those that meet
meeting : (file : List ℕ) (low high : Option Key) (fs : List Fence) → has_room low high ≡ true → AllByRecursion IsFence fs → AreApart fs → AllByRecursion (λ (f : Fence). is_from low f.last ≡ true) fs
    → records_in (map counted (up_to high (map (pair file) fs))) ≡ records_by file (filter (meets low high) fs)
meeting file low high [] room each apart from = refl
meeting file low high (f ∷ fs) room each apart from = by (is_below f.first high) refl (meeting file low high fs room each.1 (apart_behind f fs apart) from.1)
  where
    by : (b : Bool) → is_below f.first high ≡ b → records_in (map counted (up_to high (map (pair file) fs))) ≡ records_by file (filter (meets low high) fs) → records_in (map counted (if b then pair file f ∷ up_to high (map (pair file) fs) else [])) ≡ records_by file (filter (meets low high) (f ∷ fs))
    by true e behind =
        let kept : filter (meets low high) (f ∷ fs) ≡ f ∷ filter (meets low high) fs =
        ap (λ b. if b then f ∷ filter (meets low high) fs else filter (meets low high) fs) (and_three (has_room low high) (is_below f.first high) (is_from low f.last) room from.0 ∙ e) in
        ap (λ l. records_at file f ++ l) behind ∙ ap (records_by file) (sym kept)
    by false e behind = ap (records_by file) (sym (above_none low high f fs each apart e))

-- ---- where a cursor begins

all_drop : {A : Type 0} (P : A → Type 0) (n : ℕ) (xs : List A) → AllByRecursion P xs → AllByRecursion P (drop n xs)
all_drop P zero xs all = all
all_drop P (suc n) [] all = tt
all_drop P (suc n) (x ∷ xs) all = all_drop P n xs all.1

apart_drop : (n : ℕ) (xs ys : List Fence) → AreApart (xs ++ ys) → AreApart (drop n xs ++ ys)
apart_drop zero xs ys apart = apart
apart_drop (suc n) [] ys apart = apart
apart_drop (suc n) (x ∷ xs) ys apart = apart_drop n xs ys (apart_behind x (xs ++ ys) apart)

tables_drop : (n : ℕ) (ts : List Table) → AreTables ts → AreTables (drop n ts)
tables_drop zero ts are = are
tables_drop (suc n) [] are = are
tables_drop (suc n) (t ∷ ts) are = tables_drop n ts (behind t ts are)

all_fences_are : (ts : List Table) → AreTables ts → AllByRecursion IsFence (all_fences ts)
all_fences_are [] are = tt
all_fences_are (t ∷ ts) are = all_append IsFence t.fences (all_fences ts) are.each.0.each (all_fences_are ts (behind t ts are))

drop_next : {A : Type 0} (n : ℕ) (xs : List A) (x : A) → slice_get xs n ≡ Some x → drop n xs ≡ x ∷ drop (suc n) xs
drop_next n [] x at = absurd cc
drop_next zero (y ∷ xs) x at = ap (λ z. z ∷ xs) (same_Some y x at)
drop_next (suc n) (y ∷ xs) x at = drop_next n xs x at

pub slice_get_none : {A : Type 0} (xs : List A) (n : ℕ) → slice_get xs n ≡ None → length xs ≤ n
slice_get_none [] n at = omega arith
slice_get_none (x ∷ xs) zero at = absurd cc
slice_get_none (x ∷ xs) (suc n) at = omega (arith, slice_get_none xs n at)

module _ (file : List ℕ) (low high : Option Key) (t : Table) (ts : List Table) (next : ℕ) (bytes : List ℕ) (begins : BeginsIn low file t next bytes)
    (room : has_room low high ≡ true) (are : AreTables (t ∷ ts)) (each : AllByRecursion (IsTableOf file) (t ∷ ts)) where
  abbrev rest : List Fence
  rest = drop next t.fences ++ all_fences ts

  rest_blocks : blocks_from (t ∷ ts) next bytes ≡ map (pair file) rest
  rest_blocks =
      ap (λ l. blocks_of l (drop next t.fences) ++ run_blocks ts) begins.bytes_are
      ∙ ap (λ l. l ++ run_blocks ts) (blocks_are file (drop next t.fences) (all_drop (IsBlockOf file) next t.fences each.0.each))
      ∙ ap (λ l. map (pair file) (drop next t.fences) ++ l) (run_blocks_are file ts each.1)
      ∙ sym (map-append (pair file) (drop next t.fences) (all_fences ts))

  rest_meet : filter (meets low high) (all_fences (t ∷ ts)) ≡ filter (meets low high) rest
  rest_meet =
      filter-append (meets low high) t.fences (all_fences ts)
      ∙ ap (λ l. l ++ filter (meets low high) (all_fences ts)) (skip_fences low high t.fences next begins.before)
      ∙ sym (filter-append (meets low high) (drop next t.fences) (all_fences ts))

  rest_each : AllByRecursion IsFence rest
  rest_each = all_append IsFence (drop next t.fences) (all_fences ts) (all_drop IsFence next t.fences are.each.0.each) (all_fences_are ts (behind t ts are))

  rest_apart : AreApart rest
  rest_apart = apart_drop next t.fences (all_fences ts) are.rise

  rest_from : AllByRecursion (λ (f : Fence). is_from low f.last ≡ true) rest
  rest_from =
      let first = drop_next next t.fences begins.first begins.there in
      let all : rest ≡ begins.first ∷ (drop (suc next) t.fences ++ all_fences ts) = ap (λ l. l ++ all_fences ts) first in
      subst (AllByRecursion (λ (f : Fence). is_from low f.last ≡ true)) (sym all)
      (from_on low begins.first (drop (suc next) t.fences ++ all_fences ts) (subst (AllByRecursion IsFence) all rest_each) (subst AreApart all rest_apart) begins.from)

  begun_here : records_in (blocks_left high (t ∷ ts) next bytes) ≡ records_meeting low high file (t ∷ ts)
  begun_here =
      ap (λ bs. records_in (map counted (up_to high bs))) rest_blocks ∙ meeting file low high rest room rest_each rest_apart rest_from ∙ ap (records_by file) (sym rest_meet)

no_low : (low : Option Key) (ts : List Table) (n : ℕ) → IsFirstTable low ts n → AreTables ts → (high : Option Key) (i : ℕ) (t : Table) → slice_get ts i ≡ Some t → i < n → filter (meets low high) t.fences ≡ []
no_low None ts n first are high i t at lt = absurd (omega (arith, first, lt))
no_low (Some low) ts n first are high i t at lt =
    let h = ends_here ts i t are at in
    let below : ends_below low t ≡ true = subst (λ (u : Table). ends_below low u ≡ true) (get_or_from_slice_get ts i t t at) (first.0 i t (omega arith) lt) in
    let fences = each_at (λ (u : Table). AreFences u.fences) ts i t are.each at in
    ends_none low high t.fences h.last fences.each fences.apart h.ends (end_below t low h below)

pub reaches : (low : Option Key) (ts : List Table) (n : ℕ) (t : Table) → IsFirstTable low ts n → AreTables ts → slice_get ts n ≡ Some t → Reaches low t
reaches None ts n t first are at = let h = ends_here ts n t are at in record { last = h.last; ends = h.ends; from = refl }
reaches (Some low) ts n t first are at =
    let h = ends_here ts n t are at in
    let is_not : ends_below low t ≡ false = subst (λ (u : Table). ends_below low u ≡ false) (get_or_from_slice_get ts n t t at) (first.1 n t (omega arith) (slice_get_within ts n t at)) in
    record { last = h.last; ends = h.ends; from = ap not (ap (λ o. is_above o low) (sym h.ends) ∙ is_not) }

get_drop : (n : ℕ) (ts : List Table) (t : Table) → slice_get (drop n ts) 0 ≡ Some t → slice_get ts n ≡ Some t
get_drop zero ts t at = at
get_drop (suc n) [] t at = absurd cc
get_drop (suc n) (u ∷ ts) t at = get_drop n ts t at

pub begun : (file : List ℕ) (low high : Option Key) (ts : List Table) (n : ℕ) → IsFirstTable low ts n → has_room low high ≡ true → AreTables ts → AllByRecursion (IsTableOf file) ts
    → (tail : List Table) → tail ≡ drop n ts → (next : ℕ) (bytes : List ℕ) → ((t : Table) → slice_get tail 0 ≡ Some t → IsTableOf file t → Reaches low t → BeginsIn low file t next bytes)
    → records_in (blocks_left high tail next bytes) ≡ records_meeting low high file ts
begun file low high ts n first room are each [] same next bytes begins =
    ap (records_by file) (sym (skip_tables low high ts n (no_low low ts n first are high) ∙ ap (λ us. filter (meets low high) (all_fences us)) (sym same)))
begun file low high ts n first room are each (t ∷ us) same next bytes begins =
    let there : slice_get ts n ≡ Some t = get_drop n ts t (ap (λ vs. slice_get vs 0) (sym same)) in
    let here = begins t refl (each_at (IsTableOf file) ts n t each there) (reaches low ts n t first are there) in
    begun_here file low high t us next bytes here room (subst AreTables (sym same) (tables_drop n ts are)) (subst (AllByRecursion (IsTableOf file)) (sym same) (all_drop (IsTableOf file) n ts each))
    ∙ ap (records_by file) (sym (skip_tables low high ts n (no_low low ts n first are high) ∙ ap (λ vs. filter (meets low high) (all_fences vs)) (sym same)))

and_first : (a b c : Bool) → a ≡ false → (a && b && c) ≡ false
and_first false b c p = refl
and_first true b c p = absurd cc

-- no key lies between the two ends
pub none_between : (file : List ℕ) (low high : Option Key) (ts : List Table) → has_room low high ≡ false → records_meeting low high file ts ≡ []
none_between file low high ts room = ap (records_by file) (none (all_fences ts))
  where
    none : (fs : List Fence) → filter (meets low high) fs ≡ []
    none [] = refl
    none (f ∷ fs) = ap (λ b. if b then f ∷ filter (meets low high) fs else filter (meets low high) fs) (and_first (has_room low high) (is_below f.first high) (is_from low f.last) room) ∙ none fs

-- ---- the first block of a table

open_meets : (low : Option Key) (f : Fence) → meets low None f ≡ is_from low f.last
open_meets None f = refl
open_meets (Some low) f = refl

start_within : (file : List ℕ) (fs : List Fence) (place i start : ℕ) → AllByRecursion (IsBlockOf file) fs → slice_get (starts_from place fs) i ≡ Some (place + start) → start ≤ length (blocks_by file fs)
start_within file [] place i start each at = absurd cc
start_within file (f ∷ fs) place zero start each at = omega (arith, same_Some place (place + start) at)
start_within file (f ∷ fs) place (suc i) start each at =
    let len = block_len file f each.0.inside in
    let more : f.len ≤ start = omega (arith, starts_at_least fs (place + f.len) i (place + start) at) in
    let there : slice_get (starts_from (place + f.len) fs) i ≡ Some (place + f.len + (start - f.len)) = subst (λ n. slice_get (starts_from (place + f.len) fs) i ≡ Some n) (omega (arith, more)) at in
    omega (arith, len, more, start_within file fs (place + f.len) i (start - f.len) each.1 there, length-append (block_at file f) (blocks_by file fs))

module _ (file : List ℕ) (t : Table) (i start : ℕ) (is : IsTableOf file t) (at : slice_get t.starts.items i ≡ Some start) where
  in_starts : slice_get (starts_from 0 t.fences) i ≡ Some (0 + start)
  in_starts = let same : start ≡ 0 + start = omega arith in ap (λ l. slice_get l i) (sym t.starts_are) ∙ at ∙ ap (λ n. Some n) same

  pub has_start : start ≤ length t.blocks
  has_start = subst (λ l. start ≤ length l) (sym is.blocks) (start_within file t.fences 0 i start is.each in_starts)

  pub from_start : drop start t.blocks ≡ blocks_by file (drop i t.fences)
  from_start = ap (drop start) is.blocks ∙ bytes_behind file t.fences 0 i start is.each in_starts

module _ (low : Option Key) (file : List ℕ) (t : Table) (next end : ℕ) (bytes : List ℕ) (those : AreThoseThatMeet low None t.fences (next, end)) (reach : Reaches low t)
    (bytes_are : next < length t.fences → bytes ≡ blocks_by file (drop next t.fences)) where
  last_meets : (next ≤ length t.fences - 1) × (length t.fences - 1 < end)
  last_meets = by (slice_get t.fences (length t.fences - 1)) refl
    where
      by : (o : Option Fence) → slice_get t.fences (length t.fences - 1) ≡ o → (next ≤ length t.fences - 1) × (length t.fences - 1 < end)
      by None at = absurd (cc (sym (no_last t.fences at) ∙ reach.ends))
      by (Some f) at =
          let last : f.last ≡ reach.last = same_Some f.last reach.last (sym (last_is t.fences f at) ∙ reach.ends) in
          (those (length t.fences - 1) f at).0 (open_meets low f ∙ ap (is_from low) last ∙ reach.from)

  some_fence : (o : Option Fence) → slice_get t.fences next ≡ o → next < length t.fences → BeginsIn low file t next bytes
  some_fence None at within = absurd (omega (arith, within, slice_get_none t.fences next at))
  some_fence (Some f) at within = record {
    before = λ i g there lt. not_from i g there lt;
    first = f;
    there = at;
    from = sym (open_meets low f) ∙ (those next f at).1 (omega arith, omega (arith, last_meets.0, last_meets.1));
    bytes_are = bytes_are within;
  }
    where
      not_from : (i : ℕ) (g : Fence) → slice_get t.fences i ≡ Some g → i < next → is_from low g.last ≡ false
      not_from i g there lt = by (is_from low g.last) refl
        where
          by : (b : Bool) → is_from low g.last ≡ b → b ≡ false
          by false e = refl
          by true e = absurd (omega (arith, lt, ((those i g there).0 (open_meets low g ∙ e)).0))

  pub begins_in : BeginsIn low file t next bytes
  begins_in = some_fence (slice_get t.fences next) refl (omega (arith, last_meets.0, some_length t.fences reach.ends))
    where
      some_length : (fs : List Fence) → last_end fs ≡ Some reach.last → 1 ≤ length fs
      some_length [] e = absurd cc
      some_length (f ∷ fs) e = omega arith

-- ---- blocks that are taken

pub passed_table : (ts : List Table) (next : ℕ) (bytes behind : List ℕ) (t : Table) → slice_get ts 0 ≡ Some t → length t.fences ≤ next
    → ((u : Table) → slice_get (take (length ts - 1) (drop 1 ts)) 0 ≡ Some u → behind ≡ u.blocks) → blocks_from (take (length ts - 1) (drop 1 ts)) 0 behind ≡ blocks_from ts next bytes
passed_table [] next bytes behind t at ended begins = absurd cc
passed_table (x ∷ xs) next bytes behind t at ended begins =
    let all : take (suc (length xs) - 1) xs ≡ xs = take_all (suc (length xs) - 1) xs (omega arith) in
    ap (λ us. blocks_from us 0 behind) all
    ∙ others xs (λ u there. begins u (ap (λ us. slice_get us 0) all ∙ there))
    ∙ ap (λ fs. blocks_of bytes fs ++ run_blocks xs) (sym (none_left x.fences next (subst (λ (u : Table). length u.fences ≤ next) (sym (same_Some x t at)) ended)))
  where
    others : (us : List Table) → ((u : Table) → slice_get us 0 ≡ Some u → behind ≡ u.blocks) → blocks_from us 0 behind ≡ run_blocks us
    others [] begins = refl
    others (u ∷ us) begins = ap (λ l. blocks_of l u.fences ++ run_blocks us) (begins u refl)

    none_left : (fs : List Fence) (n : ℕ) → length fs ≤ n → drop n fs ≡ []
    none_left [] zero le = refl
    none_left [] (suc n) le = refl
    none_left (f ∷ fs) zero le = absurd (omega (arith, le))
    none_left (f ∷ fs) (suc n) le = none_left fs n (omega (arith, le))

module _ (high : Option Key) (bytes : List ℕ) (f : Fence) where
  next_block : (ts : List Table) (next : ℕ) (t : Table) → slice_get ts 0 ≡ Some t → slice_get t.fences next ≡ Some f
      → blocks_from ts next bytes ≡ (f, take f.len bytes) ∷ blocks_from ts (next + 1) (drop f.len bytes)
  next_block [] next t at there = absurd cc
  next_block (x ∷ xs) next t at there =
      let here : slice_get x.fences next ≡ Some f = subst (λ (u : Table). slice_get u.fences next ≡ Some f) (sym (same_Some x t at)) there in
      let one : suc next ≡ next + 1 = omega arith in
      ap (λ fs. blocks_of bytes fs ++ run_blocks xs) (drop_next next x.fences f here ∙ ap (λ n. f ∷ drop n x.fences) one)

  pub taken_block : (ts : List Table) (next : ℕ) (t : Table) → slice_get ts 0 ≡ Some t → slice_get t.fences next ≡ Some f → is_below f.first high ≡ true
      → blocks_left high ts next bytes ≡ (f.count, drop 2 (take f.len bytes)) ∷ blocks_left high ts (next + 1) (drop f.len bytes)
  taken_block ts next t at there below =
      ap (λ bs. map counted (up_to high bs)) (next_block ts next t at there)
      ∙ ap (λ b. map counted (if b then (f, take f.len bytes) ∷ up_to high (blocks_from ts (next + 1) (drop f.len bytes)) else [])) below

  pub no_block : (ts : List Table) (next : ℕ) (t : Table) → slice_get ts 0 ≡ Some t → slice_get t.fences next ≡ Some f → is_below f.first high ≡ false → blocks_left high ts next bytes ≡ []
  no_block ts next t at there below =
      ap (λ bs. map counted (up_to high bs)) (next_block ts next t at there)
      ∙ ap (λ b. map counted (if b then (f, take f.len bytes) ∷ up_to high (blocks_from ts (next + 1) (drop f.len bytes)) else [])) below

-- ---- the records of some of the blocks rise

all_filter : {A : Type 0} (P : A → Type 0) (p : A → Bool) (xs : List A) → AllByRecursion P xs → AllByRecursion P (filter p xs)
all_filter P p [] all = tt
all_filter P p (x ∷ xs) all = by (p x) (all_filter P p xs all.1)
  where
    by : (b : Bool) → AllByRecursion P (filter p xs) → AllByRecursion P (if b then x ∷ filter p xs else filter p xs)
    by true rest = (all.0, rest)
    by false rest = rest

all_above : (f : Fence) (fs : List Fence) → AllByRecursion IsFence (f ∷ fs) → AreApart (f ∷ fs) → AllByRecursion (λ (g : Fence). IsBelow f.last g.first) fs
all_above f [] each apart = tt
all_above f (g ∷ fs) each apart = (apart.0, all_weaker (λ (h : Fence). IsBelow g.last h.first) (λ (h : Fence). IsBelow f.last h.first) fs (λ h lt. below_below f.last g.last h.first (below_at_most f.last g.first g.last apart.0 each.1.0.order) lt) (all_above g fs each.1 apart.1))

join_above : (f : Fence) (fs : List Fence) → AllByRecursion (λ (g : Fence). IsBelow f.last g.first) fs → AreApart fs → AreApart (f ∷ fs)
join_above f [] above apart = tt
join_above f (g ∷ fs) above apart = (above.0, apart)

apart_filter : (p : Fence → Bool) (fs : List Fence) → AllByRecursion IsFence fs → AreApart fs → AreApart (filter p fs)
apart_filter p [] each apart = tt
apart_filter p (f ∷ fs) each apart = by (p f) (apart_filter p fs each.1 (apart_behind f fs apart))
  where
    by : (b : Bool) → AreApart (filter p fs) → AreApart (if b then f ∷ filter p fs else filter p fs)
    by true rest = join_above f (filter p fs) (all_filter (λ (g : Fence). IsBelow f.last g.first) p fs (all_above f fs each apart)) rest
    by false rest = rest

pub meeting_rises : (low high : Option Key) (file : List ℕ) (ts : List Table) → AreTables ts → AllByRecursion (IsTableOf file) ts → KeysRise (records_meeting low high file ts)
meeting_rises low high file ts are each =
    blocks_rise file (filter (meets low high) (all_fences ts)) (all_filter (IsBlockOf file) (meets low high) (all_fences ts) (all_blocks file ts each)) (apart_filter (meets low high) (all_fences ts) (all_fences_are ts are) are.rise)

pub begun_rest : (o : Option RecordRef) (old new rs : List Record) → IsTakenOff o old new → old ≡ rs → KeysRise rs → rest_of o new ≡ rs
begun_rest None old new rs taken same rise = sym taken ∙ same
begun_rest (Some r) old new rs taken same rise =
    let all : record_of r ∷ new ≡ rs = sym taken ∙ same in
    ap (λ l. record_of r ∷ l) (rising_same (record_of r) new (subst KeysRise (sym all) rise)) ∙ all
