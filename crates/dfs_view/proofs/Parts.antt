-- The part of a run between two keys lies in the blocks that meet the range.
use Rattle.std.proofs.Common.{◌≡◌, ℕ, zero, suc, ◌+◌, Bool, true, false, ◌&&◌, not, if◌then◌else◌, List, [], ◌∷◌, ◌++◌, take, map, refl, sym, ap, subst, ◌∙◌, arith, append_assoc, append-nil, length, ◌≤◌, take_all}
use Rattle.std.specs.Prelude.{All, Option, Some, None, Result, IfOk, IsSomeAnd, slice_get, flat_map, filter}
use Rattle.std.specs.List.{AllByRecursion}
use Rattle.std.specs.Ordering.{is_le, is_lt}
use Rattle.std.specs.declared.cmp.Ordering.{Ordering}
use Rattle.std.specs.declared.cmp.Ordering.TheVariants.{Less, Equal, Greater}
use Rattle.std.proofs.lemmas.List.{map-append}
use Rattle.std.proofs.lemmas.List.Elements.{All-head, All-tail, filter-append}
use Rattle.std.proofs.lemmas.Option.{same_Some}
use Rattle.dfs_host.specs.Host.{HostState, bytes_of}
use Rattle.dfs_record.specs.declared.Key.{Key}
use Rattle.dfs_record.specs.declared.Record.{Record}
use Rattle.dfs_record.specs.Delta.{records_of}
use Rattle.dfs_record.specs.Key.{key_cmp}
use Rattle.dfs_record.specs.Record.{IsRecord}
use Rattle.dfs_record.specs.Records.{KeysRise, IsBelow}
use Rattle.dfs_block.specs.Block.{first_key, last_key}
use Rattle.dfs_block.proofs.Rising.{below_second, rise_behind}
use Rattle.dfs_cursor.specs.Ranges.{is_from as is_key_from, is_up_to, is_within, part}
use Rattle.dfs_fence.specs.declared.fence.Fence.{Fence}
use Rattle.dfs_fence.specs.Index.{IsAtMost}
use Rattle.dfs_fence.specs.Ranges.{has_room, is_below, is_from, meets}
use Rattle.dfs_fence.proofs.Orders.{at_most_below, below_at_most, less, not_both}
use Rattle.dfs_table.specs.declared.run.Run.{Run}
use Rattle.dfs_table.specs.declared.table.Table.{Table}
use Rattle.dfs_table.specs.RunRecords.{records_meeting}
use Rattle.dfs_table.specs.Stored.{IsBlockOf, records_at, records_by, run_records, table_records}
use Rattle.dfs_table.specs.Tables.{all_fences}
use Rattle.dfs_table.specs.Writer.{AreIn}
use Rattle.dfs_table.proofs.Closing.{first_at_most_last}
use Rattle.dfs_table.proofs.Rising.{all_blocks, all_records}
use Rattle.dfs_table.proofs.Stays.{all_append}
use Rattle.dfs_view.specs.declared.layers.Layers.{Layers}
use Rattle.dfs_view.specs.Layers.{LiesIn, Stand, layer_records, records_on, runs_of}

-- ---- a key between the two ends of a range and those of a block

is_lower : (o : Ordering) → is_lt o ≡ true → is_le o ≡ true
is_lower Less e = refl
is_lower Equal e = absurd cc
is_lower Greater e = absurd cc

module _ (key : Key) (f : Fence) (first : IsAtMost f.first key) (last : IsAtMost key f.last) where
  room : (low high : Option Key) → is_key_from low key ≡ true → is_up_to high key ≡ true → has_room low high ≡ true
  room None high from to = refl
  room (Some low) None from to = refl
  room (Some low) (Some high) from to = ap is_lt (at_most_below low key high from (less (key_cmp key high) to))

  begins : (high : Option Key) → is_up_to high key ≡ true → is_below f.first high ≡ true
  begins None to = refl
  begins (Some high) to = ap is_lt (at_most_below f.first key high first (less (key_cmp key high) to))

  ends : (low : Option Key) → is_key_from low key ≡ true → is_from low f.last ≡ true
  ends None from = refl
  ends (Some low) from = by (is_lt (key_cmp f.last low)) refl
    where
      by : (b : Bool) → is_lt (key_cmp f.last low) ≡ b → not b ≡ true
      by true e = absurd (not_both f.last key (below_at_most f.last low key (less (key_cmp f.last low) e) from) last)
      by false e = refl

  all_three : (a b c : Bool) → a ≡ true → b ≡ true → c ≡ true → (a && b && c) ≡ true
  all_three true true true p q r = refl
  all_three true true false p q r = absurd cc
  all_three true false c p q r = absurd cc
  all_three false b c p q r = absurd cc

  outside : (low high : Option Key) → meets low high f ≡ false → (a b : Bool) → is_key_from low key ≡ a → is_up_to high key ≡ b → (a && b) ≡ false
  outside low high out true true p q = absurd (cc (sym out ∙ all_three (has_room low high) (is_below f.first high) (is_from low f.last) (room low high p q) (begins high q) (ends low p)))
  outside low high out true false p q = refl
  outside low high out false b p q = refl

  pub not_within : (low high : Option Key) → meets low high f ≡ false → is_within low high key ≡ false
  not_within low high out = outside low high out (is_key_from low key) (is_up_to high key) refl refl

-- ---- the records of a block

abbrev Between : Key → Key → Record → Type 0
Between first last r = IsAtMost first r.key × IsAtMost r.key last

lower : (first next last : Key) (rs : List Record) → IsBelow first next → AllByRecursion (Between next last) rs → AllByRecursion (Between first last) rs
lower first next last [] lt all = tt
lower first next last (r ∷ rs) lt all = ((ap is_le (below_at_most first next r.key lt all.0.0), all.0.1), lower first next last rs lt all.1)

between : (r : Record) (rs : List Record) (last : Key) → KeysRise (r ∷ rs) → last_key (r ∷ rs) ≡ Some last → AllByRecursion (Between r.key last) (r ∷ rs)
between r [] last rise ends =
    let self = first_at_most_last (r ∷ []) r.key r.key rise refl refl in
    ((self, first_at_most_last (r ∷ []) r.key last rise refl ends), tt)
between r (s ∷ rs) last rise ends =
    let self = first_at_most_last (r ∷ []) r.key r.key tt refl refl in
    ((self, first_at_most_last (r ∷ s ∷ rs) r.key last rise refl ends), lower r.key s.key last (s ∷ rs) (below_second r s rs rise) (between s rs last (rise_behind r (s ∷ rs) rise) ends))

none_of_part : (low high : Option Key) (rs : List Record) → AllByRecursion (λ (r : Record). is_within low high r.key ≡ false) rs → part low high rs ≡ []
none_of_part low high [] none = refl
none_of_part low high (r ∷ rs) none = ap (λ b. if b then r ∷ part low high rs else part low high rs) none.0 ∙ none_of_part low high rs none.1

all_outside : (low high : Option Key) (f : Fence) (rs : List Record) → meets low high f ≡ false → AllByRecursion (Between f.first f.last) rs → AllByRecursion (λ (r : Record). is_within low high r.key ≡ false) rs
all_outside low high f [] out all = tt
all_outside low high f (r ∷ rs) out all = (not_within r.key f all.0.0 all.0.1 low high out, all_outside low high f rs out all.1)

outside_part : (file : List ℕ) (low high : Option Key) (f : Fence) → IsBlockOf file f → meets low high f ≡ false → part low high (records_at file f) ≡ []
outside_part file low high f is out = by (records_at file f) is.block.rise is.first is.last
  where
    by : (rs : List Record) → KeysRise rs → first_key rs ≡ Some f.first → last_key rs ≡ Some f.last → part low high rs ≡ []
    by [] rise first last = refl
    by (r ∷ rs) rise first last =
        none_of_part low high (r ∷ rs) (all_outside low high f (r ∷ rs) out (subst (λ k. AllByRecursion (Between k f.last) (r ∷ rs)) (same_Some r.key f.first first) (between r rs f.last rise last)))

-- ---- the records of all blocks

blocks_part : (file : List ℕ) (low high : Option Key) (fs : List Fence) → AllByRecursion (IsBlockOf file) fs → part low high (records_by file (filter (meets low high) fs)) ≡ part low high (records_by file fs)
blocks_part file low high [] each = refl
blocks_part file low high (f ∷ fs) each = by (meets low high f) refl (blocks_part file low high fs each.1)
  where
    by : (b : Bool) → meets low high f ≡ b → part low high (records_by file (filter (meets low high) fs)) ≡ part low high (records_by file fs)
        → part low high (records_by file (if b then f ∷ filter (meets low high) fs else filter (meets low high) fs)) ≡ part low high (records_by file (f ∷ fs))
    by true e behind =
        filter-append (λ r. is_within low high r.key) (records_at file f) (records_by file (filter (meets low high) fs))
        ∙ ap (λ l. part low high (records_at file f) ++ l) behind
        ∙ sym (filter-append (λ r. is_within low high r.key) (records_at file f) (records_by file fs))
    by false e behind =
        behind
        ∙ ap (λ l. l ++ part low high (records_by file fs)) (sym (outside_part file low high f each.0 e))
        ∙ sym (filter-append (λ r. is_within low high r.key) (records_at file f) (records_by file fs))

pub records_in_file : (host : HostState) (n : ℕ) (ts : List Table) → AreIn n ts → flat_map (λ (t : Table). table_records (bytes_of host t.file) t) ts ≡ run_records (bytes_of host n) ts
records_in_file host n [] inside = refl
records_in_file host n (t ∷ ts) inside = λ i. table_records (bytes_of host (inside.0 i)) t ++ records_in_file host n ts inside.1 i

pub part_of_run : (host : HostState) (n : ℕ) (run : Run) (low high : Option Key) → LiesIn host n run → part low high (records_meeting low high (bytes_of host n) run.tables) ≡ part low high (records_on host run)
part_of_run host n run low high lies =
    blocks_part (bytes_of host n) low high (all_fences run.tables) (all_blocks (bytes_of host n) run.tables lies.each)
    ∙ ap (part low high) (sym (all_records (bytes_of host n) run.tables) ∙ sym (records_in_file host n run.tables lies.inside))

-- ---- a part of a part

from_twice : (p q : Record → Bool) (rs : List Record) → filter (λ r. p r && q r) (filter (λ r. p r && true) rs) ≡ filter (λ r. p r && q r) rs
from_twice p q [] = refl
from_twice p q (r ∷ rs) = by (p r) refl (from_twice p q rs)
  where
    by : (a : Bool) → p r ≡ a → filter (λ r. p r && q r) (filter (λ r. p r && true) rs) ≡ filter (λ r. p r && q r) rs
        → filter (λ r. p r && q r) (if a && true then r ∷ filter (λ r. p r && true) rs else filter (λ r. p r && true) rs) ≡ (if p r && q r then r ∷ filter (λ r. p r && q r) rs else filter (λ r. p r && q r) rs)
    by true e rest = ap (λ l. if p r && q r then r ∷ l else l) rest
    by false e rest = rest ∙ sym (ap (λ b. if b && q r then r ∷ filter (λ r. p r && q r) rs else filter (λ r. p r && q r) rs) e)

pub part_from : (low : Key) (high : Option Key) (rs : List Record) → part (Some low) high (part (Some low) None rs) ≡ part (Some low) high rs
part_from low high rs = from_twice (λ r. is_key_from (Some low) r.key) (λ r. is_up_to high r.key) rs

-- ---- all parts together

pub parts_joined : {X : Type 0} (low high : Option Key) (g : X → List Record) (xs : List X) (last : List Record) → flat_map (λ (rs : List Record). rs) (map (λ x. part low high (g x)) xs ++ part low high last ∷ []) ≡ part low high (flat_map g xs ++ last)
parts_joined low high g [] last = append-nil (part low high last)
parts_joined low high g (x ∷ xs) last =
    ap (λ l. part low high (g x) ++ l) (parts_joined low high g xs last)
    ∙ sym (filter-append (λ r. is_within low high r.key) (g x) (flat_map g xs ++ last))
    ∙ ap (part low high) (sym (append_assoc (g x) (flat_map g xs) last))

-- ---- which runs there are

pub lies_at : (host : HostState) (rs : List (ℕ × Run)) (i : ℕ) (run : Run) → AllByRecursion (λ (r : ℕ × Run). LiesIn host r.0 r.1) rs → IsSomeAnd (slice_get rs i) (λ (r : ℕ × Run). r.1 ≡ run) → (file : ℕ) × LiesIn host file run
lies_at host [] i run each some = absurd some
lies_at host (r ∷ rs) zero run each some = (r.0, subst (LiesIn host r.0) some each.0)
lies_at host (r ∷ rs) (suc i) run each some = lies_at host rs i run each.1 some

one_more : {B : Type 0} (g : Run → B) (rs : List (ℕ × Run)) (i : ℕ) (run : Run) → IsSomeAnd (slice_get rs i) (λ (r : ℕ × Run). r.1 ≡ run)
    → map (λ (r : ℕ × Run). g r.1) (take (i + 1) rs) ≡ map (λ (r : ℕ × Run). g r.1) (take i rs) ++ g run ∷ []
one_more g [] i run some = absurd some
one_more g (r ∷ rs) zero run some = ap (λ x. g x ∷ []) some
one_more g (r ∷ rs) (suc i) run some =
    let next : suc i + 1 ≡ suc (i + 1) = omega arith in
    ap (λ n. map (λ (x : ℕ × Run). g x.1) (take n (r ∷ rs))) next ∙ ap (λ l. g r.1 ∷ l) (one_more g rs i run some)

pub rests_more : {S B : Type 0} (f : S → B) (old new : List S) (s : S) (g : Run → B) (rs : List (ℕ × Run)) (i : ℕ) (run : Run) → new ≡ old ++ s ∷ [] → map f old ≡ map (λ (r : ℕ × Run). g r.1) (take i rs) → f s ≡ g run
    → IsSomeAnd (slice_get rs i) (λ (r : ℕ × Run). r.1 ≡ run) → map f new ≡ map (λ (r : ℕ × Run). g r.1) (take (i + 1) rs)
rests_more f old new s g rs i run is so_far here some =
    ap (map f) is ∙ map-append f old (s ∷ []) ∙ (λ k. so_far k ++ here k ∷ []) ∙ sym (one_more g rs i run some)

pub rests_end : {S B : Type 0} (f : S → B) (old new : List S) (s : S) (g : Run → B) (rs : List (ℕ × Run)) (i : ℕ) (last : B) → new ≡ old ++ s ∷ [] → map f old ≡ map (λ (r : ℕ × Run). g r.1) (take i rs) → f s ≡ last
    → length rs ≤ i → map f new ≡ map (λ (r : ℕ × Run). g r.1) rs ++ last ∷ []
rests_end f old new s g rs i last is so_far here past =
    ap (map f) is ∙ map-append f old (s ∷ []) ∙ (λ k. so_far k ++ here k ∷ []) ∙ ap (λ l. map (λ (r : ℕ × Run). g r.1) l ++ last ∷ []) (take_all i rs past)

-- ---- all records are valid

blocks_valid : (file : List ℕ) (fs : List Fence) → AllByRecursion (IsBlockOf file) fs → AllByRecursion IsRecord (records_by file fs)
blocks_valid file [] each = tt
blocks_valid file (f ∷ fs) each = all_append IsRecord (records_at file f) (records_by file fs) each.0.block.valid (blocks_valid file fs each.1)

-- the records of a run that lies in its file are valid
pub run_valid : (host : HostState) (n : ℕ) (run : Run) → LiesIn host n run → AllByRecursion IsRecord (records_on host run)
run_valid host n run lies =
    subst (AllByRecursion IsRecord) (sym (records_in_file host n run.tables lies.inside ∙ all_records (bytes_of host n) run.tables))
    (blocks_valid (bytes_of host n) (all_fences run.tables) (all_blocks (bytes_of host n) run.tables lies.each))

runs_valid : (host : HostState) (rs : List (ℕ × Run)) → AllByRecursion (λ (r : ℕ × Run). LiesIn host r.0 r.1) rs → AllByRecursion IsRecord (flat_map (λ (r : ℕ × Run). records_on host r.1) rs)
runs_valid host [] each = tt
runs_valid host (r ∷ rs) each = all_append IsRecord (records_on host r.1) (flat_map (λ (r : ℕ × Run). records_on host r.1) rs) (run_valid host r.0 r.1 each.0) (runs_valid host rs each.1)

to_recursion : {X : Type 0} (P : X → Type 0) (xs : List X) → All P xs → AllByRecursion P xs
to_recursion P [] all = tt
to_recursion P (x ∷ xs) all = (All-head P x xs all, to_recursion P xs (All-tail P x xs all))

pub layers_valid : (host : HostState) (layers : Layers) → Stand host layers → All IsRecord (records_of layers.buffer.held) → AllByRecursion IsRecord (layer_records host layers)
layers_valid host layers stand valid =
    all_append IsRecord (flat_map (λ (r : ℕ × Run). records_on host r.1) (runs_of layers)) (records_of layers.buffer.held) (runs_valid host (runs_of layers) stand.runs) (to_recursion IsRecord (records_of layers.buffer.held) valid)

-- ---- answers

pub ok_to : {T E A : Type 0} (result : Result T E) (f : T → A) {a b : A} → IfOk result (λ x. f x ≡ a) → a ≡ b → IfOk result (λ x. f x ≡ b)
ok_to result f h e = subst (λ y. IfOk result (λ x. f x ≡ y)) e h
