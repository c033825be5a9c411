-- The part of a run between two keys lies in the blocks that meet the range.
use Rattle.std.proofs.Common.{◌≡◌, ℕ, Bool, true, false, ◌&&◌, not, if◌then◌else◌, List, [], ◌∷◌, ◌++◌, map, refl, sym, ap, subst, ◌∙◌, arith, length, ◌≤◌, length-append}
use Rattle.std.specs.Prelude.{Option, Some, None, Result, Ok, Err, IfOk, flat_map, filter}
use Rattle.std.specs.List.{AllByRecursion, sum_by}
use Rattle.std.specs.Ordering.{is_le, is_lt}
use Rattle.std.specs.declared.cmp.Ordering.{Ordering}
use Rattle.std.specs.declared.cmp.Ordering.TheVariants.{Less, Equal, Greater}
use Rattle.std.proofs.lemmas.List.Elements.{filter-append}
use Rattle.std.proofs.lemmas.List.Sums.{sum_by-cons}
use Rattle.std.proofs.lemmas.Option.{same_Some}
use Rattle.dfs_record.specs.declared.Key.{Key}
use Rattle.dfs_record.specs.declared.Record.{Record}
use Rattle.dfs_record.specs.Delta.{Delta, records_of}
use Rattle.dfs_record.specs.Key.{key_cmp}
use Rattle.dfs_record.specs.Records.{Files, KeysRise, IsBelow}
use Rattle.dfs_block.specs.Block.{first_key, last_key}
use Rattle.dfs_block.proofs.Rising.{below_second, rise_behind}
use Rattle.dfs_cursor.specs.Ranges.{is_from as is_key_from, is_up_to, is_within, part}
use Rattle.dfs_fence.specs.declared.fence.Fence.{Fence}
use Rattle.dfs_fence.specs.Index.{IsAtMost}
use Rattle.dfs_fence.specs.Ranges.{has_room, is_below, is_from, meets}
use Rattle.dfs_fence.proofs.Orders.{at_most_below, below_at_most, less, not_both}
use Rattle.dfs_table.specs.declared.run.Run.{Run}
use Rattle.dfs_table.specs.RunRecords.{records_meeting}
use Rattle.dfs_table.specs.Stored.{IsBlockOf, records_at, records_by}
use Rattle.dfs_table.specs.Tables.{all_fences}
use Rattle.dfs_table.specs.Writer.{KeyPasses}
use Rattle.dfs_table.proofs.Closing.{first_at_most_last}
use Rattle.dfs_table.proofs.Rising.{all_blocks, all_records}
use Rattle.dfs_compact.specs.Parts.{IsSource}

-- ---- a key between the two ends of a range and those of a block

is_lower : (o : Ordering) → is_lt o ≡ true → is_le o ≡ true
is_lower Less e = refl
is_lower Equal e = absurd cc
is_lower Greater e = absurd cc

module _ (key : Key) (f : Fence) (first : IsAtMost f.first key) (last : IsAtMost key f.last) where
  room : (low high : Option Key) → is_key_from low key ≡ true → is_up_to high key ≡ true → has_room low high ≡ true
  room None high from to = refl
  room (Some low) None from to = refl
  room (Some low) (Some high) from to = ap is_lt (at_most_below low key high from (less (key_cmp key high) to))

  begins : (high : Option Key) → is_up_to high key ≡ true → is_below f.first high ≡ true
  begins None to = refl
  begins (Some high) to = ap is_lt (at_most_below f.first key high first (less (key_cmp key high) to))

  ends : (low : Option Key) → is_key_from low key ≡ true → is_from low f.last ≡ true
  ends None from = refl
  ends (Some low) from = by (is_lt (key_cmp f.last low)) refl
    where
      by : (b : Bool) → is_lt (key_cmp f.last low) ≡ b → not b ≡ true
      by true e = absurd (not_both f.last key (below_at_most f.last low key (less (key_cmp f.last low) e) from) last)
      by false e = refl

  all_three : (a b c : Bool) → a ≡ true → b ≡ true → c ≡ true → (a && b && c) ≡ true
  all_three true true true p q r = refl
  all_three true true false p q r = absurd cc
  all_three true false c p q r = absurd cc
  all_three false b c p q r = absurd cc

  outside : (low high : Option Key) → meets low high f ≡ false → (a b : Bool) → is_key_from low key ≡ a → is_up_to high key ≡ b → (a && b) ≡ false
  outside low high out true true p q = absurd (cc (sym out ∙ all_three (has_room low high) (is_below f.first high) (is_from low f.last) (room low high p q) (begins high q) (ends low p)))
  outside low high out true false p q = refl
  outside low high out false b p q = refl

  pub not_within : (low high : Option Key) → meets low high f ≡ false → is_within low high key ≡ false
  not_within low high out = outside low high out (is_key_from low key) (is_up_to high key) refl refl

-- ---- the records of a block

abbrev Between : Key → Key → Record → Type 0
Between first last r = IsAtMost first r.key × IsAtMost r.key last

lower : (first next last : Key) (rs : List Record) → IsBelow first next → AllByRecursion (Between next last) rs → AllByRecursion (Between first last) rs
lower first next last [] lt all = tt
lower first next last (r ∷ rs) lt all = ((ap is_le (below_at_most first next r.key lt all.0.0), all.0.1), lower first next last rs lt all.1)

between : (r : Record) (rs : List Record) (last : Key) → KeysRise (r ∷ rs) → last_key (r ∷ rs) ≡ Some last → AllByRecursion (Between r.key last) (r ∷ rs)
between r [] last rise ends =
    let self = first_at_most_last (r ∷ []) r.key r.key rise refl refl in
    ((self, first_at_most_last (r ∷ []) r.key last rise refl ends), tt)
between r (s ∷ rs) last rise ends =
    let self = first_at_most_last (r ∷ []) r.key r.key tt refl refl in
    ((self, first_at_most_last (r ∷ s ∷ rs) r.key last rise refl ends), lower r.key s.key last (s ∷ rs) (below_second r s rs rise) (between s rs last (rise_behind r (s ∷ rs) rise) ends))

none_of_part : (low high : Option Key) (rs : List Record) → AllByRecursion (λ (r : Record). is_within low high r.key ≡ false) rs → part low high rs ≡ []
none_of_part low high [] none = refl
none_of_part low high (r ∷ rs) none = ap (λ b. if b then r ∷ part low high rs else part low high rs) none.0 ∙ none_of_part low high rs none.1

all_outside : (low high : Option Key) (f : Fence) (rs : List Record) → meets low high f ≡ false → AllByRecursion (Between f.first f.last) rs → AllByRecursion (λ (r : Record). is_within low high r.key ≡ false) rs
all_outside low high f [] out all = tt
all_outside low high f (r ∷ rs) out all = (not_within r.key f all.0.0 all.0.1 low high out, all_outside low high f rs out all.1)

outside_part : (file : List ℕ) (low high : Option Key) (f : Fence) → IsBlockOf file f → meets low high f ≡ false → part low high (records_at file f) ≡ []
outside_part file low high f is out = by (records_at file f) is.block.rise is.first is.last
  where
    by : (rs : List Record) → KeysRise rs → first_key rs ≡ Some f.first → last_key rs ≡ Some f.last → part low high rs ≡ []
    by [] rise first last = refl
    by (r ∷ rs) rise first last =
        none_of_part low high (r ∷ rs) (all_outside low high f (r ∷ rs) out (subst (λ k. AllByRecursion (Between k f.last) (r ∷ rs)) (same_Some r.key f.first first) (between r rs f.last rise last)))

-- ---- the records of all blocks

blocks_part : (file : List ℕ) (low high : Option Key) (fs : List Fence) → AllByRecursion (IsBlockOf file) fs → part low high (records_by file (filter (meets low high) fs)) ≡ part low high (records_by file fs)
blocks_part file low high [] each = refl
blocks_part file low high (f ∷ fs) each = by (meets low high f) refl (blocks_part file low high fs each.1)
  where
    by : (b : Bool) → meets low high f ≡ b → part low high (records_by file (filter (meets low high) fs)) ≡ part low high (records_by file fs)
        → part low high (records_by file (if b then f ∷ filter (meets low high) fs else filter (meets low high) fs)) ≡ part low high (records_by file (f ∷ fs))
    by true e behind =
        filter-append (λ r. is_within low high r.key) (records_at file f) (records_by file (filter (meets low high) fs))
        ∙ ap (λ l. part low high (records_at file f) ++ l) behind
        ∙ sym (filter-append (λ r. is_within low high r.key) (records_at file f) (records_by file fs))
    by false e behind =
        behind
        ∙ ap (λ l. l ++ part low high (records_by file fs)) (sym (outside_part file low high f each.0 e))
        ∙ sym (filter-append (λ r. is_within low high r.key) (records_at file f) (records_by file fs))

pub part_of_source : (files : Files) (run : Run) (d : Delta) (low high : Option Key) (source : IsSource files run d)
    → part low high (records_meeting low high (files source.file) run.tables) ≡ part low high (records_of d)
part_of_source files run d low high source =
    blocks_part (files source.file) low high (all_fences run.tables) (all_blocks (files source.file) run.tables source.stored.each)
    ∙ ap (part low high) (sym (all_records (files source.file) run.tables) ∙ source.stored.records)

-- ---- what every part has

pub all_within : (low high : Option Key) (rs : List Record) → AllByRecursion (KeyPasses (is_within low high)) (part low high rs)
all_within low high [] = tt
all_within low high (r ∷ rs) = by (is_within low high r.key) refl (all_within low high rs)
  where
    by : (b : Bool) → is_within low high r.key ≡ b → AllByRecursion (KeyPasses (is_within low high)) (part low high rs) → AllByRecursion (KeyPasses (is_within low high)) (if b then r ∷ part low high rs else part low high rs)
    by true e h = (e, h)
    by false e h = h

pub part_few : (low high : Option Key) (rs : List Record) → length (part low high rs) ≤ length rs
part_few low high [] = omega arith
part_few low high (r ∷ rs) = by (is_within low high r.key) (part_few low high rs)
  where
    by : (b : Bool) → length (part low high rs) ≤ length rs → length (if b then r ∷ part low high rs else part low high rs) ≤ length (r ∷ rs)
    by true h = omega (arith, h)
    by false h = omega (arith, h)

-- ---- all sources together

pub all_lengths : {S : Type 0} (rest : S → List Record) (ss : List S) → length (flat_map (λ (rs : List Record). rs) (map rest ss)) ≡ sum_by (λ s. length (rest s)) ss
all_lengths rest [] = refl
all_lengths rest (s ∷ ss) = omega (arith, length-append (rest s) (flat_map (λ (rs : List Record). rs) (map rest ss)), all_lengths rest ss, sum_by-cons (λ s. length (rest s)) s ss)

-- ---- answers

pub ok_by : {T E A : Type 0} (result : Result T E) (f : T → A) (P : A → Type 0) (a : A) → IfOk result (λ x. f x ≡ a) → P a → IfOk result (λ x. P (f x))
ok_by (Ok x) f P a h p = subst P (sym h) p
ok_by (Err e) f P a h p = tt

pub ok_to : {T E A : Type 0} (result : Result T E) (f : T → A) {a b : A} → IfOk result (λ x. f x ≡ a) → a ≡ b → IfOk result (λ x. f x ≡ b)
ok_to result f h e = subst (λ y. IfOk result (λ x. f x ≡ y)) e h
