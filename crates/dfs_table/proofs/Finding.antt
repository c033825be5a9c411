-- Which block has the record with a key, and where its bytes stand among those of all.
use Rattle.std.proofs.Common.{◌≡◌, ℕ, zero, suc, ◌+◌, ◌<◌, ◌≤◌, Bool, true, false, List, [], ◌∷◌, ◌++◌, length, get_or, take, drop, refl, sym, ap, subst, ◌∙◌, arith, append_assoc, length-append, length-take, length-drop}
use Rattle.std.specs.Prelude.{Some, None, slice_get}
use Rattle.std.specs.List.{AllByRecursion}
use Rattle.std.specs.Ordering.{is_lt, ordering_reverse}
use Rattle.std.specs.declared.cmp.Ordering.TheVariants.{Greater}
use Rattle.std.proofs.lemmas.List.{drop_at, take_at}
use Rattle.std.proofs.lemmas.Option.{same_Some, slice_get_read, slice_get_within}
use Rattle.dfs_record.specs.declared.Key.{Key}
use Rattle.dfs_record.specs.declared.Record.{Record}
use Rattle.dfs_record.specs.Delta.{last_value, or_else}
use Rattle.dfs_record.specs.Key.{key_cmp, keys_total}
use Rattle.dfs_record.specs.Records.{KeysRise, IsBelow}
use Rattle.dfs_record.proofs.Replays.{last_value-append, or_else-none}
use Rattle.dfs_block.specs.Block.{IsBlock, first_key, last_key}
use Rattle.dfs_block.proofs.Rising.{above_last, rise_behind, value_less, value_greater}
use Rattle.dfs_fence.specs.declared.fence.Fence.{Fence}
use Rattle.dfs_fence.specs.Cover.{Covers, CoversAt, NoneCovers}
use Rattle.dfs_fence.proofs.Orders.{less, below_below, not_below}
use Rattle.dfs_table.specs.declared.table.Table.{Table}
use Rattle.dfs_table.specs.Starts.{starts_from}
use Rattle.dfs_table.specs.Stored.{IsBlockOf, IsTableOf, block_at, blocks_by, records_at, records_by}

-- ---- where the bytes of a block stand

pub block_len : (file : List ℕ) (f : Fence) → f.at + f.len ≤ length file → length (block_at file f) ≡ f.len
block_len file f inside = omega (arith, inside, length-take f.len (drop f.at file), length-drop f.at file)

-- among the bytes of all blocks the block stands behind so many
pub record Stands (file : List ℕ) (fs : List Fence) (f : Fence) (place start : ℕ) : Type 0 where
  pub before : List ℕ
  pub behind : List ℕ
  pub start_is : place + length before ≡ start
  pub bytes : blocks_by file fs ≡ before ++ (block_at file f ++ behind)

pub stands : (file : List ℕ) (fs : List Fence) (place i : ℕ) (f : Fence) (start : ℕ) → AllByRecursion (IsBlockOf file) fs → slice_get fs i ≡ Some f → slice_get (starts_from place fs) i ≡ Some start → Stands file fs f place start
stands file [] place i f start each at there = absurd cc
stands file (x ∷ fs) place zero f start each at there =
    let same : x ≡ f = same_Some x f at in
    record {
      before = [];
      behind = blocks_by file fs;
      start_is = omega (arith, same_Some place start there);
      bytes = ap (λ (y : Fence). block_at file y ++ blocks_by file fs) same;
    }
stands file (x ∷ fs) place (suc i) f start each at there =
    let s = stands file fs (place + x.len) i f start each.1 at there in
    record {
      before = block_at file x ++ s.before;
      behind = s.behind;
      start_is = omega (arith, s.start_is, length-append (block_at file x) s.before, block_len file x each.0.inside);
      bytes = ap (λ (l : List ℕ). block_at file x ++ l) s.bytes ∙ sym (append_assoc (block_at file x) s.before (block_at file f ++ s.behind));
    }

pub stands_inside : {file : List ℕ} {fs : List Fence} {f : Fence} {start : ℕ} → Stands file fs f 0 start → f.at + f.len ≤ length file → start + f.len ≤ length (blocks_by file fs)
stands_inside {file} {fs} {f} s inside =
    omega (arith, ap length s.bytes, s.start_is, length-append s.before (block_at file f ++ s.behind), length-append (block_at file f) s.behind, block_len file f inside)

pub read_there : {file : List ℕ} {fs : List Fence} {f : Fence} {start : ℕ} → Stands file fs f 0 start → f.at + f.len ≤ length file → take f.len (drop start (blocks_by file fs)) ≡ block_at file f
read_there {file} {fs} {f} {start} s inside =
    ap (λ (l : List ℕ). take f.len (drop start l)) s.bytes
    ∙ ap (take f.len) (drop_at s.before (block_at file f ++ s.behind) start (omega (arith, s.start_is)))
    ∙ take_at (block_at file f) s.behind f.len (block_len file f inside)

pub each_at : {A : Type 0} (P : A → Type 0) (xs : List A) (i : ℕ) (x : A) → AllByRecursion P xs → slice_get xs i ≡ Some x → P x
each_at P [] i x each at = absurd cc
each_at P (y ∷ xs) zero x each at = subst P (same_Some y x at) each.0
each_at P (y ∷ xs) (suc i) x each at = each_at P xs i x each.1 at

pub length-starts : (place : ℕ) (fs : List Fence) → length (starts_from place fs) ≡ length fs
length-starts place [] = refl
length-starts place (f ∷ fs) = ap suc (length-starts (place + f.len) fs)

-- bytes that are those of one of the blocks
pub block_there : (file : List ℕ) (fs : List Fence) (i : ℕ) (f : Fence) (bytes : List ℕ) → AllByRecursion (IsBlockOf file) fs → slice_get fs i ≡ Some f → bytes ≡ block_at file f → IsBlock bytes (records_at file f)
block_there file fs i f bytes each at same = subst (λ (l : List ℕ). IsBlock l (records_at file f)) (sym same) (each_at (IsBlockOf file) fs i f each at).block

module _ (t : Table) (i start : ℕ) (there : start ≡ get_or t.starts.items i start) (file : List ℕ) (f : Fence) (is : IsTableOf file t) (at : slice_get t.fences i ≡ Some f) where
  inside : f.at + f.len ≤ length file
  inside = (each_at (IsBlockOf file) t.fences i f is.each at).inside

  where_it_says : Stands file t.fences f 0 start
  where_it_says =
      let same : t.starts.items ≡ starts_from 0 t.fences = t.starts_are in
      let within : i < length t.starts.items = omega (arith, slice_get_within t.fences i f at, ap length same, length-starts 0 t.fences) in
      stands file t.fences 0 i f start is.each at (ap (λ (l : List ℕ). slice_get l i) (sym same) ∙ slice_get_read t.starts.items (length t.starts.items) i start refl within there)

  pub has_block : start + f.len ≤ length t.blocks
  has_block = omega (arith, stands_inside where_it_says inside, ap length is.blocks)

  pub is_block : take f.len (drop start t.blocks) ≡ block_at file f
  is_block = ap (λ (l : List ℕ). take f.len (drop start l)) is.blocks ∙ read_there where_it_says inside

-- ---- the value of a key

-- below the first key
none_below : (q : Key) (rs : List Record) (first : Key) → KeysRise rs → first_key rs ≡ Some first → IsBelow q first → last_value q rs ≡ None
none_below q [] first rise e lt = refl
none_below q (r ∷ rs) first rise e lt = value_less q r rs rise (subst (IsBelow q) (sym (same_Some r.key first e)) lt)

above_first : (q : Key) (r : Record) (rs : List Record) (last : Key) → KeysRise (r ∷ rs) → last_key (r ∷ rs) ≡ Some last → IsBelow last q → IsBelow r.key q
above_first q r [] last rise e lt = subst (λ (k : Key). IsBelow k q) (sym (same_Some r.key last e)) lt
above_first q r (s ∷ rs) last rise e lt =
    below_below r.key s.key q (less (key_cmp r.key s.key) (above_last (r ∷ []) s rs rise)) (above_first q s rs last (rise_behind r (s ∷ rs) rise) e lt)

greater : (q : Key) (r : Record) (rs : List Record) (last : Key) → KeysRise (r ∷ rs) → last_key (r ∷ rs) ≡ Some last → IsBelow last q → key_cmp q r.key ≡ Greater
greater q r rs last rise e lt = keys_total.antisymm q r.key ∙ ap ordering_reverse (above_first q r rs last rise e lt)

-- above the last key
none_above : (q : Key) (rs : List Record) (last : Key) → KeysRise rs → last_key rs ≡ Some last → IsBelow last q → last_value q rs ≡ None
none_above q [] last rise e lt = refl
none_above q (r ∷ []) last rise e lt = value_greater q r [] (greater q r [] last rise e lt)
none_above q (r ∷ s ∷ rs) last rise e lt =
    value_greater q r (s ∷ rs) (greater q r (s ∷ rs) last rise e lt) ∙ none_above q (s ∷ rs) last (rise_behind r (s ∷ rs) rise) e lt

-- a block whose fence does not cover the key has no record with it
outside : (file : List ℕ) (f : Fence) (q : Key) → IsBlockOf file f → ¬ (Covers f q) → last_value q (records_at file f) ≡ None
outside file f q is out = by_case (is_lt (key_cmp q f.first)) refl (is_lt (key_cmp f.last q)) refl
  where
    by_case : (a : Bool) → is_lt (key_cmp q f.first) ≡ a → (b : Bool) → is_lt (key_cmp f.last q) ≡ b → last_value q (records_at file f) ≡ None
    by_case true e b g = none_below q (records_at file f) f.first is.block.rise is.first (less (key_cmp q f.first) e)
    by_case false e true g = none_above q (records_at file f) f.last is.block.rise is.last (less (key_cmp f.last q) g)
    by_case false e false g = absurd (out (record { first = not_below q f.first e; last = not_below f.last q g }))

pub found_nowhere : (file : List ℕ) (fs : List Fence) (q : Key) → AllByRecursion (IsBlockOf file) fs → NoneCovers fs q → last_value q (records_by file fs) ≡ None
found_nowhere file [] q each none = refl
found_nowhere file (f ∷ fs) q each none =
    last_value-append q (records_at file f) (records_by file fs)
    ∙ ap (λ o. or_else o (last_value q (records_at file f))) (found_nowhere file fs q each.1 (λ i at. none (suc i) at))
    ∙ outside file f q each.0 (λ covers. none 0 (f, (refl, covers)))

-- where one fence alone may cover the key, the records of its block decide
pub found_there : (file : List ℕ) (fs : List Fence) (q : Key) (i : ℕ) (f : Fence) → AllByRecursion (IsBlockOf file) fs → slice_get fs i ≡ Some f
    → ((j : ℕ) → CoversAt fs q j → j ≡ i) → last_value q (records_by file fs) ≡ last_value q (records_at file f)
found_there file [] q i f each at only = absurd cc
found_there file (x ∷ fs) q zero f each at only =
    last_value-append q (records_at file x) (records_by file fs)
    ∙ ap (λ o. or_else o (last_value q (records_at file x))) (found_nowhere file fs q each.1 (λ j covers. absurd (omega (arith, only (suc j) covers))))
    ∙ ap (λ (y : Fence). last_value q (records_at file y)) (same_Some x f at)
found_there file (x ∷ fs) q (suc i) f each at only =
    last_value-append q (records_at file x) (records_by file fs)
    ∙ ap (or_else (last_value q (records_by file fs))) (outside file x q each.0 (λ covers. absurd (omega (arith, only 0 (x, (refl, covers))))))
    ∙ or_else-none (last_value q (records_by file fs))
    ∙ found_there file fs q i f each.1 at (λ j covers. omega (arith, only (suc j) covers))
