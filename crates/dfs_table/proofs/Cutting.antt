-- How a writer cuts records into blocks.
use Rattle.std.proofs.Common.{◌≡◌, ◌≤◌, ◌<◌, ◌+◌, ◌-◌, ◌*◌, inl, inr, ℕ, Bool, true, false, if◌then◌else◌, List, [], ◌∷◌, ◌++◌, length, map, take, refl, sym, ap, subst, ◌∙◌, arith, append_assoc, ltb-true, ltb-false, length-append, length-take}
use Rattle.std.specs.Prelude.{Some, nat_lt, Result, IfOk, OnOk, Ok, Err}
use Rattle.std.specs.List.{AllByRecursion}
use Rattle.std.proofs.lemmas.Bool.{le-leb, lt-leb}
use Rattle.std.proofs.lemmas.List.{length-map, map-append, take_at}
use Rattle.dfs_record.specs.declared.Key.{Key}
use Rattle.dfs_record.specs.declared.Record.{Record}
use Rattle.dfs_block.specs.Block.{block_bytes, first_key, most_bytes}
use Rattle.dfs_fence.specs.declared.fence.Fence.{Fence}
use Rattle.dfs_fence.specs.Index.{most_fences}
use Rattle.dfs_table.specs.declared.run.Run.{Run}
use Rattle.dfs_table.specs.declared.table.Table.{Table}
use Rattle.dfs_table.specs.Cut.{IsCut, cut, cut_behind, fits, tables_needed}
use Rattle.dfs_table.specs.Tables.{all_fences}
use Rattle.dfs_table.specs.Writer.{AddsBlock, AddsTable, Fits, IsFull, IsOneTooMany, IsSound, WriterState, fences_of}
use Rattle.dfs_table.proofs.Joining.{fences_more}
use Rattle.dfs_table.proofs.Steps.{full_length}

counts : List Fence → List ℕ
counts fs = map (λ (f : Fence). f.count) fs

-- the lengths of the blocks that the writer wrote, and of those that come with the other records
abbrev lengths : WriterState → List Record → List ℕ
lengths w rest = map (λ (f : Fence). f.count) (fences_of w) ++ map length (cut_behind rest w.records)

fits_so : (block : List Record) (r : Record) → length (block_bytes (block ++ r ∷ [])) ≤ most_bytes → fits block r ≡ true
fits_so [] r le = refl
fits_so (b ∷ bs) r le = le-leb _ _ le

fits_not : (block : List Record) (r : Record) (key : Key) → first_key block ≡ Some key → most_bytes < length (block_bytes (block ++ r ∷ [])) → fits block r ≡ false
fits_not [] r key first more = absurd cc
fits_not (b ∷ bs) r key first more = lt-leb _ _ more

-- a record goes into the block under way, or begins the next one
pub push_cuts : {place : ℕ} (old new : WriterState) (r : Record) (rest : List Record) → (Fits old r → new ≡ record old { records = old.records ++ r ∷ [] }) → (¬ (Fits old r) → (new.records ≡ r ∷ []) × AddsBlock place old new) → lengths new rest ≡ lengths old (r ∷ rest)
push_cuts old new r rest fit begins = by (nat_lt most_bytes (length (block_bytes (old.records ++ r ∷ [])))) refl
  where
    by : (b : Bool) → nat_lt most_bytes (length (block_bytes (old.records ++ r ∷ []))) ≡ b → lengths new rest ≡ lengths old (r ∷ rest)
    by true e =
        let next = begins (λ le. absurd (omega (arith, ltb-true _ _ e, le))) in
        let adds = next.1 in
        let behind = map length (cut_behind rest (r ∷ [])) in
        ap (λ (fs : List Fence). map (λ (f : Fence). f.count) fs ++ map length (cut_behind rest new.records)) adds.fences
        ∙ ap (λ rs. map (λ (f : Fence). f.count) (fences_of old ++ adds.fence ∷ []) ++ map length (cut_behind rest rs)) next.0
        ∙ ap (λ l. l ++ behind) (map-append (λ (f : Fence). f.count) (fences_of old) (adds.fence ∷ []))
        ∙ append_assoc (map (λ (f : Fence). f.count) (fences_of old)) (adds.fence.count ∷ []) behind
        ∙ ap (λ n. map (λ (f : Fence). f.count) (fences_of old) ++ n ∷ behind) adds.count
        ∙ ap (λ b. map (λ (f : Fence). f.count) (fences_of old) ++ map length (if b then cut_behind rest (old.records ++ r ∷ []) else old.records ∷ cut_behind rest (r ∷ [])))
        (sym (fits_not old.records r adds.fence.first adds.first (ltb-true _ _ e)))
    by false e =
        let le : Fits old r = omega (arith, ltb-false _ _ e) in
        ap (λ (w : WriterState). lengths w rest) (fit le)
        ∙ ap (λ b. map (λ (f : Fence). f.count) (fences_of old) ++ map length (if b then cut_behind rest (old.records ++ r ∷ []) else old.records ∷ cut_behind rest (r ∷ [])))
        (sym (fits_so old.records r le))

-- ---- how many blocks there are

-- a record has a block
some_block : (rs block : List Record) → 1 ≤ length block → 1 ≤ length (cut_behind rs block)
some_block [] [] some = absurd (omega (arith, some))
some_block [] (b ∷ bs) some = omega arith
some_block (r ∷ rs) block some = by (some_block rs (block ++ r ∷ []) (omega (arith, length-append block (r ∷ [])))) (fits block r)
  where
    by : 1 ≤ length (cut_behind rs (block ++ r ∷ [])) → (c : Bool) → 1 ≤ length (if c then cut_behind rs (block ++ r ∷ []) else block ∷ cut_behind rs (r ∷ []))
    by behind true = behind
    by behind false = omega arith

few_behind : (rs block : List Record) → length (cut_behind rs block) ≤ length rs + length (take 1 block)
few_behind [] [] = omega arith
few_behind [] (b ∷ bs) = omega arith
few_behind (r ∷ rs) [] = omega (arith, few_behind rs (r ∷ []))
few_behind (r ∷ rs) (b ∷ bs) = by (few_behind rs ((b ∷ bs) ++ r ∷ [])) (few_behind rs (r ∷ [])) (fits (b ∷ bs) r)
  where
    by : length (cut_behind rs ((b ∷ bs) ++ r ∷ [])) ≤ length rs + 1 → length (cut_behind rs (r ∷ [])) ≤ length rs + 1 → (c : Bool) → length (if c then cut_behind rs ((b ∷ bs) ++ r ∷ []) else (b ∷ bs) ∷ cut_behind rs (r ∷ [])) ≤ length (r ∷ rs) + 1
    by more next true = omega (arith, more)
    by more next false = omega (arith, next)

-- each block has a record
pub cut_few : (rs : List Record) → length (cut rs) ≤ length rs
cut_few rs = omega (arith, few_behind rs [])

pub needed_few : (rs : List Record) → 4096 * tables_needed rs ≤ length rs + 4095
needed_few rs = omega (arith, cut_few rs)

-- where the next record does not fit, a block more comes than where none is left
next_block : (rs block : List Record) (r : Record) → 1 ≤ length block → most_bytes < length (block_bytes (block ++ r ∷ [])) → 2 ≤ length (cut_behind (r ∷ rs) block)
next_block rs [] r some more = absurd (omega (arith, some))
next_block rs (b ∷ bs) r some more =
    subst (λ c. 2 ≤ length (if c then cut_behind rs ((b ∷ bs) ++ r ∷ []) else (b ∷ bs) ∷ cut_behind rs (r ∷ [])))
    (sym (fits_not (b ∷ bs) r b.key refl more)) (omega (arith, some_block rs (r ∷ []) (omega arith)))

blocks_counted : (w : WriterState) (rest all : List Record) → lengths w rest ≡ map length (cut all) → length (all_fences w.closed) + length w.fences + length (cut_behind rest w.records) ≡ length (cut all)
blocks_counted w rest all same =
    omega (
      arith,
      ap length same,
      length-append (map (λ (f : Fence). f.count) (fences_of w)) (map length (cut_behind rest w.records)),
      length-map (fences_of w) (λ (f : Fence). f.count),
      length-map (cut_behind rest w.records) length,
      length-map (cut all) length,
      length-append (all_fences w.closed) w.fences,
    )

-- one table too many is begun only where all records need more
pub too_many_needed : (w : WriterState) (r : Record) (rest all : List Record) → IsSound w → lengths w (r ∷ rest) ≡ map length (cut all) → IsOneTooMany w r → w.tables_left < tables_needed all
too_many_needed w r rest all sound same many = elim many.0 [
  | inl none ↦
      let none_written = sound.none none in
      let some : 1 ≤ length (cut_behind (r ∷ rest) w.records) = subst (λ b. 1 ≤ length (cut_behind (r ∷ rest) b)) (sym none) (some_block rest (r ∷ []) (omega arith)) in
      omega (arith, many.1, some, blocks_counted w (r ∷ rest) all same, ap length none, ap length none_written.0, length-take 1 w.records)
  | inr last ↦ by w.records refl last
]
  where
    by : (rs : List Record) → w.records ≡ rs → (¬ (Fits w r)) × (length w.fences + 1 ≡ most_fences) → w.tables_left < tables_needed all
    by [] e last = omega (arith, last.1, ap length (sound.none e).1)
    by (b ∷ bs) e last =
        let more : most_bytes < length (block_bytes (w.records ++ r ∷ [])) = by_test (nat_lt most_bytes (length (block_bytes (w.records ++ r ∷ [])))) refl last.0 in
        omega (
          arith,
          many.1,
          last.1,
          next_block rest w.records r (omega (arith, ap length e)) more,
          blocks_counted w (r ∷ rest) all same,
          full_length w.closed sound.full,
          length-take 1 w.records,
        )
      where
        by_test : (c : Bool) → nat_lt most_bytes (length (block_bytes (w.records ++ r ∷ []))) ≡ c → ¬ (Fits w r) → most_bytes < length (block_bytes (w.records ++ r ∷ []))
        by_test true t not = ltb-true _ _ t
        by_test false t not = absurd (not (omega (arith, ltb-false _ _ t)))

-- ---- the end of the run

counts_of_all : {place : ℕ} (w : WriterState) (ts : List Table) (adds : AddsTable place w ts) → map (λ (f : Fence). f.count) (all_fences ts) ≡ map (λ (f : Fence). f.count) (fences_of w) ++ length w.records ∷ []
counts_of_all w ts adds =
    ap (λ (l : List Table). map (λ (f : Fence). f.count) (all_fences l)) adds.tables
    ∙ ap (map (λ (f : Fence). f.count)) (fences_more w.closed adds.table ∙ ap (λ fs. all_fences w.closed ++ fs) adds.fences ∙ sym (append_assoc (all_fences w.closed) w.fences (adds.fence ∷ [])))
    ∙ map-append (λ (f : Fence). f.count) (fences_of w) (adds.fence ∷ []) ∙ ap (λ n. map (λ (f : Fence). f.count) (fences_of w) ++ n ∷ []) adds.count

last_cut : {place : ℕ} (w : WriterState) (ts : List Table) (all : List Record) → IsSound w → lengths w [] ≡ map length (cut all) → AddsTable place w ts → 1 ≤ length w.records → IsCut all ts
last_cut w ts all sound same adds some =
    let blocks : map (λ (f : Fence). f.count) (all_fences ts) ≡ map length (cut all) = counts_of_all w ts adds ∙ by w.records refl ∙ same in
    record {
      blocks = blocks;
      full = subst (λ (l : List Table). AllByRecursion IsFull (take (length l - 1) l)) (sym adds.tables)
          (subst (AllByRecursion IsFull) (sym (take_at w.closed (adds.table ∷ []) (length (w.closed ++ adds.table ∷ []) - 1) (omega (arith, length-append w.closed (adds.table ∷ []))))) sound.full);
      needed = omega (
        arith,
        ap length blocks,
        length-map (all_fences ts) (λ (f : Fence). f.count),
        length-map (cut all) length,
        ap (λ (l : List Table). length (all_fences l)) adds.tables,
        ap length (fences_more w.closed adds.table),
        length-append (all_fences w.closed) adds.table.fences,
        full_length w.closed sound.full,
        ap length adds.fences,
        length-append w.fences (adds.fence ∷ []),
        sound.few,
        ap length adds.tables,
        length-append w.closed (adds.table ∷ []),
      );
    }
  where
    by : (rs : List Record) → w.records ≡ rs → map (λ (f : Fence). f.count) (fences_of w) ++ length w.records ∷ [] ≡ lengths w []
    by [] e = absurd (omega (arith, some, ap length e))
    by (b ∷ bs) e = ap (λ rs. map (λ (f : Fence). f.count) (fences_of w) ++ length rs ∷ []) e ∙ ap (λ rs. map (λ (f : Fence). f.count) (fences_of w) ++ map length (cut_behind [] rs)) (sym e)

pub end_cut : {E : Type 0} (place : ℕ) (w : WriterState) (result : Result Run E) (all : List Record) → IsSound w → lengths w [] ≡ map length (cut all) → (w.records ≡ [] → IfOk result (λ (run : Run). run.tables ≡ [])) → (1 ≤ length w.records → IfOk result (λ (run : Run). AddsTable place w run.tables))
    → IfOk result (λ (run : Run). IsCut all run.tables)
end_cut place w (Err e) all sound same none last = tt
end_cut place w (Ok run) all sound same none last = by w.records refl
  where
    by : (rs : List Record) → w.records ≡ rs → IsCut all run.tables
    by [] e =
        let written = sound.none e in
        let empty : [] ≡ map length (cut all) =
        ap (λ (ts : List Table). map (λ (f : Fence). f.count) (all_fences ts ++ []) ++ map length (cut_behind [] [])) (sym written.0)
        ∙ ap (λ (fs : List Fence). map (λ (f : Fence). f.count) (all_fences w.closed ++ fs) ++ map length (cut_behind [] [])) (sym written.1)
        ∙ ap (λ rs. map (λ (f : Fence). f.count) (fences_of w) ++ map length (cut_behind [] rs)) (sym e) ∙ same in
        subst (IsCut all) (sym (none e)) (record { blocks = empty; full = tt; needed = omega (arith, ap length empty, length-map (cut all) length) })
    by (b ∷ bs) e = last_cut w run.tables all sound same (last (omega (arith, ap length e))) (omega (arith, ap length e))

pub never_too_many : {E : Type 0} (result : Result Run E) (all : List Record) (tables : ℕ) → IfOk result (λ (run : Run). IsCut all run.tables) → IfOk result (λ (run : Run). length run.tables ≤ tables) → tables < tables_needed all → OnOk result ⊥
never_too_many (Err e) all tables is few many = tt
never_too_many (Ok run) all tables is few many = absurd (omega (arith, is.needed, few, many))
