-- A compaction stands on after one more part was written to its log.
use Rattle.std.proofs.Common.{◌≡◌, ◌≢◌, ◌<◌, ◌+◌, ℕ, zero, suc, Bool, true, false, List, [], ◌∷◌, ◌++◌, length, take, drop, refl, sym, ap, subst, ◌∙◌, arith, eqb-true, length-append}
use Rattle.std.specs.Prelude.{Option, Some, None, Result, Ok, ◌==◌, get_or, is_some, slice_get, slice_set, IsSome, IsSomeAnd, IsTrue}
use Rattle.std.specs.List.{AllByRecursion, sum_by}
use Rattle.std.proofs.lemmas.List.Sums.{sum_by-append}
use Rattle.std.proofs.lemmas.Bool.{eqb-false}
use Rattle.std.proofs.lemmas.List.{take-append-drop}
use Rattle.std.proofs.lemmas.Option.{same_Some, slice_get-get_or}
use Rattle.dfs_host.specs.Host.{HostState, Told, bytes_of, Only}
use Rattle.dfs_record.specs.Delta.{Delta, delta}
use Rattle.dfs_record.specs.Records.{Files}
use Rattle.dfs_table.specs.declared.run.Run.{Run}
use Rattle.dfs_table.specs.declared.table.Table.{Table}
use Rattle.dfs_table.specs.Cut.{IsCut}
use Rattle.dfs_table.specs.Stored.{IsStored, IsTableOf, run_records}
use Rattle.dfs_table.specs.Writer.{AreIn}
use Rattle.dfs_table.proofs.Stays.{all_append, all_behind, all_front, run_stays, tables_stay}
use Rattle.dfs_compact.specs.declared.compaction.Parted.{Parted}
use Rattle.dfs_compact.specs.declared.compaction.Parted.TheVariants.{Merged, Last, Range, Done}
use Rattle.dfs_compact.specs.Compaction.{CompactionState, HasOutcome, IsWritten, Stands, part_of}
use Rattle.dfs_compact.specs.Parts.{AreSources, IsSource, tables_in, tables_of}

-- ---- one part in its place

pub set_here : {A : Type 0} (xs : List A) (i : ℕ) (v x : A) → slice_get (slice_set xs i v) i ≡ Some x → v ≡ x
set_here [] i v x at = absurd cc
set_here (y ∷ xs) zero v x at = same_Some v x at
set_here (y ∷ xs) (suc i) v x at = set_here xs i v x at

pub set_other : {A : Type 0} (xs : List A) (i j : ℕ) (v : A) → (j ≡ i → ⊥) → slice_get (slice_set xs i v) j ≡ slice_get xs j
set_other [] i j v not = refl
set_other (y ∷ xs) zero zero v not = absurd (not refl)
set_other (y ∷ xs) zero (suc j) v not = refl
set_other (y ∷ xs) (suc i) zero v not = refl
set_other (y ∷ xs) (suc i) (suc j) v not = set_other xs i j v (λ e. not (ap suc e))

pub none_there : (ms : List (Option Run)) (i : ℕ) (m : Option Run) → i < length ms → m ≡ get_or ms i m → is_some m ≡ false → slice_get ms i ≡ Some None
none_there ms i None lt is not = slice_get-get_or ms i None lt ∙ ap (λ (o : Option Run). Some o) (sym is)
none_there ms i (Some run) lt is not = absurd (cc not)

pub merged_there : (ms : List (Option Run)) (i : ℕ) (m : Option Run) → i < length ms → m ≡ get_or ms i m → is_some m ≡ true → IsSomeAnd (slice_get ms i) IsSome
merged_there ms i m lt is some = subst (λ (o : Option (Option Run)). IsSomeAnd o IsSome) (sym (slice_get-get_or ms i m lt ∙ ap (λ (o : Option Run). Some o) (sym is))) some

pub not_merged : (ms : List (Option Run)) (i : ℕ) → slice_get ms i ≡ Some None → IsSomeAnd (slice_get ms i) IsSome → ⊥
not_merged ms i at merged = let no : IsSome {T = Run} None = subst (λ (o : Option (Option Run)). IsSomeAnd o IsSome) at merged in absurd (cc no)

pub never_done : {E : Type 0} (c : CompactionState) (p : Parted) → HasOutcome c p → ◌≡◌ {A = Result Parted E} (Ok p) (Ok Done) → ⊥
never_done c Merged has e = absurd (cc e)
never_done c Last has e = absurd (cc e)
never_done c Range has e = has
never_done c Done has e = has

pub written_by : (c : CompactionState) (p : Parted) → HasOutcome c p → IsWritten p
written_by c Merged has = tt
written_by c Last has = tt
written_by c Range has = has
written_by c Done has = has

-- of the new element and the others
pub set_at : {A : Type 0} (xs : List A) (index : ℕ) (v : A) (P : ℕ → A → Type 0) → P index v → ((i : ℕ) (x : A) → slice_get xs i ≡ Some x → P i x)
    → (i : ℕ) (x : A) → slice_get (slice_set xs index v) i ≡ Some x → P i x
set_at xs index v P here each i x at = by (i == index) refl
  where
    by : (b : Bool) → (i == index) ≡ b → P i x
    by true e =
        let same = eqb-true i index e in
        let new : v ≡ x = set_here xs index v x (subst (λ n. slice_get (slice_set xs index v) n ≡ Some x) same at) in
        subst (λ n. P n x) (sym same) (subst (P index) new here)
    by false e = each i x (sym (set_other xs index i v (λ same. eqb-false i index e same)) ∙ at)

-- of the new part and the others
pub set_each : (ms : List (Option Run)) (index : ℕ) (run : Run) (P : ℕ → Run → Type 0) → P index run → ((i : ℕ) (r : Run) → slice_get ms i ≡ Some (Some r) → P i r)
    → (i : ℕ) (r : Run) → slice_get (slice_set ms index (Some run)) i ≡ Some (Some r) → P i r
set_each ms index run P here each i r at =
    set_at ms index (Some run) (λ (j : ℕ) (m : Option Run). (q : Run) → m ≡ Some q → P j q) (λ q is. subst (P index) (same_Some run q is) here) (λ j m at q is. each j q (at ∙ ap (λ (o : Option Run). Some o) is)) i (Some r) at r refl

pub set_length : {A : Type 0} (xs : List A) (i : ℕ) (v : A) → length (slice_set xs i v) ≡ length xs
set_length [] i v = refl
set_length (y ∷ xs) zero v = refl
set_length (y ∷ xs) (suc i) v = ap suc (set_length xs i v)

-- what a sum over the tables of all parts gains
pub set_sum : (f : Table → ℕ) (ms : List (Option Run)) (i : ℕ) (run : Run) → slice_get ms i ≡ Some None → sum_by f (tables_of (slice_set ms i (Some run))) ≡ sum_by f (tables_of ms) + sum_by f run.tables
set_sum f [] i run at = absurd cc
set_sum f (m ∷ ms) zero run at = omega (arith, sum_by-append f run.tables (tables_of ms), ap (λ (o : Option Run). sum_by f (tables_of (o ∷ ms))) (same_Some m None at))
set_sum f (m ∷ ms) (suc i) run at =
    omega (arith, sum_by-append f (tables_in m) (tables_of (slice_set ms i (Some run))), sum_by-append f (tables_in m) (tables_of ms), set_sum f ms i run at)

pub set_tables : (ms : List (Option Run)) (i : ℕ) (run : Run) → slice_get ms i ≡ Some None → length (tables_of (slice_set ms i (Some run))) ≡ length (tables_of ms) + length run.tables
set_tables [] i run at = absurd cc
set_tables (m ∷ ms) zero run at =
    omega (arith, length-append run.tables (tables_of ms), ap (λ (o : Option Run). length (tables_of (o ∷ ms))) (same_Some m None at))
set_tables (m ∷ ms) (suc i) run at =
    omega (arith, length-append (tables_in m) (tables_of (slice_set ms i (Some run))), length-append (tables_in m) (tables_of ms), set_tables ms i run at)

pub set_all : (P : Table → Type 0) (ms : List (Option Run)) (i : ℕ) (run : Run) → AllByRecursion P run.tables → AllByRecursion P (tables_of ms) → AllByRecursion P (tables_of (slice_set ms i (Some run)))
set_all P [] i run new all = tt
set_all P (m ∷ ms) zero run new all = all_append P run.tables (tables_of ms) new (all_behind P (tables_in m) (tables_of ms) all)
set_all P (m ∷ ms) (suc i) run new all =
    all_append P (tables_in m) (tables_of (slice_set ms i (Some run))) (all_front P (tables_in m) (tables_of ms) all) (set_all P ms i run new (all_behind P (tables_in m) (tables_of ms) all))

-- ---- what was stored in a file stays when the file grows

pub stored_on : (old new : List ℕ) (n : ℕ) (run : Run) (d : Delta) → take n new ≡ old → IsStored old run d → IsStored new run d
stored_on old new n run d kept stored =
    let all : old ++ drop n new ≡ new = ap (λ l. l ++ drop n new) (sym kept) ∙ take-append-drop n new in
    record {
      each = subst (λ l. AllByRecursion (IsTableOf l) run.tables) all (tables_stay old (drop n new) run.tables stored.each);
      records = ap (λ l. run_records l run.tables) (sym all) ∙ run_stays old (drop n new) run.tables stored.each ∙ stored.records;
    }

pub stands_still : {files : Files} {file : ℕ} {c : CompactionState} {ds : List Delta} {b : Bool} → Stands files file c ds → Stands files file (record c { spent = b }) ds
stands_still stands = record { sources = stands.sources; inside = stands.inside; each = stands.each; cut = stands.cut }

module _ (old new : HostState) (log len : ℕ) (tells : IsTrue old.tells) (only : Only log old new) (before : Told old (take len (bytes_of new log) ≡ bytes_of old log)) where
  source_on : (run : Run) (d : Delta) → IsSource (bytes_of old) run d → IsSource (bytes_of new) run d
  source_on run d source = record { file = source.file; inside = source.inside; stored = by (source.file == log) refl }
    where
      by : (b : Bool) → (source.file == log) ≡ b → IsStored (bytes_of new source.file) run d
      by true e =
          let same = eqb-true source.file log e in
          subst (λ n. IsStored (bytes_of new n) run d) (sym same) (stored_on (bytes_of old log) (bytes_of new log) len run d (before tells) (subst (λ n. IsStored (bytes_of old n) run d) same source.stored))
      by false e =
          let other : source.file ≢ log = λ same. eqb-false source.file log e same in
          subst (λ f. IsStored f.bytes run d) (sym ((only.content tells).others source.file other)) source.stored

  sources_on : (runs : List Run) (ds : List Delta) → AreSources (bytes_of old) runs ds → AreSources (bytes_of new) runs ds
  sources_on [] [] are = tt
  sources_on [] (d ∷ ds) are = absurd are
  sources_on (r ∷ rs) [] are = absurd are
  sources_on (r ∷ rs) (d ∷ ds) are = (source_on r d are.0, sources_on rs ds are.1)

  -- one more part was merged, and is stored
  pub stands_on : (c : CompactionState) (ds : List Delta) (index : ℕ) (run : Run) → AreIn log run.tables → Stands (bytes_of old) log c ds
      → (AreSources (bytes_of old) c.sources ds → IsStored (bytes_of new log) run (delta (part_of c ds index))) → (AreSources (bytes_of old) c.sources ds → IsCut (part_of c ds index) run.tables)
      → Stands (bytes_of new) log (record c { merged = slice_set c.merged index (Some run) }) ds
  stands_on c ds index run inside stands stored cut = record {
    sources = sources_on c.sources ds stands.sources;
    inside = set_all (λ (t : Table). t.file ≡ log) c.merged index run inside stands.inside;
    each = set_each c.merged index run (λ i r. IsStored (bytes_of new log) r (delta (part_of c ds i))) (stored stands.sources)
        (λ i r at. stored_on (bytes_of old log) (bytes_of new log) len r (delta (part_of c ds i)) (before tells) (stands.each i r at));
    cut = set_each c.merged index run (λ i r. IsCut (part_of c ds i) r.tables) (cut stands.sources) stands.cut;
  }
