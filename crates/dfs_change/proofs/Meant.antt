-- The change set of a log is the one that it has where it is whole.
use Rattle.std.proofs.Common.{◌≡◌, cond, ℕ, ◌+◌, ◌≤◌, List, [], ◌∷◌, ◌++◌, length, drop, refl, sym, ap, subst, ◌∙◌, arith, length-append}
use Rattle.std.specs.Prelude.{Option, Some, None}
use Rattle.std.specs.Int.{w32}
use Rattle.std.specs.List.{AllByRecursion, flat_map}
use Rattle.std.proofs.lemmas.Bool.{le-ltb}
use Rattle.dfs_record.specs.Delta.{Delta, delta}
use Rattle.dfs_record.specs.Reading.{number_in}
use Rattle.dfs_record.proofs.Readings.{Reads}
use Rattle.dfs_block.specs.Block.{IsBlock, first_key, last_key}
use Rattle.dfs_block.specs.Front.{first_and, records_front, so_many}
use Rattle.dfs_fence.specs.declared.fence.Fence.{Fence}
use Rattle.dfs_fence.specs.Index.{HasFields, IsIndex, fence_bytes}
use Rattle.dfs_fence.specs.Reading.{fence_at}
use Rattle.dfs_fence.proofs.Fields.{fences}
use Rattle.dfs_fence.proofs.Indexes.{all_fields, inside}
use Rattle.dfs_fence.proofs.Spelled.{some_is}
use Rattle.dfs_manifest.specs.Manifest.{Extent, IsManifest}
use Rattle.dfs_manifest.proofs.Manifests.{only}
use Rattle.dfs_registry.specs.declared.listed.Listed.{Listed}
use Rattle.dfs_table.specs.Identities.{IsWithin}
use Rattle.dfs_table.specs.Opened.{EndsBy, IsTableAt}
use Rattle.dfs_table.specs.Stored.{IsBlockOf, block_at, part, records_at, records_by}
use Rattle.dfs_table.proofs.Stays.{all_append, part_stays}
use Rattle.dfs_change.specs.Whole.{AreTablesAt, HasChanges, IsWhole, end_of, joined}
use Rattle.dfs_change.specs.Checks.{is_whole}
use Rattle.dfs_change.specs.Meant.{DamagedLogsMeanNothing, HasOneChangeSet, NothingBehindMeans, WholeLogsMean, changes_with, counted, fences_at, fences_in, log_meaning, tables_at, tables_of}
use Rattle.dfs_change.proofs.Bools.{passed}
use Rattle.dfs_change.proofs.Checks.{whole}

-- ---- only one list of tables, and of their fences

-- things that are spelled one after the other are read
so_many_again : {A : Type 0} (V : A → Type 0) (f : A → List ℕ) (read : List ℕ → Option (A × List ℕ)) → Reads V f read
    → (xs : List A) → AllByRecursion V xs → so_many read (length xs) (flat_map f xs) ≡ xs
unfolding so_many
so_many_again V f read reads [] valid = refl
so_many_again V f read reads (x ∷ xs) valid =
    ap (λ o. first_and o (λ rest. so_many read (length xs) rest)) (reads.again x (flat_map f xs) valid.0)
    ∙ ap (λ l. x ∷ l) (so_many_again V f read reads xs valid.1)

four_read : (bytes : List ℕ) → 4 ≤ length bytes → Some (counted bytes) ≡ number_in w32 bytes
four_read bytes long = sym (ap (λ b. cond b None (Some (counted bytes))) (le-ltb (length bytes) 4 long))

only_tables : (bytes : List ℕ) (ts : List Extent) → IsManifest bytes ts → tables_of bytes ≡ ts
only_tables bytes ts is = only (counted bytes) bytes ts (four_read bytes (Rattle.dfs_manifest.proofs.Manifests.long bytes ts is)) is

only_fences : (bytes : List ℕ) (fs : List Fence) → IsIndex bytes fs → fences_in bytes ≡ fs
only_fences bytes fs is =
    let are = inside (counted bytes) bytes fs (four_read bytes (Rattle.dfs_fence.proofs.Indexes.long bytes fs is)) is in
    ap (λ n. so_many fence_at n (drop 4 bytes)) (sym are.number)
    ∙ ap (so_many fence_at (length fs)) are.spelled
    ∙ so_many_again HasFields fence_bytes fence_at fences fs (all_fields fs are.fences.each)

only_all_fences : (file : List ℕ) (l : Listed) (ts : List Extent) (fss : List (List Fence)) → AreTablesAt file l ts fss → fences_at file ts ≡ fss
only_all_fences file l [] [] are = refl
only_all_fences file l [] (fs ∷ fss) are = absurd are
only_all_fences file l (t ∷ ts) [] are = absurd are
only_all_fences file l (t ∷ ts) (fs ∷ fss) are =
    let first = only_fences (part file t.0 t.1) fs are.0.index.index in
    let rest = only_all_fences file l ts fss are.1 in
    λ i. first i ∷ rest i

-- ---- whole or damaged

meaning_is : (file : List ℕ) (l : Listed) (ts : List Extent) (fss : List (List Fence)) → IsWhole file l ts fss → log_meaning file l ≡ Some (delta (records_by file (joined fss)))
unfolding log_meaning
meaning_is file l ts fss is =
    ap (λ us. changes_with file l us (fences_at file us)) (only_tables (part file l.at l.len) ts is.manifest)
    ∙ ap (changes_with file l ts) (only_all_fences file l ts fss is.tables)
    ∙ ap (λ b. cond b (Some (delta (records_by file (joined fss)))) None) ((whole file l ts fss).from is)

has_meaning : (file : List ℕ) (l : Listed) (d : Delta) → log_meaning file l ≡ Some d → HasChanges file l d
unfolding log_meaning
has_meaning file l d e =
    let ts = tables_at file l in
    let fss = fences_at file ts in
    let p = passed (is_whole file l ts fss) (Some (delta (records_by file (joined fss)))) d e in
    record { tables = ts; fences = fss; whole = (whole file l ts fss).to p.0; changes = sym (some_is (delta (records_by file (joined fss))) d p.1) }

means : (file : List ℕ) (l : Listed) (d : Delta) → HasChanges file l d → log_meaning file l ≡ Some d
means file l d h = meaning_is file l h.tables h.fences h.whole ∙ ap Some (sym h.changes)

pub whole_logs_mean : WholeLogsMean
whole_logs_mean file l d = (has_meaning file l d, means file l d)

-- what holds of an answer that is not there
none_of : {A : Type 0} (o : Option A) → ((x : A) → o ≡ Some x → ⊥) → o ≡ None
none_of None never = refl
none_of (Some x) never = absurd (never x refl)

pub damaged_logs : DamagedLogsMeanNothing
damaged_logs file l = (
  (λ e ts fss is. absurd (cc (e, meaning_is file l ts fss is))),
  (λ damaged. none_of (log_meaning file l) (λ d e. let h = has_meaning file l d e in damaged h.tables h.fences h.whole)),
)

pub one_change_set : HasOneChangeSet
one_change_set file l d e h k = some_is d e (sym (means file l d h) ∙ means file l e k)

-- ---- bytes behind the manifest

-- the files have the same bytes up to there
pub record AreAlike (end : ℕ) (old new : List ℕ) : Type 0 where
  pub parts : (at len : ℕ) → at + len ≤ end → part new at len ≡ part old at len
  pub inside : end ≤ length new

module _ (old new : List ℕ) where
  block_like : (end : ℕ) → AreAlike end old new → (f : Fence) → EndsBy end f → IsBlockOf old f → IsBlockOf new f
  block_like end alike f ends is =
      let same : block_at old f ≡ block_at new f = sym (alike.parts f.at f.len ends) in
      record {
        behind = is.behind;
        inside = omega (arith, ends, alike.inside);
        block = subst (λ b. IsBlock b (records_front f.count (drop 2 b))) same is.block;
        count = subst (λ b. length (records_front f.count (drop 2 b)) ≡ f.count) same is.count;
        first = subst (λ b. first_key (records_front f.count (drop 2 b)) ≡ Some f.first) same is.first;
        last = subst (λ b. last_key (records_front f.count (drop 2 b)) ≡ Some f.last) same is.last;
      }

  blocks_like : (end : ℕ) → AreAlike end old new → (fs : List Fence) → AllByRecursion (EndsBy end) fs → AllByRecursion (IsBlockOf old) fs → AllByRecursion (IsBlockOf new) fs
  blocks_like end alike [] ends is = tt
  blocks_like end alike (f ∷ fs) ends is = (block_like end alike f ends.0 is.0, blocks_like end alike fs ends.1 is.1)

  records_like : (end : ℕ) → AreAlike end old new → (fs : List Fence) → AllByRecursion (EndsBy end) fs → records_by new fs ≡ records_by old fs
  records_like end alike [] ends = refl
  records_like end alike (f ∷ fs) ends =
      let first : records_at new f ≡ records_at old f = ap (λ b. records_front f.count (drop 2 b)) (alike.parts f.at f.len ends.0) in
      let rest = records_like end alike fs ends.1 in
      λ i. first i ++ rest i

  table_like : (l : Listed) → AreAlike (end_of l) old new → (t : Extent) (fs : List Fence) → IsTableAt old l.job t.0 t.1 (end_of l) fs → IsTableAt new l.job t.0 t.1 (end_of l) fs
  table_like l alike t fs is = record {
    index = record {
      behind = is.index.behind;
      inside = omega (arith, is.index_ends, alike.inside);
      index = subst (λ b. IsIndex b fs) (sym (alike.parts t.0 t.1 is.index_ends)) is.index.index;
    };
    index_ends = is.index_ends;
    each = blocks_like (end_of l) alike fs is.each_ends is.each;
    each_ends = is.each_ends;
    within = subst (AllByRecursion (IsWithin l.job)) (sym (records_like (end_of l) alike fs is.each_ends)) is.within;
  }

  tables_like : (l : Listed) → AreAlike (end_of l) old new → (ts : List Extent) (fss : List (List Fence)) → AreTablesAt old l ts fss → AreTablesAt new l ts fss
  tables_like l alike [] [] are = tt
  tables_like l alike [] (fs ∷ fss) are = absurd are
  tables_like l alike (t ∷ ts) [] are = absurd are
  tables_like l alike (t ∷ ts) (fs ∷ fss) are = (table_like l alike t fs are.0, tables_like l alike ts fss are.1)

  all_end : (l : Listed) (ts : List Extent) (fss : List (List Fence)) → AreTablesAt old l ts fss → AllByRecursion (EndsBy (end_of l)) (joined fss)
  all_end l [] [] are = tt
  all_end l [] (fs ∷ fss) are = absurd are
  all_end l (t ∷ ts) [] are = absurd are
  all_end l (t ∷ ts) (fs ∷ fss) are = all_append (EndsBy (end_of l)) fs (joined fss) are.0.each_ends (all_end l ts fss are.1)

  whole_like : (l : Listed) → AreAlike (end_of l) old new → (ts : List Extent) (fss : List (List Fence)) → IsWhole old l ts fss → IsWhole new l ts fss
  whole_like l alike ts fss is = record {
    logged = record {
      long = omega (arith, is.logged.behind, alike.inside);
      header = alike.parts 0 12 (omega (arith, is.logged.behind)) ∙ is.logged.header;
      behind = is.logged.behind;
      inside = alike.inside;
    };
    manifest = subst (λ b. IsManifest b ts) (sym (alike.parts l.at l.len (omega arith))) is.manifest;
    tables = tables_like l alike ts fss is.tables;
    rise = is.rise;
    count = is.count;
  }

  changes_like : (l : Listed) → AreAlike (end_of l) old new → (d : Delta) → HasChanges old l d → HasChanges new l d
  changes_like l alike d h = record {
    tables = h.tables;
    fences = h.fences;
    whole = whole_like l alike h.tables h.fences h.whole;
    changes = h.changes ∙ ap delta (sym (records_like (end_of l) alike (joined h.fences) (all_end l h.tables h.fences h.whole.tables)));
  }

-- so the log means the same in both
pub alike_mean : (old new : List ℕ) (l : Listed) → AreAlike (end_of l) old new → AreAlike (end_of l) new old → log_meaning new l ≡ log_meaning old l
alike_mean old new l there back = by_case (log_meaning old l) refl
  where
    by_case : (o : Option Delta) → log_meaning old l ≡ o → log_meaning new l ≡ log_meaning old l
    by_case (Some d) e = means new l d (changes_like old new l there d (has_meaning old l d e)) ∙ sym e
    by_case None e = none_of (log_meaning new l) (λ d f. absurd (cc (e, means old l d (changes_like new old l back d (has_meaning new l d f))))) ∙ sym e

pub nothing_behind : NothingBehindMeans
nothing_behind file more l inside =
    alike_mean file (file ++ more) l
    (record { parts = λ at len ends. part_stays file more at len (omega (arith, ends, inside)); inside = omega (arith, inside, length-append file more) })
    (record { parts = λ at len ends. sym (part_stays file more at len (omega (arith, ends, inside))); inside = inside })
