-- Tables that a manifest tells of.
use Rattle.std.proofs.Common.{◌≡◌, ◌≤◌, ◌+◌, ◌++◌, ◌∷◌, [], zero, suc, ℕ, List, length, take, drop, refl, ◌∙◌, sym, ap, subst, arith, slice_get, Some}
use Rattle.std.specs.List.{AllByRecursion}
use Rattle.std.proofs.lemmas.Grind.{flat_map-append}
use Rattle.std.proofs.lemmas.List.{length-append, length-drop, length-map, length-take, map-append, take-append-drop, take_all}
use Rattle.dfs_record.specs.Delta.{delta}
use Rattle.dfs_fence.specs.declared.fence.Fence.{Fence}
use Rattle.dfs_fence.specs.Index.{AreApart}
use Rattle.dfs_fence.specs.Places.{Lies}
use Rattle.dfs_fence.proofs.Indexes.{one_list}
use Rattle.dfs_fence.proofs.Spelled.{some_is}
use Rattle.dfs_manifest.specs.Manifest.{Extent, IsManifest}
use Rattle.dfs_manifest.proofs.Manifests.{short, one_list as one_manifest}
use Rattle.dfs_registry.specs.declared.listed.Listed.{Listed}
use Rattle.dfs_table.specs.declared.table.Table.{Table}
use Rattle.dfs_table.specs.Counts.{count_of}
use Rattle.dfs_table.specs.Opened.{IsNoTable, IsTableAt}
use Rattle.dfs_table.specs.Identities.{IsWithin}
use Rattle.dfs_table.specs.Stored.{part, records_by, run_records, table_records}
use Rattle.dfs_table.specs.Tables.{AreTables, all_fences}
use Rattle.dfs_table.proofs.Counting.{take_next}
use Rattle.dfs_table.proofs.Finding.{each_at}
use Rattle.dfs_table.proofs.Opening.{lies_of}
use Rattle.dfs_table.proofs.Rising.{all_records}
use Rattle.dfs_table.proofs.Stays.{all_append}
use Rattle.dfs_change.specs.Whole.{AreTablesAt, HasChanges, IndexesLie, IndexesMayLie, IsDamaged, IsLogged, IsWhole, end_of, extents_of, joined, reads_of, table_fences}
use Rattle.dfs_change.proofs.Ended.{joined_fences}

apart_front : (xs ys : List Fence) → AreApart (xs ++ ys) → AreApart xs
apart_front [] ys apart = tt
apart_front (x ∷ []) ys apart = tt
apart_front (x ∷ z ∷ xs) ys apart = (apart.0, apart_front (z ∷ xs) ys apart.1)

joined_front : (fss : List (List Fence)) (k : ℕ) → AreApart (joined fss) → AreApart (joined (take k fss))
joined_front fss k apart =
    apart_front (joined (take k fss)) (joined (drop k fss))
    (subst AreApart (ap joined (sym (take-append-drop k fss)) ∙ flat_map-append (λ (fs : List Fence). fs) (take k fss) (drop k fss)) apart)

-- where the indexes lie, with one table more
pub places_next : (ts : List Extent) (i : ℕ) (t : Extent) (tables : List Table) (table : Table) → slice_get ts i ≡ Some t → extents_of tables ≡ take i ts → (table.index_at, table.index_len) ≡ t → extents_of (tables ++ table ∷ []) ≡ take (i + 1) ts
places_next ts i t tables table is so_far here =
    map-append (λ (t : Table). (t.index_at, t.index_len)) tables (table ∷ [])
    ∙ ap (λ es. es ++ (table.index_at, table.index_len) ∷ []) so_far
    ∙ ap (λ (e : Extent). take i ts ++ e ∷ []) here
    ∙ sym (take_next ts i t is)

-- how many blocks, with one table more
pub fences_next : (tables : List Table) (table : Table) → length (all_fences (tables ++ table ∷ [])) ≡ length (all_fences tables) + length table.fences
fences_next tables table =
    omega (
      arith,
      ap length (flat_map-append (λ (t : Table). t.fences) tables (table ∷ [])),
      length-append (all_fences tables) (all_fences (table ∷ [])),
      length-append table.fences [],
    )

-- one place more
pub lie_next : (ts : List Extent) (end i : ℕ) (t : Extent) → slice_get ts i ≡ Some t → IndexesLie end (take i ts) → Lies t.0 t.1 2220036 end → IndexesLie end (take (i + 1) ts)
lie_next ts end i t is so_far here =
    subst (IndexesLie end) (sym (take_next ts i t is)) (all_append (λ (e : Extent). Lies e.0 e.1 2220036 end) (take i ts) (t ∷ []) so_far (here, tt))

-- a place where no index may lie
pub lies_not : (ts : List Extent) (end i : ℕ) (t : Extent) → slice_get ts i ≡ Some t → ¬ (Lies t.0 t.1 2220036 end) → IndexesLie end ts → ⊥
lies_not ts end i t is out all = out (each_at (λ (e : Extent). Lies e.0 e.1 2220036 end) ts i t all is)

pub lie_all : (ts : List Extent) (end i : ℕ) → length ts ≤ i → IndexesLie end (take i ts) → IndexesLie end ts
lie_all ts end i past all = subst (IndexesLie end) (take_all i ts past) all

module _ (file : List ℕ) (l : Listed) where
  one_table : (t : Extent) (fs gs : List Fence) → IsTableAt file l.job t.0 t.1 (end_of l) fs → IsTableAt file l.job t.0 t.1 (end_of l) gs → fs ≡ gs
  one_table t fs gs a b = one_list (part file t.0 t.1) fs gs a.index.index b.index.index

  one_tables : (ts : List Extent) (fss gss : List (List Fence)) → AreTablesAt file l ts fss → AreTablesAt file l ts gss → fss ≡ gss
  one_tables [] [] [] a b = refl
  one_tables [] [] (g ∷ gss) a b = absurd b
  one_tables [] (f ∷ fss) gss a b = absurd a
  one_tables (t ∷ ts) [] gss a b = absurd a
  one_tables (t ∷ ts) (f ∷ fss) [] a b = absurd b
  one_tables (t ∷ ts) (f ∷ fss) (g ∷ gss) a b = ap (λ fs. fs ∷ fss) (one_table t f g a.0 b.0) ∙ ap (λ l. g ∷ l) (one_tables ts fss gss a.1 b.1)

  tables_end : (ts : List Extent) (fss : List (List Fence)) (t : Extent) (fs : List Fence) → AreTablesAt file l ts fss → IsTableAt file l.job t.0 t.1 (end_of l) fs → AreTablesAt file l (ts ++ t ∷ []) (fss ++ fs ∷ [])
  tables_end [] [] t fs are is = (is, tt)
  tables_end [] (g ∷ gss) t fs are is = absurd are
  tables_end (u ∷ us) [] t fs are is = absurd are
  tables_end (u ∷ us) (g ∷ gss) t fs are is = (are.0, tables_end us gss t fs are.1 is)

  tables_front : (ts : List Extent) (fss : List (List Fence)) (k : ℕ) → AreTablesAt file l ts fss → AreTablesAt file l (take k ts) (take k fss)
  tables_front ts fss zero are = tt
  tables_front [] [] (suc k) are = tt
  tables_front [] (g ∷ gss) (suc k) are = absurd are
  tables_front (t ∷ ts) [] (suc k) are = absurd are
  tables_front (t ∷ ts) (g ∷ gss) (suc k) are = (are.0, tables_front ts gss k are.1)

  table_there : (ts : List Extent) (fss : List (List Fence)) (i : ℕ) (t : Extent) → AreTablesAt file l ts fss → slice_get ts i ≡ Some t → (fs : List Fence) × IsTableAt file l.job t.0 t.1 (end_of l) fs
  table_there [] fss i t are is = absurd cc
  table_there (u ∷ us) [] i t are is = absurd are
  table_there (u ∷ us) (g ∷ gss) zero t are is = (g, subst (λ (e : Extent). IsTableAt file l.job e.0 e.1 (end_of l) g) (some_is u t is) are.0)
  table_there (u ∷ us) (g ∷ gss) (suc i) t are is = table_there us gss i t are.1 is

  -- a manifest with a table that is none
  pub none_there : (ts : List Extent) (fss : List (List Fence)) (i : ℕ) (t : Extent) → slice_get ts i ≡ Some t → IsNoTable file l.job t.0 t.1 (end_of l) → AreTablesAt file l ts fss → ⊥
  none_there ts fss i t is none are = let there = table_there ts fss i t are is in none there.0 there.1

  -- one table more
  pub tables_next : (ts : List Extent) (i : ℕ) (t : Extent) (tables : List Table) (table : Table) → slice_get ts i ≡ Some t → AreTablesAt file l (take i ts) (table_fences tables) → IsTableAt file l.job t.0 t.1 (end_of l) table.fences
      → AreTablesAt file l (take (i + 1) ts) (table_fences (tables ++ table ∷ []))
  tables_next ts i t tables table is so_far here =
      subst (λ us. AreTablesAt file l us (table_fences (tables ++ table ∷ []))) (sym (take_next ts i t is))
      (subst (λ gss. AreTablesAt file l (take i ts ++ t ∷ []) gss) (sym (map-append (λ (t : Table). t.fences) tables (table ∷ []))) (tables_end (take i ts) (table_fences tables) t table.fences so_far here))

  -- no identity in their records is of a later job
  pub run_within : (ts : List Extent) (tables : List Table) → AreTablesAt file l ts (table_fences tables) → AllByRecursion (IsWithin l.job) (run_records file tables)
  run_within ts [] are = tt
  run_within [] (t ∷ tables) are = absurd are
  run_within (e ∷ ts) (t ∷ tables) are = all_append (IsWithin l.job) (table_records file t) (run_records file tables) are.0.within (run_within ts tables are.1)

  -- the first tables are not apart, and so not all
  pub not_apart : (ts : List Extent) (fss : List (List Fence)) (k : ℕ) (tables : List Table) → AreTablesAt file l (take k ts) (table_fences tables) → ¬ (AreApart (all_fences tables)) → AreTablesAt file l ts fss → AreApart (joined fss) → ⊥
  not_apart ts fss k tables firsts out are apart =
      let same : take k fss ≡ table_fences tables = one_tables (take k ts) (take k fss) (table_fences tables) (tables_front ts fss k are) firsts in
      out (subst AreApart (ap joined same ∙ joined_fences tables) (joined_front fss k apart))

  -- where tables are, an index may lie at each place
  pub tables_lie : (ts : List Extent) (fss : List (List Fence)) → AreTablesAt file l ts fss → IndexesLie (end_of l) ts
  tables_lie [] fss are = tt
  tables_lie (t ∷ ts) [] are = absurd are
  tables_lie (t ∷ ts) (fs ∷ fss) are = (lies_of file l.job (end_of l) t.0 t.1 fs are.0, tables_lie ts fss are.1)

  pub may_lie : (ts : List Extent) (end : ℕ) → IsManifest (part file l.at l.len) ts → end ≡ end_of l → IndexesLie end ts → IndexesMayLie file l
  may_lie ts end manifest same lie = record { tables = ts; manifest = manifest; lie = subst (λ n. IndexesLie n ts) same lie }

  pub whole_lies : (ts : List Extent) (fss : List (List Fence)) → IsWhole file l ts fss → IndexesMayLie file l
  whole_lies ts fss whole = may_lie ts (end_of l) whole.manifest refl (tables_lie ts fss whole.tables)

  -- ---- the whole log

  module _ (ts : List Extent) (tables : List Table) (manifest : IsManifest (part file l.at l.len) ts) (are : AreTablesAt file l ts (table_fences tables)) where
    pub whole_by : IsLogged file l → AreTables tables → count_of (all_fences tables) ≡ l.count → IsWhole file l ts (table_fences tables)
    whole_by logged of_run count = record {
      logged = logged;
      manifest = manifest;
      tables = are;
      rise = subst AreApart (sym (joined_fences tables)) of_run.rise;
      count = ap count_of (joined_fences tables) ∙ count;
    }

    pub other_count : ¬ (count_of (all_fences tables) ≡ l.count) → IsDamaged file l
    other_count other us gss whole =
        let same = one_manifest (part file l.at l.len) us ts whole.manifest manifest in
        let fences : gss ≡ table_fences tables = one_tables ts gss (table_fences tables) (subst (λ es. AreTablesAt file l es gss) same whole.tables) are in
        other (sym (ap count_of (ap joined fences ∙ joined_fences tables)) ∙ whole.count)

  -- the change set is that of the tables' records
  pub changes_by : (ts : List Extent) (tables : List Table) → IsWhole file l ts (table_fences tables) → HasChanges file l (delta (run_records file tables))
  changes_by ts tables whole = record {
    tables = ts;
    fences = table_fences tables;
    whole = whole;
    changes = ap delta (all_records file tables ∙ ap (records_by file) (sym (joined_fences tables)));
  }

  pub too_long : ¬ (l.len ≤ 1572868) → IsDamaged file l
  too_long long us gss whole = long (omega (arith, short (part file l.at l.len) us whole.manifest, length-take l.len (drop l.at file), length-drop l.at file, whole.logged.inside))

-- one read for each table and each of its blocks, behind two others
pub reads_in : (tables : List Table) → 2 + (length tables + length (all_fences tables)) ≡ reads_of (table_fences tables)
reads_in tables = omega (arith, length-map {B = List Fence} tables (λ (t : Table). t.fences), ap length (joined_fences tables))
