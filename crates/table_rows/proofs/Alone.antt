-- Runs of one table.
use Rattle.std.proofs.Common.{◌≡◌, ◌≤◌, ◌∷◌, [], ℕ, List, length, arith, sym, subst, slice_get}
use Rattle.std.specs.Prelude.{Some}
use Rattle.std.proofs.lemmas.List.{append-nil}
use Rattle.std.specs.List.{AllByRecursion}
use Rattle.dfs_table.specs.declared.table.Table.{Table}
use Rattle.dfs_table.specs.Stored.{IsTableOf, run_records, table_records}
use Rattle.dfs_table.specs.Writer.{AreIn}

pub record IsAlone (file : List ℕ) (job : ℕ) (ts : List Table) (t : Table) : Type 0 where
  pub stored : IsTableOf file t
  pub in_file : t.file ≡ job
  pub records : table_records file t ≡ run_records file ts

pub alone : (file : List ℕ) (job : ℕ) (ts : List Table) (t : Table) → slice_get ts 0 ≡ Some t → length ts ≤ 1 → AreIn job ts → AllByRecursion (IsTableOf file) ts → IsAlone file job ts t
alone file job [] t first few in_file stored = absurd cc
alone file job (u ∷ v ∷ ts) t first few in_file stored = absurd (omega (arith, few))
alone file job (u ∷ []) t first few in_file stored =
    let same : u ≡ t = cc in
    subst (λ (x : Table). IsAlone file job (u ∷ []) x) same (record {
      stored = stored.0;
      in_file = in_file.0;
      records = sym (append-nil (table_records file u));
    })
