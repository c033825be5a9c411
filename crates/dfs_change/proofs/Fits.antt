-- Change sets of a job as it goes on.
use Rattle.std.proofs.Common.{◌≡◌, ℕ, List, [], ◌∷◌, refl, subst}
use Rattle.std.specs.Prelude.{map}
use Rattle.std.specs.List.{AllByRecursion}
use Rattle.std.specs.declared.cmp.Ordering.{Ordering}
use Rattle.std.specs.declared.cmp.Ordering.TheVariants.{Less, Equal, Greater}
use Rattle.std.specs.FinMap.Entries.{put, by_order}
use Rattle.dfs_record.specs.declared.Key.{Key}
use Rattle.dfs_record.specs.declared.Record.{Record}
use Rattle.dfs_record.specs.declared.Value.{Value}
use Rattle.dfs_record.specs.Delta.{Delta, with_record}
use Rattle.dfs_record.specs.Key.{key_cmp, keys_exact}
use Rattle.dfs_table.specs.Identities.{IsWithin}
use Rattle.dfs_change.specs.Identities.{FitsJob, AreFit}
use Rattle.dfs_change.proofs.Maps.{record_at}

put_all : (P : Record → Type 0) (k : Key) (v : Value) (es : List (Key × Value)) → P (record_at (k, v)) → AllByRecursion P (map record_at es) → AllByRecursion P (map record_at (put key_cmp k v es))
put_all P k v [] p all = (p, tt)
put_all P k v (e ∷ es) p all = by_case (key_cmp k e.0) refl (put_all P k v es p all.1)
  where
    by_case : (o : Ordering) → key_cmp k e.0 ≡ o → AllByRecursion P (map record_at (put key_cmp k v es)) → AllByRecursion P (map record_at (by_order o ((k, v) ∷ e ∷ es) ((e.0, v) ∷ es) (e ∷ put key_cmp k v es)))
    by_case Less is rest = (p, all)
    by_case Equal is rest = (subst (λ (key : Key). P (record_at (key, v))) (keys_exact k e.0 is) p, all.1)
    by_case Greater is rest = (all.0, rest)

-- with one record more
pub fit_with : (job : ℕ) (d : Delta) (r : Record) → AreFit job d → FitsJob job r → AreFit job (with_record d r)
fit_with job d r all fit = put_all (FitsJob job) r.key r.value d.entries fit all

pub all_within : (job : ℕ) (rs : List Record) → AllByRecursion (FitsJob job) rs → AllByRecursion (IsWithin job) rs
all_within job [] fit = tt
all_within job (r ∷ rs) fit = (fit.0.within, all_within job rs fit.1)
