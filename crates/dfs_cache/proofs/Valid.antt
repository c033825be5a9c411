-- What each call makes of pairs that are valid.
use Rattle.std.proofs.Common.{ℕ, zero, suc, Bool, List, [], ◌∷◌, take, Option, Some, None, IfSome}
use Rattle.std.specs.Map.{lookup, lookup_entry, remove_entry}
use Rattle.std.specs.Option.{option_map_or}
use Rattle.std.proofs.lemmas.Bool.{cond_both}
use Rattle.dfs_record.specs.declared.Key.{Key}
use Rattle.dfs_record.specs.declared.Entry.{Entry}
use Rattle.dfs_cache.specs.Latest.{Pair, IsFound, AreValid, same_key}

pub off_valid : (test : Key → Bool) (es : List Pair) → AreValid es → AreValid (remove_entry test es)
off_valid test [] all = tt
off_valid test (e ∷ es) all = cond_both (test e.0) es (e ∷ remove_entry test es) AreValid (λ _. all.1) (λ _. (all.0, off_valid test es all.1))

kept_valid : (n : ℕ) (es : List Pair) → AreValid es → AreValid (take n es)
kept_valid zero es all = tt
kept_valid (suc n) [] all = tt
kept_valid (suc n) (e ∷ es) all = (all.0, kept_valid n es all.1)

pub put_valid : (n : ℕ) (key : Key) (found : Option Entry) (es : List Pair) → IsFound found → AreValid es → AreValid (take n ((key, found) ∷ remove_entry (same_key key) es))
put_valid n key found es is all = kept_valid n ((key, found) ∷ remove_entry (same_key key) es) (is, off_valid (same_key key) es all)

entry_valid : (test : Key → Bool) (es : List Pair) → AreValid es → IfSome (lookup_entry test es) (λ e. IsFound e.1)
entry_valid test [] all = tt
entry_valid test (e ∷ es) all = cond_both (test e.0) (Some e) (lookup_entry test es) (λ o. IfSome o (λ e. IsFound e.1)) (λ _. all.0) (λ _. entry_valid test es all.1)

pub brought_valid : (key : Key) (es : List Pair) → AreValid es → AreValid (option_map_or (λ e. e ∷ remove_entry (same_key key) es) (lookup_entry (same_key key) es) es)
brought_valid key es all = by (lookup_entry (same_key key) es) (entry_valid (same_key key) es all)
  where
    by : (o : Option Pair) → IfSome o (λ e. IsFound e.1) → AreValid (option_map_or (λ e. e ∷ remove_entry (same_key key) es) o es)
    by None is = all
    by (Some e) is = (is, off_valid (same_key key) es all)

pub found_valid : (key : Key) (es : List Pair) → AreValid es → IfSome (lookup (same_key key) es) IsFound
found_valid key [] all = tt
found_valid key (e ∷ es) all = cond_both (same_key key e.0) (Some e.1) (lookup (same_key key) es) (λ o. IfSome o IsFound) (λ _. all.0) (λ _. found_valid key es all.1)
