-- What the keys of all records pass, the ends of the blocks written of them pass.
use Rattle.std.proofs.Common.{◌≡◌, ◌≤◌, ℕ, Bool, true, false, List, [], ◌∷◌, ◌++◌, length, refl, sym, ap, subst, ◌∙◌, arith, append_assoc, ltb-true, ltb-false}
use Rattle.std.specs.Prelude.{Some, nat_lt, Result, IfOk, Ok, Err}
use Rattle.std.specs.List.{AllByRecursion}
use Rattle.dfs_record.specs.declared.Key.{Key}
use Rattle.dfs_record.specs.declared.Record.{Record}
use Rattle.dfs_block.specs.Block.{block_bytes, first_key, last_key, most_bytes}
use Rattle.dfs_fence.proofs.Spelled.{some_is}
use Rattle.dfs_table.specs.declared.run.Run.{Run}
use Rattle.dfs_table.specs.declared.table.Table.{Table}
use Rattle.dfs_table.specs.Tables.{all_fences}
use Rattle.dfs_table.specs.Writer.{AddsBlock, AddsTable, EndsPass, Fits, KeyPasses, WriterState, fences_of}
use Rattle.dfs_table.proofs.Joining.{fences_more}
use Rattle.dfs_table.proofs.Stays.{all_append}

module _ (p : Key → Bool) where
  first_passes : (rs : List Record) (key : Key) → AllByRecursion (KeyPasses p) rs → first_key rs ≡ Some key → p key ≡ true
  first_passes [] key all first = absurd cc
  first_passes (r ∷ rs) key all first = subst (λ (k : Key). p k ≡ true) (some_is r.key key first) all.0

  last_passes : (rs : List Record) (key : Key) → AllByRecursion (KeyPasses p) rs → last_key rs ≡ Some key → p key ≡ true
  last_passes [] key all last = absurd cc
  last_passes (r ∷ []) key all last = subst (λ (k : Key). p k ≡ true) (some_is r.key key last) all.0
  last_passes (r ∷ s ∷ rs) key all last = last_passes (s ∷ rs) key all.1 last

  abbrev Passes : WriterState → Type 0
  Passes w = AllByRecursion (EndsPass p) (fences_of w) × AllByRecursion (KeyPasses p) w.records

  block_passes : {place : ℕ} (old new : WriterState) → AddsBlock place old new → Passes old → AllByRecursion (EndsPass p) (fences_of new)
  block_passes old new adds h =
      subst (AllByRecursion (EndsPass p)) (sym adds.fences)
      (all_append (EndsPass p) (fences_of old) (adds.fence ∷ []) h.0 ((first_passes old.records adds.fence.first h.1 adds.first, last_passes old.records adds.fence.last h.1 adds.last), tt))

  pub push_passes : {place : ℕ} (old new : WriterState) (r : Record) → p r.key ≡ true → (Fits old r → new ≡ record old { records = old.records ++ r ∷ [] }) → (¬ (Fits old r) → (new.records ≡ r ∷ []) × AddsBlock place old new) → Passes old → Passes new
  push_passes old new r key fits begins h = by (nat_lt most_bytes (length (block_bytes (old.records ++ r ∷ [])))) refl
    where
      by : (b : Bool) → nat_lt most_bytes (length (block_bytes (old.records ++ r ∷ []))) ≡ b → Passes new
      by true e =
          let next = begins (λ le. absurd (omega (arith, ltb-true _ _ e, le))) in
          (block_passes old new next.1 h, subst (AllByRecursion (KeyPasses p)) (sym next.0) (key, tt))
      by false e =
          let same = fits (omega (arith, ltb-false _ _ e)) in
          subst Passes (sym same) (h.0, all_append (KeyPasses p) old.records (r ∷ []) h.1 (key, tt))

  table_passes : {place : ℕ} (w : WriterState) (ts : List Table) → AddsTable place w ts → Passes w → AllByRecursion (EndsPass p) (all_fences ts)
  table_passes w ts adds h =
      let all : all_fences ts ≡ fences_of w ++ adds.fence ∷ [] = ap all_fences adds.tables ∙ fences_more w.closed adds.table ∙ ap (λ fs. all_fences w.closed ++ fs) adds.fences ∙ sym (append_assoc (all_fences w.closed) w.fences (adds.fence ∷ [])) in
      subst (AllByRecursion (EndsPass p)) (sym all)
      (all_append (EndsPass p) (fences_of w) (adds.fence ∷ []) h.0 ((first_passes w.records adds.fence.first h.1 adds.first, last_passes w.records adds.fence.last h.1 adds.last), tt))

  -- at the end of the run
  pub end_passes : {E : Type 0} (place : ℕ) (w : WriterState) (result : Result Run E) → (w.records ≡ [] → IfOk result (λ (run : Run). run.tables ≡ [])) → (1 ≤ length w.records → IfOk result (λ (run : Run). AddsTable place w run.tables)) → Passes w
      → IfOk result (λ (run : Run). AllByRecursion (EndsPass p) (all_fences run.tables))
  end_passes place w (Err e) none last h = tt
  end_passes place w (Ok run) none last h = by w.records refl
    where
      by : (rs : List Record) → w.records ≡ rs → AllByRecursion (EndsPass p) (all_fences run.tables)
      by [] e = subst (λ (ts : List Table). AllByRecursion (EndsPass p) (all_fences ts)) (sym (none e)) tt
      by (r ∷ rs) e = table_passes w run.tables (last (omega (arith, ap length e))) h
