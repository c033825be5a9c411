-- Which of some runs has the last record with a key.
use Rattle.std.proofs.Common.{◌≡◌, ℕ, zero, suc, List, [], ◌∷◌, ◌++◌, length, drop, refl, sym, ap, subst, ◌∙◌, arith}
use Rattle.std.specs.Prelude.{true, false, Some, None, Option, Result, IfOk, IsSomeAnd, is_some, slice_get, flat_map}
use Rattle.std.specs.List.{AllByRecursion}
use Rattle.std.proofs.lemmas.Option.{same_Some}
use Rattle.dfs_record.specs.declared.Key.{Key}
use Rattle.dfs_record.specs.declared.Record.{Record}
use Rattle.dfs_record.specs.declared.Value.{Value}
use Rattle.dfs_record.specs.Delta.{Delta, last_value, or_else, records_of}
use Rattle.dfs_record.specs.KeyMap.{get}
use Rattle.dfs_record.proofs.Replays.{last_of_own, last_value-append, or_else-none}
use Rattle.dfs_table.specs.declared.table.Table.{Table}
use Rattle.dfs_table.specs.Spans.{NoneSpans, SpansAt}
use Rattle.dfs_table.specs.Stored.{IsTableOf, table_records}
use Rattle.dfs_table.proofs.Searching.{outside}

-- ---- tables, each in its own file

module _ (files : ℕ → List ℕ) where
  abbrev Lies : Table → Type 0
  Lies t = IsTableOf (files t.file) t

  abbrev records : Table → List Record
  records t = table_records (files t.file) t

  pub tables_nowhere : (ts : List Table) (key : Key) → AllByRecursion Lies ts → NoneSpans ts key → last_value key (flat_map records ts) ≡ None
  tables_nowhere [] key each none = refl
  tables_nowhere (t ∷ ts) key each none =
      last_value-append key (records t) (flat_map records ts)
      ∙ ap (λ o. or_else o (last_value key (records t))) (tables_nowhere ts key each.1 (λ i at. none (suc i) at))
      ∙ outside (files t.file) t key each.0 (λ spans. none 0 (t, (refl, spans)))

  -- where one table alone may span the key, its records decide
  pub tables_there : (ts : List Table) (key : Key) (i : ℕ) (t : Table) → AllByRecursion Lies ts → slice_get ts i ≡ Some t
      → ((j : ℕ) → SpansAt ts key j → j ≡ i) → last_value key (flat_map records ts) ≡ last_value key (records t)
  tables_there [] key i t each at only = absurd cc
  tables_there (x ∷ ts) key zero t each at only =
      last_value-append key (records x) (flat_map records ts)
      ∙ ap (λ o. or_else o (last_value key (records x))) (tables_nowhere ts key each.1 (λ j spans. absurd (omega (arith, only (suc j) spans))))
      ∙ ap (λ (y : Table). last_value key (records y)) (same_Some x t at)
  tables_there (x ∷ ts) key (suc i) t each at only =
      last_value-append key (records x) (flat_map records ts)
      ∙ ap (or_else (last_value key (flat_map records ts))) (outside (files x.file) x key each.0 (λ spans. absurd (omega (arith, only 0 (x, (refl, spans))))))
      ∙ or_else-none (last_value key (flat_map records ts))
      ∙ tables_there ts key i t each.1 at (λ j spans. omega (arith, only (suc j) spans))

-- ---- lists that are asked from the last one on

module _ {X : Type 0} (f : X → List Record) (q : Key) where
  pub none_more : (xs : List X) (n : ℕ) (x : X) → slice_get xs n ≡ Some x → last_value q (flat_map f (drop (suc n) xs)) ≡ None → last_value q (f x) ≡ None → last_value q (flat_map f (drop n xs)) ≡ None
  none_more [] n x at behind here = absurd cc
  none_more (y ∷ xs) zero x at behind here =
      last_value-append q (f y) (flat_map f xs) ∙ (λ i. or_else (behind i) (last_value q (f (same_Some y x at i)))) ∙ here
  none_more (y ∷ xs) (suc n) x at behind here = none_more xs n x at behind here

  pub found_at : (xs : List X) (n : ℕ) (x : X) (v : Value) → slice_get xs n ≡ Some x → last_value q (flat_map f (drop (suc n) xs)) ≡ None → last_value q (f x) ≡ Some v → last_value q (flat_map f xs) ≡ Some v
  found_at [] n x v at behind here = absurd cc
  found_at (y ∷ xs) zero x v at behind here =
      last_value-append q (f y) (flat_map f xs) ∙ (λ i. or_else (behind i) (last_value q (f (same_Some y x at i)))) ∙ here
  found_at (y ∷ xs) (suc n) x v at behind here =
      last_value-append q (f y) (flat_map f xs) ∙ ap (λ o. or_else o (last_value q (f y))) (found_at xs n x v at behind here)

  pub none_at_end : (xs : List X) → last_value q (flat_map f (drop (length xs) xs)) ≡ None
  none_at_end [] = refl
  none_at_end (x ∷ xs) = none_at_end xs

-- ---- answers

-- an answer that is one thing is another one that is the same
pub if_ok_same : {T E : Type 0} (result : Result T E) {a b : T} → IfOk result (λ found. found ≡ a) → a ≡ b → IfOk result (λ found. found ≡ b)
if_ok_same result h e = subst (λ x. IfOk result (λ found. found ≡ x)) e h

pub some_is : {X : Type 0} (o : Option X) (P : X → Type 0) → IsSomeAnd o P → (x : X) × (o ≡ Some x) × P x
some_is None P h = absurd h
some_is (Some x) P h = (x, refl, h)

module _ {X : Type 0} (f : X → List Record) (q : Key) where
  pub found_here : (o : Option Value) → is_some o ≡ true → (xs : List X) (n : ℕ) (x : X) → slice_get xs n ≡ Some x → last_value q (flat_map f (drop (suc n) xs)) ≡ None → o ≡ last_value q (f x) → o ≡ last_value q (flat_map f xs)
  found_here None some xs n x at behind e = absurd (cc some)
  found_here (Some v) some xs n x at behind e = sym (found_at f q xs n x v at behind (sym e))

pub none_is : (o : Option Value) {e : Option Value} → is_some o ≡ false → o ≡ e → e ≡ None
none_is None none same = sym same
none_is (Some v) none same = absurd (cc none)

-- ---- the open layer above the others

pub found_open : (d : Delta) (below : List Record) (q : Key) (v : Value) → Some v ≡ get d q → Some v ≡ last_value q (below ++ records_of d)
found_open d below q v e = sym (last_value-append q below (records_of d) ∙ ap (λ o. or_else o (last_value q below)) (last_of_own d q ∙ sym e))

pub found_under : (d : Delta) (below : List Record) (q : Key) → None ≡ get d q → last_value q below ≡ last_value q (below ++ records_of d)
found_under d below q e = sym (last_value-append q below (records_of d) ∙ ap (λ o. or_else o (last_value q below)) (last_of_own d q ∙ sym e))
