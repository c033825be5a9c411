-- What is found after runs of calls.
use Rattle.std.proofs.Common.{◌≡◌, ℕ, zero, suc, ◌+◌, ◌<◌, ◌≤◌, Bool, true, false, cond, List, [], ◌∷◌, fold, length, take, Option, Some, None, refl, sym, ap, ◌∙◌, arith}
use Rattle.std.specs.List.{AllByRecursion}
use Rattle.std.specs.Option.{option_map_or}
use Rattle.std.specs.Map.{lookup, lookup_entry, remove_entry}
use Rattle.std.proofs.lemmas.Bool.{cond-false}
use Rattle.std.proofs.lemmas.List.{take-take}
use Rattle.std.proofs.lemmas.Map.{lookup-remove_entry}
use Rattle.lru.proofs.CallerLemmas.{Contains-lookup_entry}
use Rattle.dfs_record.specs.declared.Key.{Key}
use Rattle.dfs_record.specs.declared.Entry.{Entry}
use Rattle.dfs_cache.specs.Latest.{Latest, Pair, put_first, same_key}
use Rattle.dfs_cache.specs.Runs.{getting, putting, forgetting, Call, after, Leaves, StaysFound, IsForgotten, GettingChangesNothing}
use Rattle.dfs_cache.proofs.Keys.{keys_alike, keys_one}

Finds : Key → Option Entry → List Pair → Type 0
Finds key x pairs = lookup (same_key key) pairs ≡ Some x

-- a look-up of a list whose first pair may have the key
step : (b : Bool) (x y : Option Entry) (m n : Option (Option Entry)) → cond b (Some y) m ≡ Some x → (m ≡ Some x → n ≡ Some x) → cond b (Some y) n ≡ Some x
step true x y m n is on = is
step false x y m n is on = on is

module _ (key : Key) (x : Option Entry) where
  -- what is found among the first pairs is found among more of them
  one_more : (n : ℕ) (es : List Pair) → Finds key x (take n es) → Finds key x (take (suc n) es)
  unfolding Finds
  one_more zero es is = absurd (cc is)
  one_more (suc n) [] is = absurd (cc is)
  one_more (suc n) (e ∷ es) is = step (same_key key e.0) x e.1 _ _ is (one_more n es)

  of_all : (n : ℕ) (es : List Pair) → Finds key x (take n es) → Finds key x es
  unfolding Finds
  of_all zero es is = absurd (cc is)
  of_all (suc n) [] is = absurd (cc is)
  of_all (suc n) (e ∷ es) is = step (same_key key e.0) x e.1 _ _ is (of_all n es)

  module _ (other : Key) (apart : same_key key other ≡ false) where
    -- another pair in front
    behind : (y : Option Entry) (es : List Pair) → Finds key x es → Finds key x ((other, y) ∷ es)
    unfolding Finds
    behind y es is = cond-false _ _ _ apart ∙ is

    -- another pair that goes pushes it no further back
    off : (n : ℕ) (es : List Pair) → Finds key x (take n es) → Finds key x (take n (remove_entry (same_key other) es))
    unfolding Finds
    off zero es is = is
    off (suc n) [] is = is
    off (suc n) (e ∷ es) is = by (same_key other e.0) refl (off n es)
      where
        by : (b : Bool) → same_key other e.0 ≡ b → (lookup (same_key key) (take n es) ≡ Some x → lookup (same_key key) (take n (remove_entry (same_key other) es)) ≡ Some x)
            → lookup (same_key key) (take (suc n) (cond b es (e ∷ remove_entry (same_key other) es))) ≡ Some x
        by true same rest =
            let not_here : same_key key e.0 ≡ false = ap (same_key key) (sym (keys_one other e.0 same)) ∙ apart in
            one_more n es (sym (cond-false _ _ _ not_here) ∙ is)
        by false _ rest = step (same_key key e.0) x e.1 _ _ is rest

-- a pair that comes to the front
entry_value : (key : Key) (es : List Pair) (e : Pair) → lookup_entry (same_key key) es ≡ Some e → lookup (same_key key) es ≡ Some e.1
entry_value key [] e is = absurd (cc is)
entry_value key (f ∷ es) e is = by (same_key key f.0) is (entry_value key es e)
  where
    by : (b : Bool) → cond b (Some f) (lookup_entry (same_key key) es) ≡ Some e → (lookup_entry (same_key key) es ≡ Some e → lookup (same_key key) es ≡ Some e.1) → cond b (Some f.1) (lookup (same_key key) es) ≡ Some e.1
    by true is rest = cc is
    by false is rest = rest is

abbrev forward : Key → List Pair → Option Pair → List Pair
forward other es o = option_map_or (λ e. e ∷ remove_entry (same_key other) es) o es

module _ (key : Key) (x : Option Entry) (other : Key) (n : ℕ) (es : List Pair) (is : Finds key x (take n es)) where
  brought : (o : Option Pair) → lookup_entry (same_key other) es ≡ o → Finds key x (take (suc n) (forward other es o))
  unfolding Finds
  brought None none = one_more key x n es is
  brought (Some e) found = by (same_key key other) refl
    where
      here : other ≡ e.0
      here = keys_one other e.0 (Contains-lookup_entry (same_key other) es e found).1

      by : (b : Bool) → same_key key other ≡ b → lookup (same_key key) (take (suc n) (e ∷ remove_entry (same_key other) es)) ≡ Some x
      by true same =
          let one : lookup (same_key other) es ≡ Some x = ap (λ k. lookup (same_key k) es) (sym (keys_one key other same)) ∙ of_all key x n es is in
          ap (λ b. cond b (Some e.1) (lookup (same_key key) (take n (remove_entry (same_key other) es)))) (ap (same_key key) (sym here) ∙ same) ∙ sym (entry_value other es e found) ∙ one
      by false apart = cond-false _ _ _ (ap (same_key key) (sym here) ∙ apart) ∙ off key x other apart n es is

-- a call moves the pair back by one place at most, and so puts it out only from the last place
one_call : (key : Key) (x : Option Entry) (n : ℕ) (l : Latest) (call : Call) → Leaves key call → n < l.capacity → Finds key x (take n l.pairs) → Finds key x (take (suc n) (after l call).pairs)
unfolding Finds
one_call key x n l (getting other) leaves inside is = brought key x other n l.pairs is (lookup_entry (same_key other) l.pairs) refl
one_call key x n l (putting other y) leaves inside is =
    ap (λ (es : List Pair). lookup (same_key key) es) (take-take (suc n) l.capacity ((other, y) ∷ remove_entry (same_key other) l.pairs) inside)
    ∙ behind key x other leaves y _ (off key x other leaves n l.pairs is)
one_call key x n l (forgetting other) leaves inside is = one_more key x n _ (off key x other leaves n l.pairs is)

same_capacity : (l : Latest) (call : Call) → (after l call).capacity ≡ l.capacity
same_capacity l (getting key) = refl
same_capacity l (putting key found) = refl
same_capacity l (forgetting key) = refl

run : (key : Key) (x : Option Entry) (calls : List Call) (n : ℕ) (l : Latest) → AllByRecursion (Leaves key) calls → n + length calls ≤ l.capacity → Finds key x (take n l.pairs) → Finds key x (fold after l calls).pairs
run key x [] n l leaves inside is = of_all key x n l.pairs is
run key x (call ∷ calls) n l leaves inside is =
    run key x calls (suc n) (after l call) leaves.1 (omega (arith, same_capacity l call)) (one_call key x n l call leaves.0 (omega arith) is)

pub stays_found : StaysFound
unfolding Finds
stays_found l key found calls leaves few = run key found calls 1 (put_first key found l) leaves (omega arith) (first l.capacity (omega arith))
  where
    first : (n : ℕ) → 1 ≤ n → lookup (same_key key) (take 1 (take n ((key, found) ∷ remove_entry (same_key key) l.pairs))) ≡ Some found
    first zero room = absurd (omega arith)
    first (suc n) room = ap (λ b. cond b (Some found) None) (keys_alike.refl key)

pub is_forgotten : IsForgotten
is_forgotten l key other is = lookup-remove_entry keys_alike (same_key key) (keys_alike.congr key) other l.pairs is.0

pub getting_changes_nothing : GettingChangesNothing
getting_changes_nothing l key other is = by (lookup_entry (same_key key) l.pairs) refl
  where
    by : (o : Option Pair) → lookup_entry (same_key key) l.pairs ≡ o → lookup (same_key other) (forward key l.pairs o) ≡ lookup (same_key other) l.pairs
    by None none = refl
    by (Some e) found =
        let here : key ≡ e.0 = keys_one key e.0 (Contains-lookup_entry (same_key key) l.pairs e found).1 in
        again e here (same_key other key) refl (entry_value key l.pairs e found)
      where
        again : (e : Pair) → key ≡ e.0 → (b : Bool) → same_key other key ≡ b → lookup (same_key key) l.pairs ≡ Some e.1
            → lookup (same_key other) (e ∷ remove_entry (same_key key) l.pairs) ≡ lookup (same_key other) l.pairs
        again e here true same at_key =
            ap (λ b. cond b (Some e.1) (lookup (same_key other) (remove_entry (same_key key) l.pairs))) (ap (same_key other) (sym here) ∙ same)
            ∙ sym at_key ∙ ap (λ k. lookup (same_key k) l.pairs) (sym (keys_one other key same))
        again e here false apart at_key =
            cond-false _ _ _ (ap (same_key other) (sym here) ∙ apart)
            ∙ lookup-remove_entry keys_alike (same_key key) (keys_alike.congr key) other l.pairs is.0
            ∙ cond-false _ _ _ (keys_alike.symm key other ∙ apart)
