-- What was stored in a file stays when the file grows.
use Rattle.std.proofs.Common.{◌≡◌, ◌≤◌, ◌+◌, ◌++◌, ◌∷◌, [], ℕ, List, length, take, drop, refl, ◌∙◌, sym, ap, subst, arith, Some}
use Rattle.std.specs.List.{AllByRecursion, flat_map}
use Rattle.std.proofs.lemmas.List.{length-append, length-drop, take-append-le, drop-append-le}
use Rattle.dfs_block.specs.Block.{IsBlock, first_key, last_key}
use Rattle.dfs_block.specs.Front.{records_front}
use Rattle.dfs_fence.specs.declared.fence.Fence.{Fence}
use Rattle.dfs_fence.specs.Index.{IsIndex}
use Rattle.dfs_table.specs.declared.table.Table.{Table}
use Rattle.dfs_table.specs.Stored.{IsBlockOf, IsIndexAt, IsTableOf, block_at, blocks_by, part, records_at, records_by, run_records, table_records}

pub all_append : {A : Type 0} (P : A → Type 0) (xs ys : List A) → AllByRecursion P xs → AllByRecursion P ys → AllByRecursion P (xs ++ ys)
all_append P [] ys a b = b
all_append P (x ∷ xs) ys a b = (a.0, all_append P xs ys a.1 b)

pub all_front : {A : Type 0} (P : A → Type 0) (xs ys : List A) → AllByRecursion P (xs ++ ys) → AllByRecursion P xs
all_front P [] ys all = tt
all_front P (x ∷ xs) ys all = (all.0, all_front P xs ys all.1)

pub all_behind : {A : Type 0} (P : A → Type 0) (xs ys : List A) → AllByRecursion P (xs ++ ys) → AllByRecursion P ys
all_behind P [] ys all = all
all_behind P (x ∷ xs) ys all = all_behind P xs ys all.1

pub all_weaker : {A : Type 0} (P Q : A → Type 0) (xs : List A) → ((x : A) → P x → Q x) → AllByRecursion P xs → AllByRecursion Q xs
all_weaker P Q [] to a = tt
all_weaker P Q (x ∷ xs) to a = (to x a.0, all_weaker P Q xs to a.1)

-- functions that agree where P holds
pub flat_alike : {A B : Type 0} (P : A → Type 0) (f g : A → List B) (xs : List A) → ((x : A) → P x → f x ≡ g x) → AllByRecursion P xs → flat_map f xs ≡ flat_map g xs
flat_alike P f g [] same a = refl
flat_alike P f g (x ∷ xs) same a = ap (λ l. l ++ flat_map f xs) (same x a.0) ∙ ap (λ l. g x ++ l) (flat_alike P f g xs same a.1)

pub part_stays : (file more : List ℕ) (at len : ℕ) → at + len ≤ length file → part (file ++ more) at len ≡ part file at len
part_stays file more at len inside =
    ap (λ l. take len l) (drop-append-le at file more (omega (arith, inside)))
    ∙ take-append-le len (drop at file) more (omega (arith, inside, length-drop at file))

module _ (file more : List ℕ) where
  block_stays : (f : Fence) → IsBlockOf file f → block_at (file ++ more) f ≡ block_at file f
  block_stays f is = part_stays file more f.at f.len is.inside

  records_stay : (f : Fence) → IsBlockOf file f → records_at (file ++ more) f ≡ records_at file f
  records_stay f is = ap (λ b. records_front f.count (drop 2 b)) (block_stays f is)

  pub longer : length file ≤ length (file ++ more)
  longer = omega (arith, length-append file more)

  is_block_still : (f : Fence) → IsBlockOf file f → IsBlockOf (file ++ more) f
  is_block_still f is =
      let same = sym (block_stays f is) in
      record {
        behind = is.behind;
        inside = omega (arith, is.inside, longer);
        block = subst (λ b. IsBlock b (records_front f.count (drop 2 b))) same is.block;
        count = subst (λ b. length (records_front f.count (drop 2 b)) ≡ f.count) same is.count;
        first = subst (λ b. first_key (records_front f.count (drop 2 b)) ≡ Some f.first) same is.first;
        last = subst (λ b. last_key (records_front f.count (drop 2 b)) ≡ Some f.last) same is.last;
      }

  pub blocks_stay : (fs : List Fence) → AllByRecursion (IsBlockOf file) fs → AllByRecursion (IsBlockOf (file ++ more)) fs
  blocks_stay fs = all_weaker (IsBlockOf file) (IsBlockOf (file ++ more)) fs is_block_still

  pub bytes_stay : (fs : List Fence) → AllByRecursion (IsBlockOf file) fs → blocks_by (file ++ more) fs ≡ blocks_by file fs
  bytes_stay fs = flat_alike (IsBlockOf file) (block_at (file ++ more)) (block_at file) fs block_stays

  pub all_records_stay : (fs : List Fence) → AllByRecursion (IsBlockOf file) fs → records_by (file ++ more) fs ≡ records_by file fs
  all_records_stay fs = flat_alike (IsBlockOf file) (records_at (file ++ more)) (records_at file) fs records_stay

  pub index_stays : (at len : ℕ) (fs : List Fence) → IsIndexAt file at len fs → IsIndexAt (file ++ more) at len fs
  index_stays at len fs is = record {
    behind = is.behind;
    inside = omega (arith, is.inside, longer);
    index = subst (λ b. IsIndex b fs) (sym (part_stays file more at len is.inside)) is.index;
  }

  pub table_stays : (t : Table) → IsTableOf file t → IsTableOf (file ++ more) t
  table_stays t is = record {
    index = index_stays t.index_at t.index_len t.fences is.index;
    each = blocks_stay t.fences is.each;
    blocks = is.blocks ∙ sym (bytes_stay t.fences is.each);
  }

  pub tables_stay : (ts : List Table) → AllByRecursion (IsTableOf file) ts → AllByRecursion (IsTableOf (file ++ more)) ts
  tables_stay ts = all_weaker (IsTableOf file) (IsTableOf (file ++ more)) ts table_stays

  pub run_stays : (ts : List Table) → AllByRecursion (IsTableOf file) ts → run_records (file ++ more) ts ≡ run_records file ts
  run_stays ts = flat_alike (IsTableOf file) (table_records (file ++ more)) (table_records file) ts (λ t is. all_records_stay t.fences is.each)
