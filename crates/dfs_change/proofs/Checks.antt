-- What the checks of a log tell.
use Rattle.std.proofs.Common.{◌≡◌, ℕ, ◌+◌, ◌^◌, ◌<◌, ◌≤◌, Bool, true, false, ◌&&◌, leb, ltb, T, List, [], ◌∷◌, length, take, refl, ap, ◌∙◌}
use Rattle.std.specs.Prelude.{Option, Some, None, ◌==◌, IsTrue}
use Rattle.std.specs.List.{AllByRecursion, list_all}
use Rattle.std.specs.Ordering.{is_lt, eq_by_cmp}
use Rattle.std.specs.Str.{bytes_eq}
use Rattle.std.proofs.lemmas.Bool.{and_parts, and_from, leb-true, le-leb, ltb-true, lt-ltb, eqb-true, eq-eqb}
use Rattle.std.proofs.lemmas.Slice.Eq.{bytes_eq-Decides}
use Rattle.dfs_record.specs.declared.DirId.{DirId}
use Rattle.dfs_record.specs.declared.Entry.TheVariants.{Dir, File}
use Rattle.dfs_record.specs.declared.Key.{Key}
use Rattle.dfs_record.specs.declared.Record.{Record}
use Rattle.dfs_record.specs.declared.Value.{Value}
use Rattle.dfs_record.specs.declared.Value.TheVariants.{Del, Put}
use Rattle.dfs_record.specs.Key.{key_cmp}
use Rattle.dfs_record.specs.Record.{IsId, IsKey, IsValue, IsRecord}
use Rattle.dfs_record.proofs.Maps.{alike_keys, same_key}
use Rattle.dfs_block.specs.Block.{IsBlock, first_key, last_key}
use Rattle.dfs_fence.specs.declared.fence.Fence.{Fence}
use Rattle.dfs_fence.specs.Index.{AreApart, IsFence, IsIndex}
use Rattle.dfs_fence.proofs.Orders.{less}
use Rattle.dfs_manifest.specs.Manifest.{Extent, IsExtent, IsManifest}
use Rattle.dfs_registry.specs.declared.listed.Listed.{Listed}
use Rattle.dfs_table.specs.Identities.{is_within, IsWithin}
use Rattle.dfs_table.specs.Opened.{EndsBy, IsTableAt}
use Rattle.dfs_table.specs.Stored.{IsBlockOf, records_at}
use Rattle.dfs_change.specs.Whole.{AreTablesAt, IsWhole, end_of, joined}
use Rattle.dfs_change.specs.Checks.{is_id, is_key, is_value, is_record, is_fence, is_extent, is_manifest, are_apart, is_index, is_block, has_key, is_block_of, is_table, are_tables, is_whole}

-- the check passes exactly where the fact holds
pub record Tells (b : Bool) (P : Type 0) : Type 0 where
  pub to : b ≡ true → P
  pub from : P → b ≡ true

infixl 10 ◌⊗◌
◌⊗◌ : {a b : Bool} {P Q : Type 0} → Tells a P → Tells b Q → Tells (a && b) (P × Q)
◌⊗◌ {a} {b} p q = record {
  to = λ e. (p.to (and_parts a b e).0, q.to (and_parts a b e).1);
  from = λ h. and_from a b (p.from h.0) (q.from h.1);
}

like : {b : Bool} {P Q : Type 0} → Tells b P → (P → Q) → (Q → P) → Tells b Q
like t there back = record { to = λ e. there (t.to e); from = λ h. t.from (back h) }

le : (m n : ℕ) → Tells (leb m n) (m ≤ n)
le m n = record { to = leb-true m n; from = le-leb m n }

lt : (m n : ℕ) → Tells (ltb m n) (m < n)
lt m n = record { to = ltb-true m n; from = lt-ltb m n }

eq : (m n : ℕ) → Tells (m == n) (m ≡ n)
eq m n = record { to = eqb-true m n; from = eq-eqb m n }

same : (xs ys : List ℕ) → Tells (bytes_eq xs ys) (xs ≡ ys)
same xs ys = record { to = (bytes_eq-Decides xs ys).0; from = (bytes_eq-Decides xs ys).1 }

itself : (b : Bool) → Tells b (IsTrue b)
itself b = record { to = λ e. e; from = λ e. e }

true_of : (b : Bool) → T b → b ≡ true
true_of true t = refl
true_of false t = absurd t

of_true : (b : Bool) → b ≡ true → T b
of_true true e = tt
of_true false e = absurd cc

holds : (b : Bool) → Tells b (T b)
holds b = record { to = of_true b; from = true_of b }

all : {A : Type 0} (p : A → Bool) (P : A → Type 0) → ((x : A) → Tells (p x) (P x)) → (xs : List A) → Tells (list_all p xs) (AllByRecursion P xs)
all p P each [] = record { to = λ e. tt; from = λ h. refl }
all p P each (x ∷ xs) = each x ⊗ all p P each xs

-- ---- valid

ids : (id : DirId) → Tells (is_id id) (IsId id)
ids id = lt id.job (2 ^ 32) ⊗ lt id.counter (2 ^ 32)

keys : (key : Key) → Tells (is_key key) (IsKey key)
keys key = like (ids key.parent ⊗ itself _) (λ p. record { parent = p.0; name = p.1 }) (λ h. (h.parent, h.name))

values : (v : Value) → Tells (is_value v) (IsValue v)
values Del = record { to = λ e. tt; from = λ h. refl }
values (Put (Dir id mode time)) =
    like (ids id ⊗ le 1 id.job ⊗ le 1 id.counter ⊗ le mode 4095 ⊗ lt time (2 ^ 64))
    (λ p. (p.0.0.0.0, p.0.0.0.1, p.0.0.1, p.0.1, p.1)) (λ h. ((((h.0, h.1), h.2), h.3), h.4))
values (Put (File mode time size reference)) =
    like (le mode 4095 ⊗ lt time (2 ^ 64) ⊗ lt size (2 ^ 64) ⊗ itself _) (λ p. (p.0.0.0, p.0.0.1, p.0.1, p.1)) (λ h. (((h.0, h.1), h.2), h.3))

records : (r : Record) → Tells (is_record r) (IsRecord r)
records r = like (keys r.key ⊗ values r.value) (λ p. record { key = p.0; value = p.1 }) (λ h. (h.key, h.value))

fences : (f : Fence) → Tells (is_fence f) (IsFence f)
fences f =
    like (lt f.at (2 ^ 64) ⊗ lt f.len (2 ^ 32) ⊗ lt f.count (2 ^ 16) ⊗ keys f.first ⊗ keys f.last ⊗ itself _)
    (λ p. record { fields = record { at = p.0.0.0.0.0; len = p.0.0.0.0.1; count = p.0.0.0.1; first = p.0.0.1; last = p.0.1 }; order = p.1 })
    (λ h. (((((h.fields.at, h.fields.len), h.fields.count), h.fields.first), h.fields.last), h.order))

extents : (t : Extent) → Tells (is_extent t) (IsExtent t)
extents t = lt t.0 (2 ^ 64) ⊗ lt t.1 (2 ^ 32)

-- ---- spelled so, and in order

manifests : (bytes : List ℕ) (ts : List Extent) → Tells (is_manifest bytes ts) (IsManifest bytes ts)
manifests bytes ts =
    like (le (length ts) 131072 ⊗ same bytes _ ⊗ all is_extent IsExtent extents ts)
    (λ p. record { few = p.0.0; spelled = p.0.1; fit = p.1 }) (λ h. ((h.few, h.spelled), h.fit))

apart : (fs : List Fence) → Tells (are_apart fs) (AreApart fs)
apart [] = record { to = λ e. tt; from = λ h. refl }
apart (f ∷ []) = record { to = λ e. tt; from = λ h. refl }
apart (f ∷ g ∷ fs) = record { to = less (key_cmp f.last g.first); from = λ h. ap is_lt h } ⊗ apart (g ∷ fs)

indexes : (bytes : List ℕ) (fs : List Fence) → Tells (is_index bytes fs) (IsIndex bytes fs)
indexes bytes fs =
    like (le 1 (length fs) ⊗ same bytes _ ⊗ le (length fs) 4096 ⊗ all is_fence IsFence fences fs ⊗ apart fs)
    (λ p. record { some = p.0.0.0.0; spelled = p.0.0.0.1; fences = record { few = p.0.0.1; each = p.0.1; apart = p.1 } })
    (λ h. ((((h.some, h.spelled), h.fences.few), h.fences.each), h.fences.apart))

blocks : (bytes : List ℕ) (rs : List Record) → Tells (is_block bytes rs) (IsBlock bytes rs)
blocks bytes rs =
    like (le 1 (length rs) ⊗ same bytes _ ⊗ le (length bytes) 4096 ⊗ holds _ ⊗ all is_record IsRecord records rs)
    (λ p. record { some = p.0.0.0.0; spelled = p.0.0.0.1; short = p.0.0.1; rise = p.0.1; valid = p.1 })
    (λ h. ((((h.some, h.spelled), h.short), h.rise), h.valid))

-- ---- in the file

has : (o : Option Key) (key : Key) → Tells (has_key o key) (o ≡ Some key)
has None key = record { to = λ e. absurd cc; from = λ h. absurd cc }
has (Some found) key = record {
  to = λ e. ap Some (alike_keys found key e);
  from = λ h. let is : found ≡ key = cc in ap (λ k. eq_by_cmp key_cmp k key) is ∙ same_key key;
}

blocks_of : (file : List ℕ) (f : Fence) → Tells (is_block_of file f) (IsBlockOf file f)
blocks_of file f =
    like (le 12 f.at ⊗ le (f.at + f.len) (length file) ⊗ blocks _ (records_at file f) ⊗ eq (length (records_at file f)) f.count ⊗ has (first_key (records_at file f)) f.first ⊗ has (last_key (records_at file f)) f.last)
    (λ p. record { behind = p.0.0.0.0.0; inside = p.0.0.0.0.1; block = p.0.0.0.1; count = p.0.0.1; first = p.0.1; last = p.1 })
    (λ h. (((((h.behind, h.inside), h.block), h.count), h.first), h.last))

tables : (file : List ℕ) (l : Listed) (t : Extent) (fs : List Fence) → Tells (is_table file l t fs) (IsTableAt file l.job t.0 t.1 (end_of l) fs)
tables file l t fs =
    like (le 12 t.0 ⊗ le (t.0 + t.1) (length file) ⊗ indexes _ fs ⊗ le (t.0 + t.1) (end_of l) ⊗ all (is_block_of file) (IsBlockOf file) (blocks_of file) fs ⊗ all (λ f. leb (f.at + f.len) (end_of l)) (EndsBy (end_of l)) (λ f. le (f.at + f.len) (end_of l)) fs ⊗ all (is_within l.job) (IsWithin l.job) (λ r. itself _) _)
    (λ p. record { index = record { behind = p.0.0.0.0.0.0; inside = p.0.0.0.0.0.1; index = p.0.0.0.0.1 }; index_ends = p.0.0.0.1; each = p.0.0.1; each_ends = p.0.1; within = p.1 })
    (λ h. ((((((h.index.behind, h.index.inside), h.index.index), h.index_ends), h.each), h.each_ends), h.within))

all_tables : (file : List ℕ) (l : Listed) (ts : List Extent) (fss : List (List Fence)) → Tells (are_tables file l ts fss) (AreTablesAt file l ts fss)
all_tables file l [] [] = record { to = λ e. tt; from = λ h. refl }
all_tables file l [] (fs ∷ fss) = record { to = λ e. absurd cc; from = λ h. absurd h }
all_tables file l (t ∷ ts) [] = record { to = λ e. absurd cc; from = λ h. absurd h }
all_tables file l (t ∷ ts) (fs ∷ fss) = tables file l t fs ⊗ all_tables file l ts fss

pub whole : (file : List ℕ) (l : Listed) (ts : List Extent) (fss : List (List Fence)) → Tells (is_whole file l ts fss) (IsWhole file l ts fss)
unfolding is_whole
whole file l ts fss =
    like (le 12 (length file) ⊗ same (take 12 file) _ ⊗ le 12 l.at ⊗ le (end_of l) (length file) ⊗ manifests _ ts ⊗ all_tables file l ts fss ⊗ apart (joined fss) ⊗ eq _ l.count)
    (λ p. record { logged = record { long = p.0.0.0.0.0.0.0; header = p.0.0.0.0.0.0.1; behind = p.0.0.0.0.0.1; inside = p.0.0.0.0.1 }; manifest = p.0.0.0.1; tables = p.0.0.1; rise = p.0.1; count = p.1 })
    (λ h. (((((((h.logged.long, h.logged.header), h.logged.behind), h.logged.inside), h.manifest), h.tables), h.rise), h.count))
