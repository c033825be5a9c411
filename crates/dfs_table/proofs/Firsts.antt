-- The blocks of a run that is stored, and is cut as its records say, and their first keys.
use Rattle.std.proofs.Common.{◌≡◌, ℕ, Bool, true, false, if◌then◌else◌, List, [], ◌∷◌, ◌++◌, length, map, drop, take, refl, sym, ap, ◌∙◌, arith, append_assoc}
use Rattle.std.specs.Prelude.{Option, filter_map, flat_map, get_or}
use Rattle.std.specs.List.{AllByRecursion, cons_option}
use Rattle.std.proofs.Math.Seq.{take-append_seam}
use Rattle.std.proofs.lemmas.List.{append_cancel_left}
use Rattle.std.proofs.lemmas.List.Folds.{flat_map-map}
use Rattle.dfs_record.specs.declared.Key.{Key}
use Rattle.dfs_record.specs.declared.Record.{Record}
use Rattle.dfs_record.specs.Delta.{Delta, records_of}
use Rattle.dfs_block.specs.Block.{first_key}
use Rattle.dfs_fence.specs.declared.fence.Fence.{Fence}
use Rattle.dfs_table.specs.declared.run.Run.{Run}
use Rattle.dfs_table.specs.declared.table.Table.{Table}
use Rattle.dfs_table.specs.Cut.{IsCut, block_firsts, cut, cut_behind, fits}
use Rattle.dfs_table.specs.Stored.{IsBlockOf, IsStored, IsTableOf, records_at, run_records}
use Rattle.dfs_table.specs.Tables.{all_fences}
use Rattle.dfs_table.proofs.Rising.{all_blocks, all_records}

-- lists that are the same when joined, and have the same lengths, are the same
split_once : {A : Type 0} (xs bs : List (List A)) → map length xs ≡ map length bs → flat_map (λ l. l) xs ≡ flat_map (λ l. l) bs → xs ≡ bs
split_once [] [] lengths joined = refl
split_once [] (b ∷ bs) lengths joined = absurd (omega (arith, ap length lengths))
split_once (a ∷ xs) [] lengths joined = absurd (omega (arith, ap length lengths))
split_once {A} (a ∷ xs) (b ∷ bs) lengths joined =
    let rest_a = flat_map (λ (l : List A). l) xs in
    let rest_b = flat_map (λ (l : List A). l) bs in
    let len : length a ≡ length b = ap (λ l. get_or l 0 0) lengths in
    let same : a ≡ b = sym (take-append_seam a rest_a) ∙ ap (take (length a)) joined ∙ ap (λ n. take n (b ++ rest_b)) len ∙ take-append_seam b rest_b in
    ap (λ l. l ∷ xs) same ∙ ap (λ l. b ∷ l) (split_once xs bs (ap (drop 1) lengths) (append_cancel_left b rest_a rest_b (ap (λ l. l ++ rest_a) (sym same) ∙ joined)))

-- what is cut are all the records
cut_whole : (rs block : List Record) → flat_map (λ b. b) (cut_behind rs block) ≡ block ++ rs
cut_whole [] [] = refl
cut_whole [] (b ∷ bs) = refl
cut_whole (r ∷ rs) block = by (cut_whole rs (block ++ r ∷ [])) (cut_whole rs (r ∷ [])) (fits block r)
  where
    by : flat_map (λ b. b) (cut_behind rs (block ++ r ∷ [])) ≡ (block ++ r ∷ []) ++ rs → flat_map (λ b. b) (cut_behind rs (r ∷ [])) ≡ r ∷ rs → (c : Bool)
        → flat_map (λ b. b) (if c then cut_behind rs (block ++ r ∷ []) else block ∷ cut_behind rs (r ∷ [])) ≡ block ++ r ∷ rs
    by more next true = more ∙ append_assoc block (r ∷ []) rs
    by more next false = ap (λ xs. block ++ xs) next

counted : (file : List ℕ) (fs : List Fence) → AllByRecursion (IsBlockOf file) fs → map length (map (records_at file) fs) ≡ map (λ (f : Fence). f.count) fs
counted file [] each = refl
counted file (f ∷ fs) each = ap (λ n. n ∷ map length (map (records_at file) fs)) each.0.count ∙ ap (λ l. f.count ∷ l) (counted file fs each.1)

firsts_of : (file : List ℕ) (fs : List Fence) → AllByRecursion (IsBlockOf file) fs → map (λ (f : Fence). f.first) fs ≡ filter_map first_key (map (records_at file) fs)
firsts_of file [] each = refl
firsts_of file (f ∷ fs) each = ap (λ l. f.first ∷ l) (firsts_of file fs each.1) ∙ ap (λ (o : Option Key). cons_option o (filter_map first_key (map (records_at file) fs))) (sym each.0.first)

-- the blocks in the file are those that the records are cut into
blocks_cut : (file : List ℕ) (ts : List Table) (rs : List Record) → AllByRecursion (IsTableOf file) ts → run_records file ts ≡ rs → IsCut rs ts → map (records_at file) (all_fences ts) ≡ cut rs
blocks_cut file ts rs each are is =
    let fs = all_fences ts in
    split_once (map (records_at file) fs) (cut rs)
    (counted file fs (all_blocks file ts each) ∙ is.blocks)
    (flat_map-map (λ (b : List Record). b) (records_at file) fs ∙ sym (all_records file ts) ∙ are ∙ sym (cut_whole rs []))

pub run_firsts : (file : List ℕ) (run : Run) (d : Delta) → IsStored file run d → IsCut (records_of d) run.tables → map (λ (f : Fence). f.first) (all_fences run.tables) ≡ block_firsts (records_of d)
run_firsts file run d stored is =
    firsts_of file (all_fences run.tables) (all_blocks file run.tables stored.each) ∙ ap (filter_map first_key) (blocks_cut file run.tables (records_of d) stored.each stored.records is)
