-- What a crash leaves of file 0 in each step of opening.
use Rattle.std.proofs.Common.{◌≡◌, ℕ, zero, suc, inl, inr, ◌+◌, ◌-◌, ◌<◌, ◌≤◌, false, List, [], ◌∷◌, ◌++◌, length, take, drop, refl, sym, ◌∙◌, ap, subst, arith, length-take, length-drop}
use Rattle.std.specs.Prelude.{IsTrue, Result, ◌==◌}
use Rattle.std.proofs.lemmas.List.{take_at, get_or-take}
use Rattle.std.specs.Str.{bytes_eq}
use Rattle.std.proofs.lemmas.Bool.{cond-true, cond-false, lt-leb, le-leb, and_left, and_cases, ltb-false}
use Rattle.std.proofs.Math.Seq.{take-append-add}
use Rattle.dfs_host.specs.Disk.{Disk as DiskState, Torn, Cropped, IsSettled, overwritten}
use Rattle.dfs_host.specs.Host.{HostState, bytes_of, Told, HasDiskCause, OnlyReads, ChangesNothing, ChangesOnly}
use Rattle.dfs_host.proofs.Files.{left_when_settled}
use Rattle.dfs_host.proofs.Moments.{nothing_changed, changes_on, reads_go_on, same_bytes}
use Rattle.dfs_registry.specs.declared.listed.Listed.{Listed}
use Rattle.dfs_registry.specs.Reading.{header, registry, listing, not_a_registry, blocks, at_rest, gate_of, is_open, IsListing}
use Rattle.dfs_registry.specs.Opening.{EndsBehind, IsShut}
use Rattle.dfs_registry.proofs.Gates.{stands_for, end_shut}
use Rattle.dfs_registry.proofs.Pieces.{shut_short}
use Rattle.dfs_registry.proofs.Writes.{torn_end, overwritten_end}

pub short_is_empty : (c : List ℕ) → length c ≤ 9 → registry c ≡ listing []
unfolding registry
short_is_empty c short = cond-true _ _ _ (le-leb (length c) 9 short)

-- Making an empty registry.

pub make_first : (old : List ℕ) → length old ≤ 9 → (c : List ℕ) → Cropped 0 old c → registry c ≡ listing []
make_first old short c cropped = short_is_empty c (omega (arith, short, ap length cropped.front, length-take (length c) old))

pub make_second : (mid : List ℕ) → mid ≡ [] → (c : List ℕ) → Torn 0 9 mid c → registry c ≡ listing []
make_second mid empty c torn = short_is_empty c (omega (arith, torn.no_longer, ap length empty))

pub make_done : (mid done : List ℕ) → mid ≡ [] → done ≡ overwritten 0 (header ++ 0 ∷ []) mid → done ≡ at_rest []
unfolding blocks
make_done mid done empty over = over ∙ ap (λ (l : List ℕ). overwritten 0 (header ++ 0 ∷ []) l) empty

-- Closing the ending gate.

shut_take : (n : ℕ) (l : List ℕ) → is_open l ≡ false → is_open (take n l) ≡ false
unfolding is_open
shut_take zero l shut = end_shut
shut_take (suc n) l shut = elim (and_cases _ _ shut) [
  | inl other ↦ and_left _ _ (ap (λ v. v == 1) (get_or-take (suc n) l 0 0 (omega arith)) ∙ other)
  | inr short ↦ shut_short (take (suc n) l) (omega (arith, length-take (suc n) l, ltb-false 1 (length l) short))
]

module _ (bs : List Listed) (is : IsListing bs) (old : List ℕ) (gate : ℕ) (here : gate ≡ gate_of bs) (ends : EndsBehind bs old) where
  front : List ℕ
  front = header ++ blocks bs

  length-front : length front ≡ gate
  unfolding front
  length-front = omega (arith, here)

  whole : old ≡ front ++ ends.ending
  unfolding front
  whole = ends.file

  pub stands : registry old ≡ listing bs
  stands = ap registry ends.file ∙ stands_for bs ends.ending is ends.shut

  pub close_first : (c : List ℕ) → Cropped gate old c → registry c ≡ listing bs
  unfolding front
  close_first c cropped =
      let m = length c - gate in
      let long : length c ≡ length front + m = omega (arith, cropped.no_shorter, length-front) in
      ap registry (cropped.front ∙ ap (take (length c)) whole ∙ ap (λ n. take n (front ++ ends.ending)) long ∙ take-append-add front ends.ending m)
      ∙ stands_for bs (take m ends.ending) is (shut_take m ends.ending ends.shut)

  is_front : (mid : List ℕ) → mid ≡ take gate old → mid ≡ front
  is_front mid cut = cut ∙ ap (take gate) whole ∙ take_at front ends.ending gate length-front

  pub close_second : (mid : List ℕ) → mid ≡ take gate old → (c : List ℕ) → Torn gate 1 mid c → registry c ≡ listing bs
  unfolding front
  close_second mid cut c torn =
      let long : length mid ≡ gate = ap length (is_front mid cut) ∙ length-front in
      ap registry (torn_end gate 1 mid c long torn ∙ ap (λ (l : List ℕ). l ++ drop gate c) (is_front mid cut))
      ∙ stands_for bs (drop gate c) is (shut_short (drop gate c) (omega (arith, length-drop gate c, torn.no_longer, long)))

  pub close_done : (mid done : List ℕ) → mid ≡ take gate old → done ≡ overwritten gate (0 ∷ []) mid → done ≡ at_rest bs
  unfolding front
  close_done mid done cut over =
      let long : length mid ≡ gate = ap length (is_front mid cut) ∙ length-front in
      over ∙ overwritten_end gate (0 ∷ []) mid long ∙ ap (λ (l : List ℕ). l ++ 0 ∷ []) (is_front mid cut)

-- of a settled file 0 reads leave what it stands for
pub reads_leave : {old new : HostState} → IsSettled (old.disk.files 0) → OnlyReads old new → IsTrue old.tells → ChangesOnly 0 (λ c. registry c ≡ registry (bytes_of old 0)) old new
reads_leave settled only tells = nothing_changed (only.content tells) (λ bytes may. ap registry (left_when_settled settled bytes may))

pub close_leaves : {old mid new : HostState} {bs : List Listed} → IsSettled (old.disk.files 0) → OnlyReads old mid → IsTrue old.tells → registry (bytes_of old 0) ≡ listing bs
    → ChangesOnly 0 (λ c. registry c ≡ listing bs) mid new → ChangesOnly 0 (λ c. registry c ≡ registry (bytes_of old 0)) old new
close_leaves settled only tells is close = changes_on (reads_leave settled only tells) close (λ c closed. closed ∙ sym is)

-- what the file stood for before the reads that found its bodies
pub stood : {old mid : HostState} {bs : List Listed} → OnlyReads old mid → IsTrue old.tells → IsListing bs → EndsBehind bs (bytes_of mid 0) → registry (bytes_of old 0) ≡ listing bs
stood only tells is ends = ap registry (sym (same_bytes only tells 0)) ∙ stands _ is _ _ refl ends

-- and so does a look at its length, before it is opened
pub opened_after : {old mid new : HostState} → IsSettled (old.disk.files 0) → ChangesNothing old mid
    → ChangesOnly 0 (λ c. registry c ≡ registry (bytes_of mid 0)) mid new → ChangesOnly 0 (λ c. registry c ≡ registry (bytes_of old 0)) old new
opened_after settled same opened =
    changes_on (nothing_changed same (λ bytes may. ap registry (left_when_settled settled bytes may))) opened
    (λ c is. is ∙ ap (λ (d : DiskState). registry (d.files 0).bytes) same.disk)

pub other_header : (file : List ℕ) → 9 < length file → bytes_eq (take 8 file) header ≡ false → registry file ≡ not_a_registry
unfolding registry
other_header file long other = cond-false _ _ _ (lt-leb (length file) 9 long) ∙ cond-false _ _ _ other

-- a shut file is only read where a look at its length comes before
pub shut_after : {old mid new : HostState} {T E : Type 0} {result : Result T E} → HasDiskCause old mid result → Told old (ChangesNothing old mid)
    → Told mid (IsShut (registry (bytes_of mid 0)) → OnlyReads mid new) → Told old (IsShut (registry (bytes_of old 0)) → OnlyReads old new)
shut_after {old} {mid} cause same then tells shut =
    let seen : OnlyReads old mid = record { tells = cause.tells; say_faults = cause.say_faults; content = same } in
    reads_go_on seen (then (seen.tells ∙ tells) (subst (λ (l : List ℕ). IsShut (registry l)) (sym (same_bytes seen tells 0)) shut))
