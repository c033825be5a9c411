-- One more call.
use Rattle.std.proofs.Common.{◌≡◌, inl, inr, ℕ, Bool, true, false, cond, eqb, List, [], ◌∷◌, ◌++◌, refl, sym, ◌∙◌, ap, subst, append_assoc, arith, ◌≤◌, All, Vec}
use Rattle.std.specs.declared.alloc.Global.{Global}
use Rattle.std.proofs.lemmas.List.Elements.{All-append, All-weaker, All-cons, All-nil}
use Rattle.std.proofs.lemmas.Bool.Decides.{eqb_tells}
use Rattle.std.proofs.lemmas.List.{append-nil}
use Rattle.dfs_host.specs.Disk.{FileState, Disk}
use Rattle.dfs_mem.specs.Deeds.{step, passed, disk_after, disks_before, start_disk, put, tried, sync_step}
use Rattle.dfs_mem.specs.declared.deed.Kept.{Kept}

pub disk_after-push : (deeds : List Kept) (kept : Kept) (disk : Disk) → disk_after (deeds ++ kept ∷ []) disk ≡ step kept.deed (disk_after deeds disk)
disk_after-push [] kept disk = refl
disk_after-push (first ∷ deeds) kept disk = disk_after-push deeds kept (step first.deed disk)

pub disks_before-push : (deeds : List Kept) (kept : Kept) (disk : Disk) → disks_before (deeds ++ kept ∷ []) disk ≡ disks_before deeds disk ++ passed kept.deed (disk_after deeds disk)
disks_before-push [] kept disk = append-nil (passed kept.deed disk)
disks_before-push (first ∷ deeds) kept disk =
    ap (λ (l : List Disk). passed first.deed disk ++ l) (disks_before-push deeds kept (step first.deed disk))
    ∙ sym (append_assoc (passed first.deed disk) (disks_before deeds (step first.deed disk)) (passed kept.deed (disk_after deeds (step first.deed disk))))

bytes-put : (b : Bool) (file other : FileState) → (cond b file other).bytes ≡ cond b file.bytes other.bytes
bytes-put true file other = refl
bytes-put false file other = refl

-- the bytes of each file after a step that changes file n
pub reads_put : (n : ℕ) (bytes : ℕ → List ℕ) (disk : Disk) → ((m : ℕ) → bytes m ≡ (disk.files m).bytes)
    → (done : Bool) (next : FileState) (changed : List ℕ) → changed ≡ next.bytes
    → (m : ℕ) → cond (eqb m n) (cond done changed (bytes n)) (bytes m) ≡ ((put n (tried done next (disk.files n)) disk).files m).bytes
reads_put n bytes disk same done next changed is m =
    ap (λ (l : List ℕ). cond (eqb m n) l (bytes m)) (ap (λ (l : List ℕ). cond done l (bytes n)) is ∙ ap (λ (l : List ℕ). cond done next.bytes l) (same n))
    ∙ ap (λ (l : List ℕ). cond (eqb m n) (cond done next.bytes (disk.files n).bytes) l) (same m)
    ∙ sym (bytes-put (eqb m n) (tried done next (disk.files n)) (disk.files m))

-- a sync changes no bytes
pub reads_sync : (n : ℕ) (disk : Disk) (m : ℕ) → ((sync_step n disk).files m).bytes ≡ (disk.files m).bytes
reads_sync n disk m = elim (eqb_tells m n) [
  | inl hit ↦ rw hit.0 (ap (λ k. (disk.files k).bytes) (sym hit.1))
  | inr miss ↦ rw miss.0 refl
]

-- a deed is kept at the end of a list that is the one from before
module _ (start : List (ℕ × Vec ℕ Global)) (said : List ℕ) (deeds mid new : List Kept) (kept : Kept) (is : new ≡ mid ++ kept ∷ []) (same : mid ≡ deeds) where
  longer : new ≡ deeds ++ kept ∷ []
  longer = is ∙ ap (λ (l : List Kept). l ++ kept ∷ []) same

  pub after_one : disk_after new (start_disk start said) ≡ step kept.deed (disk_after deeds (start_disk start said))
  after_one = ap (λ (l : List Kept). disk_after l (start_disk start said)) longer ∙ disk_after-push deeds kept (start_disk start said)

  -- no number is above the last one
  pub numbered_one : (last : ℕ) → All (λ (k : Kept). k.call ≤ last) deeds → last ≤ kept.call → All (λ (k : Kept). k.call ≤ kept.call) new
  numbered_one last numbered later =
      subst (λ (l : List Kept). All (λ (k : Kept). k.call ≤ kept.call) l) (sym longer)
      (All-append (λ (k : Kept). k.call ≤ kept.call) deeds (kept ∷ [])
      (All-weaker (λ (k : Kept). k.call ≤ last) (λ (k : Kept). k.call ≤ kept.call) (λ k le. omega (arith, le, later)) deeds numbered)
      (All-cons (λ (k : Kept). k.call ≤ kept.call) kept [] (omega arith) (All-nil (λ (k : Kept). k.call ≤ kept.call))))

-- what one more deed does
pub ruleset one_deed = (disk_after-push, disks_before-push)
