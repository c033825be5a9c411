-- The disk after the first calls of a host.
use Rattle.std.proofs.Common.{◌≡◌, ℕ, ◌≤◌, ◌<◌, cond, leb, List, [], ◌∷◌, ◌++◌, refl, ◌∙◌, ap, arith, All}
use Rattle.std.proofs.lemmas.Bool.{le-leb, lt-leb}
use Rattle.std.proofs.lemmas.List.Elements.{All-weaker, All-head, All-tail}
use Rattle.dfs_mem.specs.declared.deed.Kept.{Kept}
use Rattle.dfs_mem.specs.declared.disk.MemDisk.{MemDisk}
use Rattle.dfs_mem.specs.declared.host.MemHost.{MemHost}
use Rattle.dfs_mem.specs.Deeds.{start_disk, disk_after, deeds_until}
use Rattle.dfs_mem.specs.Images.{disk_until, disk_at}
use Rattle.dfs_mem.specs.MemDisk.{disk_of}
use Rattle.dfs_mem.specs.MemHost.{state_of, calls_of}

until_all : (moment : ℕ) (deeds : List Kept) → All (λ (kept : Kept). kept.call ≤ moment) deeds → deeds_until moment deeds ≡ deeds
until_all moment [] all = refl
until_all moment (kept ∷ deeds) all =
    ap (λ b. cond b (kept ∷ deeds_until moment deeds) []) (le-leb kept.call moment (All-head (λ (k : Kept). k.call ≤ moment) kept deeds all))
    ∙ ap (λ (l : List Kept). kept ∷ l) (until_all moment deeds (All-tail (λ (k : Kept). k.call ≤ moment) kept deeds all))

-- a later deed at the end does not count
pub until_push : (moment : ℕ) (deeds : List Kept) (kept : Kept) → moment < kept.call → deeds_until moment (deeds ++ kept ∷ []) ≡ deeds_until moment deeds
until_push moment [] kept later = ap (λ b. cond b (kept ∷ []) []) (lt-leb kept.call moment later)
until_push moment (first ∷ deeds) kept later = ap (λ (l : List Kept). cond (leb first.call moment) (first ∷ l) []) (until_push moment deeds kept later)

-- after the last call that was kept it is the disk that there is now
pub disk_last : (mem : MemDisk) (moment : ℕ) → mem.last ≤ moment → disk_until mem moment ≡ disk_of mem
disk_last mem moment later =
    ap (λ (deeds : List Kept). disk_after deeds (start_disk mem.start.items mem.start_said.items))
    (until_all moment mem.deeds.items (All-weaker (λ (k : Kept). k.call ≤ mem.last) (λ (k : Kept). k.call ≤ moment) (λ k le. omega (arith, le, later)) mem.deeds.items mem.numbered))

-- after all of its calls it is the disk that the host has now
pub disk_now : (host : MemHost) → disk_at host (calls_of host) ≡ (state_of host).disk
disk_now host = disk_last host.disk host.calls host.in_order
