use Rattle.std.proofs.Common.{ℕ, List, length, ◌||◌, cond, refl, sym, ◌∙◌, ap, arith}
use Rattle.dfs_host.specs.Disk.{overwritten, is_within, written}
use Rattle.dfs_mem.specs.Deeds.{tried}
use Rattle.dfs_mem.specs.Track.{marks, file_of}
use Rattle.dfs_mem.proofs.Tracks.{same_file}
use Rattle.dfs_mem.proofs.track.Track.write.Goals as goal

pub returns-in_ok-patch_bytes : goal.returns-in_ok-patch_bytes
returns-in_ok-patch_bytes c =
    let track = c.args.self.now in
    let patch = c.args.patch.now in
    let count = ap length c.deref-bytes.ensures.value in
    same_file _ (tried c.args.done (written patch.at patch.bytes.items (file_of track)) (file_of track))
    (c.in_ok-patch_bytes.ensures
    ∙ ap (λ (l : List ℕ). overwritten patch.at l track.bytes.items) c.deref-bytes.ensures.value
    ∙ sym (ap (λ b. cond b (overwritten patch.at patch.bytes.items track.bytes.items) track.bytes.items) c.if-done.true))
    refl
    (λ place. c.in_ok-mark.ensures place ∙ ap (λ n. marks track.touched.items place || is_within patch.at n place) count)
    refl
    (omega (arith, c.max-self.ensures, count))

pub returns-else-done : goal.returns-else-done
returns-else-done c =
    let track = c.args.self.now in
    let patch = c.args.patch.now in
    let count = ap length c.deref-bytes.ensures.value in
    same_file _ (tried c.args.done (written patch.at patch.bytes.items (file_of track)) (file_of track))
    (sym (ap (λ b. cond b (overwritten patch.at patch.bytes.items track.bytes.items) track.bytes.items) c.if-done.false))
    refl
    (λ place. c.in_ok-mark.ensures place ∙ ap (λ n. marks track.touched.items place || is_within patch.at n place) count)
    refl
    (omega (arith, c.max-self.ensures, count))
