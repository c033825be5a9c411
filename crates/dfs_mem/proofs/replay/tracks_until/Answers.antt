use Rattle.std.proofs.Common.{◌<◌, ◌+◌, List, length, drop, sym, ◌∙◌, ap, arith}
use Rattle.dfs_host.specs.Disk.{FileState}
use Rattle.dfs_mem.specs.declared.deed.Kept.{Kept}
use Rattle.dfs_mem.specs.Deeds.{deeds_until}
use Rattle.dfs_mem.specs.Track.{track_at, file_after}
use Rattle.dfs_mem.proofs.Tracks.{until_goes, until_ends}
use Rattle.dfs_mem.proofs.replay.tracks_until.Goals as goal

pub loop-kept-init : goal.loop-kept-init
loop-kept-init c n = ap (λ (f : FileState). file_after n (deeds_until c.args.moment c.args.deeds.now) f) (c.in_ok-tracks.ensures n)

pub loop-kept-preserved : goal.loop-kept-preserved
loop-kept-preserved c n =
    let deeds = c.args.deeds.now in
    let kept = c.kept-item.result in
    let i = c.loop-kept.kept-index in
    let below : i < length deeds = omega arith in
    ap (λ (f : FileState). file_after n (deeds_until c.args.moment (drop (i + 1) deeds)) f) (c.in_ok-follow.ensures n)
    ∙ sym (ap (λ (l : List Kept). file_after n l (track_at c.loop-kept.tracks n)) (until_goes deeds i c.args.moment kept below c.kept-item.is (omega arith)))
    ∙ c.loop-kept.invariant n

pub returns-then-kept-moment : goal.returns-then-kept-moment
returns-then-kept-moment c n =
    let deeds = c.args.deeds.now in
    let kept = c.kept-item.result in
    let i = c.loop-kept.kept-index in
    let below : i < length deeds = omega arith in
    sym (ap (λ (l : List Kept). file_after n l (track_at c.loop-kept.tracks n)) (until_ends deeds i c.args.moment kept below c.kept-item.is (omega arith)))
    ∙ c.loop-kept.invariant n
