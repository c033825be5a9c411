use Rattle.std.proofs.Common.{ℕ, ◌<◌, ◌+◌, List, length, drop, sym, ◌∙◌, ap, arith}
use Rattle.dfs_mem.specs.declared.deed.Kept.{Kept}
use Rattle.dfs_mem.specs.Deeds.{deeds_until}
use Rattle.dfs_mem.specs.Track.{said_after}
use Rattle.dfs_mem.proofs.Tracks.{until_goes, until_ends}
use Rattle.dfs_mem.proofs.track.heard_until.Goals as goal

pub loop-kept-init : goal.loop-kept-init
loop-kept-init c = ap (λ (l : List ℕ). said_after (deeds_until c.args.moment c.args.deeds.now) l) (c.in_ok-said.ensures.items_if_clones_equal (λ x y same. same))

pub loop-kept-preserved : goal.loop-kept-preserved
loop-kept-preserved c =
    let deeds = c.args.deeds.now in
    let kept = c.kept-item.result in
    let i = c.loop-kept.kept-index in
    let below : i < length deeds = omega arith in
    ap (λ (l : List ℕ). said_after (deeds_until c.args.moment (drop (i + 1) deeds)) l) c.in_ok-hear.ensures
    ∙ sym (ap (λ (l : List Kept). said_after l c.loop-kept.said.items) (until_goes deeds i c.args.moment kept below c.kept-item.is (omega arith)))
    ∙ c.loop-kept.invariant

pub returns-then-kept-moment : goal.returns-then-kept-moment
returns-then-kept-moment c =
    let deeds = c.args.deeds.now in
    let kept = c.kept-item.result in
    let i = c.loop-kept.kept-index in
    let below : i < length deeds = omega arith in
    sym (ap (λ (l : List Kept). said_after l c.loop-kept.said.items) (until_ends deeds i c.args.moment kept below c.kept-item.is (omega arith)))
    ∙ c.loop-kept.invariant
