use Rattle.std.proofs.Common.{ℕ, ◌<◌, length, take, cond, eqb, sym, ◌∙◌, ap, arith, Vec}
use Rattle.std.specs.declared.alloc.Global.{Global}
use Rattle.dfs_host.specs.Disk.{FileState, settled_file}
use Rattle.dfs_mem.specs.Files.{bytes_in}
use Rattle.dfs_mem.specs.Track.{track_at}
use Rattle.dfs_mem.proofs.Given.{bytes_in-take}
use Rattle.dfs_mem.proofs.Tracks.{track_at-put, settled_cond}
use Rattle.dfs_mem.proofs.replay.started.Goals as goal

pub loop-number-preserved : goal.loop-number-preserved
loop-number-preserved c n =
    let given = c.args.given.now in
    let one = c.loop-number-item.result in
    let i = c.loop-number.number-index in
    let below : i < length given = omega arith in
    track_at-put c.loop-number.tracks c.insert.new.self one.0 n c.in_ok-track.track (c.in_ok-insert.ensures.updates.0 n)
    ∙ ap (λ (f : FileState). cond (eqb one.0 n) f (track_at c.loop-number.tracks n)) (c.in_ok-track.ensures ∙ ap settled_file c.deref.ensures.value)
    ∙ ap (λ (f : FileState). cond (eqb one.0 n) (settled_file one.1.items) f) (c.loop-number.invariant n)
    ∙ settled_cond (eqb one.0 n) one.1.items (bytes_in (take i given) n)
    ∙ ap settled_file (ap (λ (p : ℕ × Vec ℕ Global). cond (eqb p.0 n) p.1.items (bytes_in (take i given) n)) c.loop-number-item.is ∙ sym (bytes_in-take given i one n c.requires below))
