use Rattle.std.proofs.Common.{◌≡◌, ◌∙◌, ap, subst, length, take, arith, length-take}
use Rattle.dfs_host.specs.Host.{bytes_of}
use Rattle.dfs_table.specs.Opened.{Agrees}
use Rattle.dfs_table.specs.Stored.{block_at, part}
use Rattle.dfs_table.proofs.Opening.{block_of}
use Rattle.dfs_table.proofs.open.read_block.Goals as goal

pub returns-clause-block : goal.returns-clause-block
returns-clause-block g c = λ tells.
    let bytes = bytes_of (g.H.Host.state c.args.host.now) c.args.file in
    let f = c.args.fence.now in
    let lies = c.lies.ensures.0 c.if-not-lies.false in
    let whole : length (take f.len c.args.buffer.now) ≡ f.len = omega (arith, lies.short, c.requires.room, length-take f.len c.args.buffer.now) in
    let read : c.read_part.new.out ≡ block_at bytes f = c.in_ok-read_part.ensures.part tells ∙ ap (part bytes f.at) whole in
    block_of bytes c.args.file c.args.end f (subst (Agrees c.args.file f) read (c.agrees.ensures.0 c.if-not-agrees.false)) lies.behind lies.ends
    (subst (λ n. length (part bytes f.at n) ≡ n) whole (c.in_ok-read_part.ensures.whole tells))
