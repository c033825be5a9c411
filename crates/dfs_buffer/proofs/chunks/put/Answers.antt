use Rattle.std.proofs.Common.{subst}
use Rattle.dfs_buffer.specs.Chunks.{before, from, BeginsWith, IsPlace}
use Rattle.dfs_buffer.proofs.Places.{joined_place}
use Rattle.dfs_buffer.proofs.Puts.{put_found, chunks_put}
use Rattle.dfs_buffer.proofs.chunks.put.Goals as goal

pub returns-then-place : goal.returns-then-place
returns-then-place c =
    let cs = c.args.chunks.now.items in
    let p = c.place_of-place.result in
    let a = before (λ x. x.items) cs p.chunk p.index in
    let b = from (λ x. x.items) cs p.chunk p.index in
    let place : IsPlace (λ x. x.items) cs c.args.rec.key p.chunk p.index p.found =
    subst (λ l. IsPlace (λ x. x.items) l c.args.rec.key p.chunk p.index p.found) c.deref.ensures.value (subst (λ k. IsPlace (λ x. x.items) c.deref.result.now k p.chunk p.index p.found) c.lend.ensures.value c.place_of-place.ensures) in
    let put = put_found a b _ _ c.args.rec (joined_place (λ x. x.items) cs p.chunk p.index) c.requires.all.rises c.requires.all.valid c.requires.valid (subst (λ t. BeginsWith t b c.args.rec.key) c.if-place.true place.above) c.replace.ensures.value in
    record {
      all = chunks_put (λ x. x.items) cs _ c.args.rec put (c.replace.ensures.filled c.requires.all.filled) (c.replace.ensures.short c.requires.all.short);
      ok = put.held;
      err = tt;
    }
