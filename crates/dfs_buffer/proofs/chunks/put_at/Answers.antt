use Rattle.std.proofs.Common.{◌≡◌, ◌++◌, ◌∷◌}
use Rattle.std.specs.Prelude.{flat_map}
use Rattle.dfs_buffer.specs.Chunks.{before, from}
use Rattle.dfs_buffer.proofs.Places.{joined_place}
use Rattle.dfs_buffer.proofs.Puts.{IsPut, put_free, chunks_put, chunks_same, either_way, ok_then}
use Rattle.dfs_buffer.proofs.chunks.put_at.Goals as goal

pub returns : goal.returns
returns c =
    let cs = c.args.chunks.now.items in
    let ds = c.insert.new.chunks.items in
    let p = c.args.place in
    let a = before (λ x. x.items) cs p.chunk p.index in
    let b = from (λ x. x.items) cs p.chunk p.index in
    let put : flat_map (λ x. x.items) ds ≡ a ++ c.args.rec ∷ b → IsPut (flat_map (λ x. x.items) cs) (flat_map (λ x. x.items) ds) c.args.rec =
    put_free a b _ _ c.args.rec (joined_place (λ x. x.items) cs p.chunk p.index) c.requires.all.rises c.requires.all.valid c.requires.valid c.requires.place.below c.requires.place.above in
    let filled = c.insert.ensures.filled c.requires.all.filled in
    let short = c.insert.ensures.short c.requires.all.short in
    record {
      all = either_way c.insert.result c.insert.ensures.ok c.insert.ensures.err (λ e. chunks_put (λ x. x.items) cs ds c.args.rec (put e) filled short) (λ e. chunks_same (λ x. x.items) cs ds c.requires.all e filled short);
      ok = ok_then c.insert.result c.insert.ensures.ok (λ e. (put e).held);
      err = c.insert.ensures.err;
    }
