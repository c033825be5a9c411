use Rattle.std.proofs.Common.{ℕ, List, [], ◌∷◌, ◌++◌, sym, ◌∙◌, ap}
use Rattle.dfs_mem.specs.Images.{left_at, values_of}
use Rattle.dfs_mem.specs.Track.{file_of}
use Rattle.dfs_mem.proofs.Tracks.{values_more}
use Rattle.dfs_mem.proofs.track.Track.image.Goals as goal

pub loop-place-preserved : goal.loop-place-preserved
loop-place-preserved c =
    let f = left_at c.args.choice.fill (file_of c.args.self.now) in
    c.in_ok-push.ensures.items
    ∙ ap (λ (l : List ℕ). l ++ c.left-left.result ∷ []) c.loop-place.invariant
    ∙ ap (λ n. values_of f c.loop-place.place ++ n ∷ []) c.left-left.ensures
    ∙ sym (values_more f c.loop-place.place)
