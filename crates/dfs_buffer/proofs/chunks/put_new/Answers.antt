use Rattle.std.proofs.Common.{◌≡◌, ap, sym, ◌∙◌, subst, refl, ◌++◌, ◌∷◌, []}
use Rattle.std.proofs.lemmas.List.{append-nil}
use Rattle.dfs_buffer.specs.Chunks.{before, from}
use Rattle.dfs_buffer.proofs.Places.{joined_place}
use Rattle.dfs_buffer.proofs.Puts.{put_free, chunks_put, chunks_same, either_way}
use Rattle.dfs_buffer.proofs.chunks.put_new.Goals as goal

pub returns-then-begins_chunk-clause-all : goal.returns-then-begins_chunk-clause-all
returns-then-begins_chunk-clause-all c =
    let cs = c.args.chunks.now.items in
    let p = c.args.place in
    let a = before (λ x. x.items) cs p.chunk p.index in
    let b = from (λ x. x.items) cs p.chunk p.index in
    let end = subst (λ l. from (λ x. x.items) l p.chunk p.index ≡ []) c.deref.ensures.value (c.if-begins_chunk.ensures.end refl) in
    let whole = joined_place (λ x. x.items) cs p.chunk p.index in
    let filled = c.append.ensures.filled c.requires.all.filled in
    let short = c.append.ensures.short c.requires.all.short in
    either_way c.append.result c.append.ensures.ok c.append.ensures.err
    (λ e. chunks_put (λ x. x.items) cs _ c.args.rec
    (put_free a b _ _ c.args.rec whole c.requires.all.rises c.requires.all.valid c.requires.valid c.requires.place.below c.requires.place.above
    (e ∙ ap (λ l. l ++ c.args.rec ∷ []) (whole ∙ ap (λ l. a ++ l) end ∙ append-nil a) ∙ ap (λ l. a ++ c.args.rec ∷ l) (sym end)))
    filled short)
    (λ e. chunks_same (λ x. x.items) cs _ c.requires.all e filled short)

pub put_at-requires-2-clause-place : goal.put_at-requires-2-clause-place
put_at-requires-2-clause-place c = c.in_ok-place.ensures.place c.args.rec.key c.requires.place
