use Rattle.std.proofs.Common.{arith, ap, sym, ◌∙◌, ◌≤◌, length, cond}
use Rattle.std.specs.List.{insert}
use Rattle.std.proofs.lemmas.List.Edits.{length-insert}
use Rattle.std.proofs.lemmas.List.Elements.{All-set}
use Rattle.dfs_buffer.specs.Chunks.{chunk_at, chunk_limit}
use Rattle.dfs_buffer.proofs.Places.{chunk_is}
use Rattle.dfs_buffer.proofs.Edits.{inserted, same_chunk}
use Rattle.dfs_buffer.proofs.chunks.insert.Goals as goal

pub insert-requires : goal.insert-requires
insert-requires c =
    let same = chunk_is (λ x. x.items) c.args.chunks.now.items c.args.chunk c.index_mut-records.result.now c.requires.room.within ∙ ap (λ x. x.items) (sym c.index_mut-records.ensures.value) in
    omega (arith, ap length same, c.index_mut-records.result.now.ok.0, c.requires.index)

pub returns-then-is_err-clause-err : goal.returns-then-is_err-clause-err
returns-then-is_err-clause-err c =
    let same = chunk_is (λ x. x.items) c.args.chunks.now.items c.args.chunk c.index_mut-records.result.now c.requires.room.within ∙ ap (λ x. x.items) (sym c.index_mut-records.ensures.value) in
    same_chunk (λ x. x.items) c.args.chunks.now.items c.args.chunk c.insert.new.self c.requires.room.within
    (c.insert.ensures.items ∙ ap (λ b. cond b (insert c.index_mut-records.result.now.items c.args.index c.args.rec) c.index_mut-records.result.now.items) c.if-is_err.ensures.negation ∙ sym same)

pub returns-clause-ok : goal.returns-clause-ok
returns-clause-ok c =
    let same = chunk_is (λ x. x.items) c.args.chunks.now.items c.args.chunk c.index_mut-records.result.now c.requires.room.within ∙ ap (λ x. x.items) (sym c.index_mut-records.ensures.value) in
    inserted (λ x. x.items) c.args.chunks.now.items c.args.chunk c.insert.new.self c.args.index c.args.rec c.requires.room.within
    (c.insert.ensures.items ∙ ap (λ b. cond b (insert c.index_mut-records.result.now.items c.args.index c.args.rec) c.index_mut-records.result.now.items) c.if-is_err.ensures.negation ∙ ap (λ rs. insert rs c.args.index c.args.rec) (sym same))

pub returns-clause-short : goal.returns-clause-short
returns-clause-short c were =
    let p = chunk_at (λ x. x.items) c.args.chunks.now.items c.args.chunk in
    let same = chunk_is (λ x. x.items) c.args.chunks.now.items c.args.chunk c.index_mut-records.result.now c.requires.room.within ∙ ap (λ x. x.items) (sym c.index_mut-records.ensures.value) in
    let is = c.insert.ensures.items ∙ ap (λ b. cond b (insert c.index_mut-records.result.now.items c.args.index c.args.rec) c.index_mut-records.result.now.items) c.if-is_err.ensures.negation ∙ ap (λ rs. insert rs c.args.index c.args.rec) (sym same) in
    All-set (λ x. length x.items ≤ chunk_limit) c.args.chunks.now.items c.args.chunk c.insert.new.self (omega (arith, ap length is, length-insert p c.args.index c.args.rec c.requires.index, c.requires.room.fewer)) were
