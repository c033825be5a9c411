use Rattle.std.proofs.Common.{arith, ap, sym, ◌∙◌, length, get_or, set}
use Rattle.dfs_buffer.proofs.Places.{chunk_is}
use Rattle.dfs_buffer.proofs.Edits.{replaced}
use Rattle.dfs_buffer.proofs.chunks.replace.Goals as goal

pub index_mut-rec-requires : goal.index_mut-rec-requires
index_mut-rec-requires c =
    let same = chunk_is (λ x. x.items) c.args.chunks.now.items c.args.chunk c.index_mut-records.result.now c.requires.within ∙ ap (λ x. x.items) (sym c.index_mut-records.ensures.value) in
    omega (arith, ap length same, c.index_mut-records.result.now.ok.0, c.requires.index)

pub returns-clause-value : goal.returns-clause-value
returns-clause-value c =
    let same = chunk_is (λ x. x.items) c.args.chunks.now.items c.args.chunk c.index_mut-records.result.now c.requires.within ∙ ap (λ x. x.items) (sym c.index_mut-records.ensures.value) in
    let r = c.index_mut-rec.result.now in
    replaced (λ x. x.items) c.args.chunks.now.items c.args.chunk _ c.args.index r c.args.value c.requires.within c.requires.index
    (ap (λ rs. get_or rs c.args.index r) same ∙ sym c.index_mut-rec.ensures.value) (ap (λ rs. set rs c.args.index (record { key = r.key; value = c.args.value })) (sym same))
