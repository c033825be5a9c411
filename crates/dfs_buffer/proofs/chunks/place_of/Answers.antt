use Rattle.std.proofs.Common.{sym, subst, ◌≡◌, ◌<◌, ◌≤◌, length, take, drop}
use Rattle.std.specs.Prelude.{HoldsAt}
use Rattle.dfs_record.specs.Lend.{key_of}
use Rattle.dfs_record.specs.Records.{KeysRise}
use Rattle.dfs_buffer.specs.Chunks.{AreBelow, AreAbove}
use Rattle.dfs_buffer.proofs.Places.{chunk_read, piece_rises, place_found, place_free}
use Rattle.dfs_buffer.proofs.chunks.place_of.Goals as goal

pub search-requires : goal.search-requires
search-requires c =
    let i = c.saturating_sub-chunk.result in
    let cs = c.args.chunks.now in
    let same = chunk_read (λ x. x.items) cs i c.in-Some.records.now c.deref.result.now c.in-Some.ensures.lookup.0 c.in-Some.ensures.lookup.1 c.deref.ensures.value in
    subst KeysRise same (piece_rises (λ x. x.items) cs c.requires (key_of c.args.key) i)

pub returns-in-Ok : goal.returns-in-Ok
returns-in-Ok c =
    let i = c.saturating_sub-chunk.result in
    let cs = c.args.chunks.now in
    let key = key_of c.args.key in
    let same = chunk_read (λ x. x.items) cs i c.in-Some.records.now c.deref.result.now c.in-Some.ensures.lookup.0 c.in-Some.ensures.lookup.1 c.deref.ensures.value in
    place_found (λ x. x.items) cs c.requires key c.chunks_up_to.result i c.chunks_up_to.ensures.place c.chunks_up_to.ensures.within c.saturating_sub-chunk.ensures c.in-Ok.index
    (subst (λ rs. c.in-Ok.index < length rs) (sym same) c.in-Ok.ensures.within) (subst (λ rs. HoldsAt (λ r. r.key ≡ key) rs c.in-Ok.index) (sym same) c.in-Ok.ensures.place)

pub returns-in-Err : goal.returns-in-Err
returns-in-Err c =
    let i = c.saturating_sub-chunk.result in
    let cs = c.args.chunks.now in
    let key = key_of c.args.key in
    let same = chunk_read (λ x. x.items) cs i c.in-Some.records.now c.deref.result.now c.in-Some.ensures.lookup.0 c.in-Some.ensures.lookup.1 c.deref.ensures.value in
    place_free (λ x. x.items) cs c.requires key c.chunks_up_to.result i c.chunks_up_to.ensures.place c.chunks_up_to.ensures.within c.saturating_sub-chunk.ensures c.in-Err.index
    (subst (λ rs. c.in-Err.index ≤ length rs) (sym same) c.in-Err.ensures.within)
    (subst (λ rs. AreBelow (take c.in-Err.index rs) key) (sym same) c.in-Err.ensures.place.0) (subst (λ rs. AreAbove (drop c.in-Err.index rs) key) (sym same) c.in-Err.ensures.place.1)
