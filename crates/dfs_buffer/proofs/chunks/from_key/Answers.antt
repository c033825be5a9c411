use Rattle.std.proofs.Common.{◌≤◌, length, subst, ◌∙◌, arith}
use Rattle.dfs_record.specs.Lend.{key_of}
use Rattle.dfs_buffer.proofs.Places.{chunk_read}
use Rattle.dfs_buffer.proofs.Parts.{cut_from, from_is}
use Rattle.dfs_buffer.proofs.chunks.from_key.Goals as goal

pub slice_bounds-result-count : goal.slice_bounds-result-count
slice_bounds-result-count c =
    let p = c.place_of-place.result in
    let same = chunk_read (λ x. x.items) c.args.chunks.now p.chunk c.in-Some.records.now c.deref.result.now c.in-Some.ensures.lookup.0 c.in-Some.ensures.lookup.1 c.deref.ensures.value in
    let within : p.index ≤ length c.deref.result.now = subst (λ rs. p.index ≤ length rs) same c.place_of-place.ensures.within in
    omega (arith, within)

pub slice_bounds-result-start : goal.slice_bounds-result-start
slice_bounds-result-start c = slice_bounds-result-count c

pub offset_bounds-deref-place : goal.offset_bounds-deref-place
offset_bounds-deref-place c =
    let within = slice_bounds-result-count c in
    omega (arith, within, c.deref.ensures.len)

pub returns-in-Some-clause-records : goal.returns-in-Some-clause-records
returns-in-Some-clause-records c =
    let cs = c.args.chunks.now in
    let p = c.place_of-place.result in
    let same = chunk_read (λ x. x.items) cs p.chunk c.in-Some.records.now c.deref.result.now c.in-Some.ensures.lookup.0 c.in-Some.ensures.lookup.1 c.deref.ensures.value in
    cut_from (λ x. x.items) cs p.chunk p.index c.deref.result.now same ∙ from_is (λ x. x.items) cs (key_of c.args.key) p.chunk p.index p.found c.requires c.place_of-place.ensures
