use Rattle.std.proofs.Common.{arith, ap, sym, length, ltb-false, leb-true, refl, ◌-◌}
use Rattle.dfs_buffer.proofs.Places.{chunk_read, chunk_past}
use Rattle.dfs_buffer.proofs.Edits.{none_from}
use Rattle.dfs_buffer.proofs.chunks.is_end.Goals as goal

pub returns-in-None-clause-end : goal.returns-in-None-clause-end
returns-in-None-clause-end c h =
    let past = ltb-false c.args.place.now.chunk (length c.args.chunks.now) (sym c.in-None.ensures.lookup.0) in
    none_from (λ x. x.items) c.args.chunks.now c.args.place.now.chunk c.args.place.now.index (omega arith) (omega (arith, ap length (chunk_past (λ x. x.items) c.args.chunks.now c.args.place.now.chunk past)))

pub returns-then-place-len-clause-end : goal.returns-then-place-len-clause-end
returns-then-place-len-clause-end c h =
    let same = chunk_read (λ x. x.items) c.args.chunks.now c.args.place.now.chunk c.in-Some.records.now c.in-Some.records.now.items c.in-Some.ensures.lookup.0 c.in-Some.ensures.lookup.1 refl in
    none_from (λ x. x.items) c.args.chunks.now c.args.place.now.chunk c.args.place.now.index (omega (arith, leb-true (length c.args.chunks.now - 1) c.args.place.now.chunk h)) (omega (arith, ap length same, c.in-Some.records.now.ok.0, c.len.ensures, c.if-place-len.true))
