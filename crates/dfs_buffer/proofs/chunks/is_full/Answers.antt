use Rattle.std.proofs.lemmas.Bool.Decides.{nat_tests}
use Rattle.std.proofs.Common.{arith, ap, sym, length, ltb-false, refl}
use Rattle.dfs_buffer.proofs.Places.{chunk_read, chunk_past}
use Rattle.dfs_buffer.proofs.chunks.is_full.Goals as goal

pub returns-in-None-clause-room : goal.returns-in-None-clause-room
returns-in-None-clause-room c h =
    let past = ltb-false c.args.chunk (length c.args.chunks.now) (sym c.in-None.ensures.lookup.0) in
    omega (arith, ap length (chunk_past (λ x. x.items) c.args.chunks.now c.args.chunk past))

pub returns-in-Some-clause-full : goal.returns-in-Some-clause-full
returns-in-Some-clause-full c h =
    let same = chunk_read (λ x. x.items) c.args.chunks.now c.args.chunk c.in-Some.records.now c.in-Some.records.now.items c.in-Some.ensures.lookup.0 c.in-Some.ensures.lookup.1 refl in
    grind (arith, nat_tests, ap length same, c.in-Some.records.now.ok.0, c.len.ensures)

pub returns-in-Some-clause-room : goal.returns-in-Some-clause-room
returns-in-Some-clause-room c h =
    let same = chunk_read (λ x. x.items) c.args.chunks.now c.args.chunk c.in-Some.records.now c.in-Some.records.now.items c.in-Some.ensures.lookup.0 c.in-Some.ensures.lookup.1 refl in
    grind (arith, nat_tests, ap length same, c.in-Some.records.now.ok.0, c.len.ensures)
