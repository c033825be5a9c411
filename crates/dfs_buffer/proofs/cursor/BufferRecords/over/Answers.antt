use Rattle.std.proofs.Common.{sym, arith}
use Rattle.dfs_buffer.proofs.Puts.{first_chunk}
use Rattle.dfs_buffer.proofs.cursor.BufferRecords.over.Goals as goal

pub invariant_of-result-then-is_empty : goal.invariant_of-result-then-is_empty
invariant_of-result-then-is_empty c =
    let s = first_chunk (λ x. x.items) c.args.records.now c.deref.result.now c.args.behind.now c.first-item.result (sym c.if-is_empty.ensures) (omega (arith, c.in-len1-up.len_at_least)) c.first-item.is c.deref.ensures.value
    c.requires.rises c.requires.valid c.requires.filled in
    record { rises = s.rises; valid = s.valid; filled = s.filled; begun = s.begun }
