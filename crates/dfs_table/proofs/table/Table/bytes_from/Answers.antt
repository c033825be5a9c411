use Rattle.std.proofs.Common.{◌∙◌, ap, arith, drop, length, refl}
use Rattle.std.proofs.lemmas.Option.{slice_get_read}
use Rattle.dfs_table.proofs.Finding.{length-starts}
use Rattle.dfs_table.proofs.Running.{from_start, has_start}
use Rattle.dfs_table.proofs.table.Table.bytes_from.Goals as goal

pub returns-then-index-len : goal.returns-then-index-len
returns-then-index-len c = λ file is within.
    absurd (omega (arith, within, c.if-index-len.true, c.len.ensures, ap length c.args.self.now.starts_are, length-starts 0 c.args.self.now.fences))

pub returns-in_default : goal.returns-in_default
returns-in_default c = λ file is within.
    let starts = c.args.self.now.starts.items in
    let there = slice_get_read starts (length starts) c.args.index c.index.result.now refl (omega (arith, c.if-index-len.false, c.len.ensures)) c.index.ensures in
    absurd (omega (arith, c.in_default.ensures.cases, has_start file c.args.self.now c.args.index c.index.result.now is there, ap length c.bytes.ensures))

pub returns : goal.returns
returns c = λ file is within.
    let starts = c.args.self.now.starts.items in
    let there = slice_get_read starts (length starts) c.args.index c.index.result.now refl (omega (arith, c.if-index-len.false, c.len.ensures)) c.index.ensures in
    c.in-Some.ensures.cases.2 ∙ ap (drop c.index.result.now) c.bytes.ensures ∙ from_start file c.args.self.now c.args.index c.index.result.now is there
