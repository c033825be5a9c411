use Rattle.std.proofs.Common.{◌∙◌, arith, length, refl}
use Rattle.std.proofs.lemmas.Option.{slice_get_read}
use Rattle.dfs_table.proofs.Running.{passed_table}
use Rattle.dfs_table.proofs.run_records.Blocks.pass_ended.Goals as goal

pub loop-self-preserved : goal.loop-self-preserved
loop-self-preserved c =
    let self = c.loop-self.self in
    let first = slice_get_read self.tables.now (length self.tables.now) 0 c.table-item.result refl (omega (arith, c.in-len1-up.len_at_least)) c.table-item.is in (
      passed_table self.tables.now self.next self.bytes.now c.first_bytes-self.result.now c.table-item.result first (omega (arith, c.if-self-len.false, c.len.ensures.len)) c.first_bytes-self.ensures ∙ c.loop-self.invariant.0,
      c.loop-self.invariant.1,
    )
