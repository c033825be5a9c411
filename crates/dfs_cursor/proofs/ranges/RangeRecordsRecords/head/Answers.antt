use Rattle.std.proofs.Common.{sym, ◌∙◌}
use Rattle.std.specs.Prelude.{option_copied}
use Rattle.dfs_cursor.proofs.Parts.{head_kept, head_past}
use Rattle.dfs_cursor.proofs.ranges.RangeRecordsRecords.head.Goals as goal

pub returns-then-is_up_to : goal.returns-then-is_up_to
returns-then-is_up_to g c =
    let s = c.args.self.now in
    let front = c.in-Item.ensures in
    (front.0, head_kept (option_copied s.low) (option_copied s.high) (g.C.Records.rest s.inner) _ front.1.0 front.1.1 s.begins (sym c.is_up_to.ensures ∙ c.if-is_up_to.true))

pub returns-else-is_up_to : goal.returns-else-is_up_to
returns-else-is_up_to g c =
    let s = c.args.self.now in
    let front = c.in-Item.ensures in
    head_past (option_copied s.low) (option_copied s.high) (g.C.Records.rest s.inner) (g.met.C.Records.rest_rises s.inner) (g.C.Records.unread s.inner) _ front.1.0 front.1.1 (sym c.is_up_to.ensures ∙ c.if-is_up_to.false)
