use Rattle.std.proofs.Common.{ℕ, Err, sym, ap, subst}
use Rattle.dfs_host.specs.Host.{bytes_of}
use Rattle.dfs_record.specs.Delta.{delta}
use Rattle.dfs_table.specs.Stored.{run_records}
use Rattle.dfs_table.specs.Writer.{AreIn}
use Rattle.dfs_registry.specs.declared.listed.Listed.{Listed}
use Rattle.dfs_change.proofs.Meant.{damaged_logs, whole_logs_mean}
use Rattle.dfs_session.proofs.Selecting.{opened_for, opened_selectable}
use Rattle.dfs_session.proofs.selection.open.Goals as goal

pub returns-in-Ok-clause-opened : goal.returns-in-Ok-clause-opened
returns-in-Ok-clause-opened g c = λ tells.
    let l = c.args.listed.now in
    let host = g.H.Host.state c.args.host.now in
    let of = c.in-Ok.ensures in
    let change = c.in-Ok.change.value in
    let d = delta (run_records (bytes_of host l.job) change.run.value.tables) in
    record {
      changes = d;
      meant = (whole_logs_mean (bytes_of host l.job) l d).1 (of.changes tells);
      stored = opened_for host l change d of.listed (of.stored tells);
      selectable = opened_selectable host l change d of.listed (of.stored tells) of.file (of.within tells);
    }

pub returns-in-Ok-clause-inside : goal.returns-in-Ok-clause-inside
returns-in-Ok-clause-inside g c =
    let change = c.in-Ok.change.value in
    subst (λ (n : ℕ). AreIn n change.run.value.tables) (sym (ap (λ (l : Listed). l.job) c.in-Ok.ensures.listed)) c.in-Ok.ensures.file

pub returns-in-Err-Malformed-clause-damaged : goal.returns-in-Err-Malformed-clause-damaged
returns-in-Err-Malformed-clause-damaged g c = λ tells.
    let l = c.args.listed.now in
    (damaged_logs (bytes_of (g.H.Host.state c.args.host.now) l.job) l).1 (c.in-Err-Malformed.ensures.malformed tells (ap Err c.in-Err-Malformed.field-0-is))
