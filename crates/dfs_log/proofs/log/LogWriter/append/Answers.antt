use Rattle.std.proofs.Common.{refl, ap, sym, subst}
use Rattle.dfs_host.specs.Disk.{FileState}
use Rattle.dfs_host.specs.Host.{bytes_of}
use Rattle.dfs_log.specs.Logs.{LogStands}
use Rattle.dfs_log.proofs.Append.{BeginsWith, log_appended, kept_by_append, kept_by_failure}
use Rattle.dfs_log.proofs.log.LogWriter.append.Goals as goal

pub returns-in-Ok-clause-stands : goal.returns-in-Ok-clause-stands
returns-in-Ok-clause-stands g c tells =
    log_appended (g.H.Host.state c.args.host.now) (g.H.Host.state c.write_at.new.self) _ _ c.args.bytes.now
    (subst (LogStands (g.H.Host.state c.args.host.now)) (sym c.self.view_is) (c.requires.stands tells))
    (ap (λ (file : FileState). file.bytes) (c.in-Ok.ensures.ok tells)) refl refl

pub returns-in-Ok-clause-before : goal.returns-in-Ok-clause-before
returns-in-Ok-clause-before g c tells =
    let old = g.H.Host.state c.args.host.now in
    let new = g.H.Host.state c.write_at.new.self in
    let stands = subst (LogStands old) (sym c.self.view_is) (c.requires.stands tells) in
    subst (BeginsWith old new) c.self.view_is
    (kept_by_append c.self.inside.len c.args.bytes.now (bytes_of old c.self.inside.file) (bytes_of new c.self.inside.file) stands.len
    (ap (λ (file : FileState). file.bytes) (c.in-Ok.ensures.ok tells)))

pub returns-in-Err-clause-before : goal.returns-in-Err-clause-before
returns-in-Err-clause-before g c tells =
    let old = g.H.Host.state c.args.host.now in
    let new = g.H.Host.state c.write_at.new.self in
    let stands = subst (LogStands old) (sym c.self.view_is) (c.requires.stands tells) in
    subst (BeginsWith old new) c.self.view_is
    (kept_by_failure c.self.inside.len (bytes_of old c.self.inside.file) (bytes_of new c.self.inside.file) stands.len (c.in-Err.ensures.failed tells).before)
