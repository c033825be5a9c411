use Rattle.std.proofs.Common.{◌∷◌, [], ◌∙◌, sym, subst}
use Rattle.dfs_host.specs.Host.{bytes_of}
use Rattle.dfs_record.specs.Delta.{delta}
use Rattle.dfs_record.specs.Lend.{record_of}
use Rattle.dfs_change.specs.Sealing.{entry_of}
use Rattle.dfs_change.specs.Whole.{HasChanges}
use Rattle.change_rows.proofs.publish_and_find.Goals as goal

pub returns-clause-found : goal.returns-clause-found
returns-clause-found g c tells =
    let sealed = c.in-Ok.sealed in
    let has = subst (λ n. HasChanges (bytes_of (g.H.Host.state c.seal_one.new.host) n) (entry_of c.args.name n sealed) (delta (record_of c.args.rec ∷ []))) (sym c.file-job.ensures.file) (c.in-Ok.ensures.changes tells c.args.name) in
    c.open_and_find.ensures.found (c.in-Ok.ensures.cause.tells ∙ tells) (record_of c.args.rec ∷ []) has

pub returns-clause-whole : goal.returns-clause-whole
returns-clause-whole g c tells =
    let sealed = c.in-Ok.sealed in
    let has = subst (λ n. HasChanges (bytes_of (g.H.Host.state c.seal_one.new.host) n) (entry_of c.args.name n sealed) (delta (record_of c.args.rec ∷ []))) (sym c.file-job.ensures.file) (c.in-Ok.ensures.changes tells c.args.name) in
    c.open_and_find.ensures.whole (c.in-Ok.ensures.cause.tells ∙ tells) (delta (record_of c.args.rec ∷ [])) has
