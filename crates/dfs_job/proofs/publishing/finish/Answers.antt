use Rattle.std.proofs.Common.{◌∙◌, arith, sym}
use Rattle.dfs_host.specs.Host.{bytes_of}
use Rattle.dfs_change.specs.Sealing.{entry_of}
use Rattle.dfs_change.proofs.Ended.{manifest_length}
use Rattle.dfs_job.proofs.Sealing.{manifest_behind, manifest_cost, ok_then, sealed_means, sealed_within, stored_count}
use Rattle.dfs_job.proofs.publishing.finish.Goals as goal

pub finish-requires-clause-within : goal.finish-requires-clause-within
finish-requires-clause-within g c = λ tells.
    let of = c.requires.of_job tells in
    sealed_within c.args.log.now.file (bytes_of (g.H.Host.state c.args.host.now) c.args.log.now.file) c.args.run.now of.changes of.stored of.own

pub returns-clause-changes : goal.returns-clause-changes
returns-clause-changes g c = λ d tells stored.
    let file = c.args.log.now.file in
    ok_then c.finish.result _ _ (c.finish.ensures.changes tells)
    (λ sealed has name. sealed_means (bytes_of (g.H.Host.state c.args.host.now) file) (bytes_of (g.H.Host.state c.finish.new.host) file) c.args.run.now d (entry_of name file sealed) stored (has name))

pub returns-clause-count : goal.returns-clause-count
returns-clause-count g c = λ d tells stored.
    ok_then c.finish.result _ _ c.finish.ensures.count (λ sealed is. is ∙ stored_count (bytes_of (g.H.Host.state c.args.host.now) c.args.log.now.file) c.args.run.now d stored)

pub returns-clause-len : goal.returns-clause-len
returns-clause-len g c = ok_then c.finish.result _ _ c.finish.ensures.len (λ sealed is. is ∙ manifest_length c.args.run.now.tables)

pub returns-clause-growth : goal.returns-clause-growth
returns-clause-growth g c = λ tells.
    omega (arith, c.finish.ensures.growth, manifest_cost (bytes_of (g.H.Host.state c.args.host.now) c.args.log.now.file) c.args.run.now (c.requires.of_job tells).stored.each)

pub returns-clause-manifest : goal.returns-clause-manifest
returns-clause-manifest g c = λ tells.
    let file = c.args.log.now.file in
    manifest_behind (bytes_of (g.H.Host.state c.args.host.now) file) (bytes_of (g.H.Host.state c.finish.new.host) file) c.args.log.now.len c.args.run.now c.finish.result (sym (c.requires.stands tells).len) (c.requires.of_job tells).stored.each (c.finish.ensures.appended tells)
    c.finish.ensures.at c.finish.ensures.len
