use Rattle.std.proofs.Common.{ℕ, sym, refl}
use Rattle.std.proofs.lemmas.Option.{same_Some}
use Rattle.dfs_host.specs.Host.{bytes_of}
use Rattle.dfs_record.specs.Lend.{key_of}
use Rattle.dfs_table.specs.Spans.{SpansAt}
use Rattle.dfs_view.proofs.Finding.{tables_nowhere, tables_there, if_ok_same}
use Rattle.dfs_view.proofs.lookup.find_in.Goals as goal

pub returns-in-Some-clause-value : goal.returns-in-Some-clause-value
returns-in-Some-clause-value g c = λ tells.
    let files = bytes_of (g.H.Host.state c.args.host.now) in
    let only = λ (j : ℕ) (spans : SpansAt c.args.run.now.tables (key_of c.args.key) j). same_Some j c.in-Some.index (sym (c.in-Some.ensures.only j spans)) in
    if_ok_same c.find-in-Some.result (c.find-in-Some.ensures.value tells)
    (sym (tables_there files c.args.run.now.tables (key_of c.args.key) c.in-Some.index c.get.result.now (c.requires.held tells) c.get.ensures.table only))

pub returns-in-None-clause-value : goal.returns-in-None-clause-value
returns-in-None-clause-value g c = λ tells.
    sym (tables_nowhere (bytes_of (g.H.Host.state c.args.host.now)) c.args.run.now.tables (key_of c.args.key) (c.requires.held tells) (c.in-None.ensures.none.0 refl))
