use Rattle.std.proofs.Common.{◌≡◌, ◌∙◌, List, sym, ap, subst, refl}
use Rattle.std.specs.Prelude.{IfOk, Some, slice_get}
use Rattle.std.proofs.lemmas.Option.{same_Some}
use Rattle.dfs_host.specs.Host.{bytes_of}
use Rattle.dfs_record.specs.Delta.{last_value}
use Rattle.dfs_record.specs.Lend.{key_of}
use Rattle.dfs_table.specs.declared.run.Run.{Run}
use Rattle.dfs_table.specs.declared.table.Table.{Table}
use Rattle.dfs_table.specs.Spans.{NoneSpans, SpansAt}
use Rattle.dfs_table.specs.Stored.{run_records, table_records}
use Rattle.dfs_table.proofs.Finding.{each_at}
use Rattle.dfs_table.proofs.Searching.{run_nowhere, run_there}
use Rattle.dfs_change.proofs.change.Change.find.Goals as goal

pub returns-in-Some-clause-value : goal.returns-in-Some-clause-value
returns-in-Some-clause-value g c tells =
    let key = key_of c.args.key in
    let ts = c.args.self.now.run.value.tables in
    let t = c.get.result.now in
    let i = c.in-Some.index in
    let bytes = bytes_of (g.H.Host.state c.args.host.now) in
    let file = bytes c.args.self.now.listed.job in
    let at : slice_get ts i ≡ Some t = subst (λ (l : List Table). slice_get l i ≡ Some t) (ap (λ (r : Run). r.tables) c.deref.ensures) c.get.ensures.table in
    let lies : t.file ≡ c.args.self.now.listed.job = each_at (λ (u : Table). u.file ≡ c.args.self.now.listed.job) ts i t (c.requires.file tells) at in
    let there : last_value key (run_records file ts) ≡ last_value key (table_records file t) =
    run_there file ts key i t (c.requires.stored tells) at
    (λ j spans. same_Some j i (sym (c.in-Some.ensures.only j (subst (λ (l : List Table). SpansAt l key j) (sym (ap (λ (r : Run). r.tables) c.deref.ensures)) spans)))) in
    subst (λ v. IfOk c.find-in-Some.result (λ found. found ≡ v)) (ap (λ n. last_value key (table_records (bytes n) t)) lies ∙ sym there) (c.find-in-Some.ensures.value tells)

pub returns-in-None-clause-value : goal.returns-in-None-clause-value
returns-in-None-clause-value g c tells =
    let key = key_of c.args.key in
    let ts = c.args.self.now.run.value.tables in
    let file = bytes_of (g.H.Host.state c.args.host.now) c.args.self.now.listed.job in
    sym (run_nowhere file ts key (c.requires.stored tells) (subst (λ (l : List Table). NoneSpans l key) (ap (λ (r : Run). r.tables) c.deref.ensures) (c.in-None.ensures.none.0 refl)))
