use Rattle.std.proofs.Common.{◌≡◌, ◌∷◌, [], IfOk, ◌≤◌, length, true, ◌++◌, subst, sym, ◌∙◌, ap, arith}
use Rattle.dfs_host.specs.Host.{bytes_of}
use Rattle.dfs_record.specs.Delta.{last_value}
use Rattle.dfs_record.specs.Lend.{key_of, record_of}
use Rattle.dfs_table.specs.Stored.{IsTableOf, run_records, table_records}
use Rattle.dfs_table.specs.Writer.{WriterState, pushed}
use Rattle.table_rows.proofs.Alone.{alone}
use Rattle.table_rows.proofs.write_and_find.Goals as goal

-- src/lib.rt:41:5
pub find-requires : goal.find-requires
find-requires g c = record {
  stored = λ tells.
      let told : (g.H.Host.state c.push-2.new.host).tells ≡ true = sym c.in_ok-run.ensures.cause.tells ∙ tells in
      let few : length c.in_ok-run.run'.tables ≤ 1 = omega (arith, c.in_ok-run.ensures.few, c.in_ok-push.ensures.tables_left, c.in_ok-push-2.ensures.tables_left, ap (λ (w : WriterState). w.tables_left) c.in-Ok.ensures) in
      let one = alone (bytes_of (g.H.Host.state c.finish.new.host) c.push-2.new.log.file) c.push-2.new.log.file c.in_ok-run.run'.tables c.get.result.now c.get.ensures.table few c.in_ok-run.ensures.file (c.in_ok-run.ensures.stored told).each in
      subst (λ n. IsTableOf (bytes_of (g.H.Host.state c.finish.new.host) n) c.get.result.now) (sym one.in_file) one.stored;
}

-- src/lib.rt:20:1
pub returns-clause-found : goal.returns-clause-found
returns-clause-found g c = λ tells.
    let told1 : (g.H.Host.state c.push.new.host).tells ≡ true = c.in_ok-push.ensures.cause.tells ∙ tells in
    let told2 : (g.H.Host.state c.push-2.new.host).tells ≡ true = c.in_ok-push-2.ensures.cause.tells ∙ told1 in
    let told3 : (g.H.Host.state c.finish.new.host).tells ≡ true = c.in_ok-run.ensures.cause.tells ∙ told2 in
    let few : length c.in_ok-run.run'.tables ≤ 1 = omega (arith, c.in_ok-run.ensures.few, c.in_ok-push.ensures.tables_left, c.in_ok-push-2.ensures.tables_left, ap (λ (w : WriterState). w.tables_left) c.in-Ok.ensures) in
    let one = alone (bytes_of (g.H.Host.state c.finish.new.host) c.push-2.new.log.file) c.push-2.new.log.file c.in_ok-run.run'.tables c.get.result.now c.get.ensures.table few c.in_ok-run.ensures.file (c.in_ok-run.ensures.stored told2).each in
    let start = bytes_of (g.H.Host.state c.args.host.now) c.args.log.now.file in
    let second = record_of c.args.second ∷ [] in
    let none : pushed start c.in-Ok.writer ≡ [] = ap (λ w. pushed start w) c.in-Ok.ensures in
    let one_pushed : pushed (bytes_of (g.H.Host.state c.push.new.host) c.args.log.now.file) c.push.new.self ≡ pushed start c.in-Ok.writer ++ record_of c.args.first ∷ [] = c.in_ok-push.ensures.pushed tells in
    let given : run_records (bytes_of (g.H.Host.state c.finish.new.host) c.push-2.new.log.file) c.in_ok-run.run'.tables ≡ record_of c.args.first ∷ second =
    c.in_ok-run.ensures.records told2
    ∙ ap (λ n. pushed (bytes_of (g.H.Host.state c.push-2.new.host) n) c.push-2.new.self) c.in_ok-push-2.ensures.same.0
    ∙ c.in_ok-push-2.ensures.pushed told1
    ∙ ap (λ n. pushed (bytes_of (g.H.Host.state c.push.new.host) n) c.push.new.self ++ second) c.in_ok-push.ensures.same.0
    ∙ ap (λ l. l ++ second) (one_pushed ∙ ap (λ l. l ++ record_of c.args.first ∷ []) none) in
    let all : table_records (bytes_of (g.H.Host.state c.finish.new.host) c.get.result.now.file) c.get.result.now ≡ record_of c.args.first ∷ record_of c.args.second ∷ [] =
    ap (λ n. table_records (bytes_of (g.H.Host.state c.finish.new.host) n) c.get.result.now) one.in_file ∙ one.records ∙ given in
    subst (λ rs. IfOk c.find.result (λ found. found ≡ last_value (key_of c.args.key) rs)) all (c.find.ensures.value told3)
