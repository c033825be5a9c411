use Rattle.std.proofs.Common.{◌≤◌, ◌++◌, ◌∷◌, [], ◌∙◌, sym, ap, subst, arith, length}
use Rattle.std.specs.List.{sum_by}
use Rattle.dfs_host.specs.Host.{bytes_of}
use Rattle.dfs_record.specs.Delta.{delta}
use Rattle.dfs_block.specs.Block.{first_key, last_key}
use Rattle.dfs_table.specs.Stored.{IsStored}
use Rattle.dfs_table.specs.Writer.{AddsTable, WriterState, pushed, table_len, wrote}
use Rattle.dfs_table.proofs.Rising.{is_stored}
use Rattle.dfs_table.proofs.writer.TableWriter.finish.Goals as goal

pub returns-in-Ok-clause-stored : goal.returns-in-Ok-clause-stored
returns-in-Ok-clause-stored g c tells =
    let old = bytes_of (g.H.Host.state c.args.host.now) c.args.log.now.file in
    let new = bytes_of (g.H.Host.state c.close.new.host) c.args.log.now.file in
    let ensured = c.in-Ok.ensures in
    subst (λ (w : WriterState). IsStored new (record { tables = w.closed }) (delta (pushed old c.args.self))) (sym c.writer-2.view_is)
    (is_stored new c.close.new.self ensured.written.0 ensured.written.1 (ensured.stands tells) ensured.rise (pushed old c.args.self) (ensured.pushed tells ∙ ap (λ (w : WriterState). pushed old w) c.writer.view_is))

pub returns-in-Ok-clause-wrote : goal.returns-in-Ok-clause-wrote
returns-in-Ok-clause-wrote g c =
    let ensured = c.in-Ok.ensures in
    omega (
      arith,
      ensured.wrote,
      ap length ensured.written.2,
      ap (λ (w : WriterState). sum_by table_len w.closed) c.writer-2.view_is,
      ap (λ (w : WriterState). wrote w) c.writer.view_is,
    )

pub returns-in-Ok-clause-last : goal.returns-in-Ok-clause-last
returns-in-Ok-clause-last g c = λ some.
    let added = c.in-Ok.ensures.last (subst (λ (w : WriterState). 1 ≤ length w.records) (sym c.writer.view_is) some) in
    let here : AddsTable c.args.log.now.len c.args.self c.close.new.self.closed =
    record {
      table = added.table;
      fence = added.fence;
      at = added.at;
      index_at = added.index_at;
      tables = added.tables ∙ ap (λ (w : WriterState). w.closed ++ added.table ∷ []) c.writer.view_is;
      fences = added.fences ∙ ap (λ (w : WriterState). w.fences ++ added.fence ∷ []) c.writer.view_is;
      count = added.count ∙ ap (λ (w : WriterState). length w.records) c.writer.view_is;
      first = ap (λ (w : WriterState). first_key w.records) (sym c.writer.view_is) ∙ added.first;
      last = ap (λ (w : WriterState). last_key w.records) (sym c.writer.view_is) ∙ added.last;
    } in
    subst (λ (w : WriterState). AddsTable c.args.log.now.len c.args.self w.closed) (sym c.writer-2.view_is) here
