use Rattle.std.proofs.Common.{◌≡◌, ◌∙◌, ◌+◌, ◌++◌, ◌∷◌, [], length, take, sym, ap, subst, arith}
use Rattle.std.specs.Prelude.{IsErrOf}
use Rattle.std.specs.List.{AllByRecursion}
use Rattle.std.proofs.lemmas.List.{length-append}
use Rattle.std.proofs.lemmas.Result.{err_from_is_err_and}
use Rattle.dfs_host.specs.Counts.{RoseBy}
use Rattle.dfs_host.specs.Host.{bytes_of}
use Rattle.dfs_host.proofs.Causes.{rose_by_sum}
use Rattle.dfs_table.specs.declared.table.Table.{Table}
use Rattle.dfs_table.specs.declared.open.OpenFault.TheVariants.{Malformed}
use Rattle.dfs_table.specs.Opened.{IsNoTable, IsTableAt}
use Rattle.dfs_table.specs.Stored.{IsTableOf}
use Rattle.dfs_table.specs.Tables.{all_fences}
use Rattle.dfs_table.specs.Writer.{AreIn}
use Rattle.dfs_host.proofs.Moments.{reads_go_on, same_bytes}
use Rattle.dfs_table.proofs.Opening.{no_fault_by}
use Rattle.dfs_table.proofs.Stays.{all_append}
use Rattle.dfs_change.specs.Whole.{AreTablesAt, IndexesLie, end_of, extents_of, table_fences}
use Rattle.dfs_change.proofs.Opened.{fences_next, none_there, not_apart, places_next, tables_lie, tables_next}
use Rattle.dfs_change.proofs.change.open_tables.Goals as goal

pub returns-in_err-table-clause-malformed : goal.returns-in_err-table-clause-malformed
returns-in_err-table-clause-malformed g c tells is fss are =
    let l = c.args.listed.now in
    let file = bytes_of (g.H.Host.state c.args.host.now) l.job in
    let so_far = c.loop-index.invariant in
    let t = c.table-at.result in
    let p = err_from_is_err_and c.from_residual.result c.from_residual.ensures.1 in
    let malformed : IsErrOf c.open.result Malformed = cc (is, c.in_err-table.was, p.1, p.2) in
    let none = c.open.ensures.malformed (so_far.only.tells ∙ tells) malformed in
    absurd (none_there file l c.args.manifest.now fss c.loop-index.index t c.table-at.ensures
    (subst (λ n. IsNoTable file l.job t.0 t.1 n) c.requires.end (subst (λ b. IsNoTable b l.job t.0 t.1 c.args.end) (same_bytes so_far.only tells l.job) none)) are)

pub returns-in_err-add-clause-malformed : goal.returns-in_err-add-clause-malformed
returns-in_err-add-clause-malformed g c tells is fss are apart =
    let l = c.args.listed.now in
    let file = bytes_of (g.H.Host.state c.args.host.now) l.job in
    let so_far = c.loop-index.invariant in
    let t = c.table-at.result in
    let table = c.in_ok-table.table in
    let p = err_from_is_err_and c.from_residual-in_err-add.result c.from_residual-in_err-add.ensures.1 in
    let malformed : IsErrOf c.add.result Malformed = cc (is, c.in_err-add.was, p.1, p.2) in
    let here : IsTableAt file l.job t.0 t.1 (end_of l) table.fences =
    subst (λ n. IsTableAt file l.job t.0 t.1 n table.fences) c.requires.end
    (subst (λ b. IsTableAt b l.job t.0 t.1 c.args.end table.fences) (same_bytes so_far.only tells l.job) (c.in_ok-table.ensures.table (so_far.only.tells ∙ tells))) in
    not_apart file l c.args.manifest.now fss (c.loop-index.index + 1) (c.loop-index.tables ++ table ∷ [])
    (tables_next file l c.args.manifest.now c.loop-index.index t c.loop-index.tables table c.table-at.ensures (so_far.opened tells) here) (c.add.ensures.malformed malformed) are apart

pub returns-then-not-indexes_lie-clause-malformed : goal.returns-then-not-indexes_lie-clause-malformed
returns-then-not-indexes_lie-clause-malformed g c tells is fss are =
    let l = c.args.listed.now in
    let lie = tables_lie (bytes_of (g.H.Host.state c.args.host.now) l.job) l c.args.manifest.now fss are in
    let yes = c.indexes_lie.ensures.1 (subst (λ n. IndexesLie n c.args.manifest.now) (sym c.requires.end) lie) in
    absurd (cc (yes, c.if-not-indexes_lie.true))

pub loop-index-preserved : goal.loop-index-preserved
loop-index-preserved g c =
    let l = c.args.listed.now in
    let file = bytes_of (g.H.Host.state c.args.host.now) l.job in
    let so_far = c.loop-index.invariant in
    let opened = c.in_ok-table.ensures in
    let t = c.table-at.result in
    let table = c.in_ok-table.table in
    let added = c.in_ok-add.ensures in
    record {
      opened = λ tells.
          let here : IsTableAt file l.job t.0 t.1 (end_of l) table.fences =
          subst (λ n. IsTableAt file l.job t.0 t.1 n table.fences) c.requires.end
          (subst (λ b. IsTableAt b l.job t.0 t.1 c.args.end table.fences) (same_bytes so_far.only tells l.job) (opened.table (so_far.only.tells ∙ tells))) in
          subst (λ ts. AreTablesAt file l (take (c.loop-index.index + 1) c.args.manifest.now) (table_fences ts)) (sym added.added)
          (tables_next file l c.args.manifest.now c.loop-index.index t c.loop-index.tables table c.table-at.ensures (so_far.opened tells) here);
      places = ap extents_of added.added ∙ places_next c.args.manifest.now c.loop-index.index t c.loop-index.tables table c.table-at.ensures so_far.places (λ i. (opened.place.1 i, opened.place.2 i));
      stored = λ tells.
          let here = subst (λ b. IsTableOf b table) (same_bytes so_far.only tells l.job) (opened.stored (so_far.only.tells ∙ tells)) in
          subst (AllByRecursion (IsTableOf file)) (sym added.added) (all_append (IsTableOf file) c.loop-index.tables (table ∷ []) (so_far.stored tells) (here, tt));
      tables = added.tables;
      number = omega (arith, ap length added.added, length-append c.loop-index.tables (table ∷ []), so_far.number);
      file = subst (AreIn l.job) (sym added.added) (all_append (λ (t : Table). t.file ≡ l.job) c.loop-index.tables (table ∷ []) so_far.file (opened.place.0, tt));
      only = reads_go_on so_far.only c.open.ensures.only;
      no_fault = no_fault_by so_far.no_fault c.open.ensures.cause (λ is. cc (is, c.in_ok-table.was));
      reads = subst (λ n. RoseBy n (g.H.Host.state c.args.host.now).reads (g.H.Host.state c.open.new.host).reads)
          (omega (arith, ap (λ ts. length (all_fences ts)) added.added, fences_next c.loop-index.tables table)) (rose_by_sum so_far.reads opened.reads);
    }
