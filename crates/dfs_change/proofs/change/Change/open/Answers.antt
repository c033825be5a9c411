use Rattle.std.proofs.Common.{inr, sym, subst}
use Rattle.std.specs.List.{AllByRecursion}
use Rattle.std.proofs.lemmas.Result.{IfOk-weaker}
use Rattle.dfs_host.specs.Counts.{RoseBy}
use Rattle.dfs_host.specs.Host.{bytes_of}
use Rattle.dfs_table.proofs.Rising.{own_records}
use Rattle.dfs_record.specs.Delta.{delta}
use Rattle.dfs_table.specs.declared.run.Run.{Run}
use Rattle.dfs_table.specs.Identities.{IsWithin}
use Rattle.dfs_table.specs.Stored.{IsStored, run_records}
use Rattle.dfs_change.specs.Whole.{IsWhole, extents_of, reads_of, table_fences}
use Rattle.dfs_change.proofs.Opened.{whole_lies}
use Rattle.dfs_change.proofs.change.Change.open.Goals as goal

pub returns-clause-stored : goal.returns-clause-stored
returns-clause-stored g c tells =
    let file = bytes_of (g.H.Host.state c.args.host.now) c.args.listed.now.job in
    let run = c.in_ok-run.run' in
    let opened = c.in_ok-run.ensures in
    let each = opened.stored tells in
    let stored : IsStored file run (delta (run_records file run.tables)) = record { each = each; records = sym (own_records file run.tables each opened.tables.rise) } in
    IfOk-weaker c.share.result _ _ (λ change is. subst (λ (r : Run). IsStored file r (delta (run_records file r.tables))) (sym is.1) stored) c.share.ensures.change

pub returns-clause-within : goal.returns-clause-within
returns-clause-within g c tells =
    let file = bytes_of (g.H.Host.state c.args.host.now) c.args.listed.now.job in
    let within = c.in_ok-run.ensures.within tells in
    IfOk-weaker c.share.result _ _ (λ change is. subst (λ (r : Run). AllByRecursion (IsWithin c.args.listed.now.job) (run_records file r.tables)) (sym is.1) within) c.share.ensures.change

pub returns-clause-whole : goal.returns-clause-whole
returns-clause-whole g c tells =
    let l = c.args.listed.now in
    let file = bytes_of (g.H.Host.state c.args.host.now) l.job in
    let whole = c.in_ok-run.ensures.whole tells in
    IfOk-weaker c.share.result _ _ (λ change is. subst (λ (r : Run). IsWhole file l (extents_of r.tables) (table_fences r.tables)) (sym is.1) whole) c.share.ensures.change

pub returns-clause-reads : goal.returns-clause-reads
returns-clause-reads g c =
    let old = (g.H.Host.state c.args.host.now).reads in
    let new = (g.H.Host.state c.open_run.new.host).reads in
    let reads = c.in_ok-run.ensures.reads in
    IfOk-weaker c.share.result _ _ (λ change is. subst (λ (r : Run). RoseBy (reads_of (table_fences r.tables)) old new) (sym is.1) reads) c.share.ensures.change

pub returns-in_err-copy-clause-memory_indexes : goal.returns-in_err-copy-clause-memory_indexes
returns-in_err-copy-clause-memory_indexes g c tells _ =
    let l = c.args.listed.now in
    let ts = c.in_ok-run.run'.tables in
    inr (whole_lies (bytes_of (g.H.Host.state c.args.host.now) l.job) l (extents_of ts) (table_fences ts) (c.in_ok-run.ensures.whole tells))

pub returns-clause-memory_indexes : goal.returns-clause-memory_indexes
returns-clause-memory_indexes g c tells _ =
    let l = c.args.listed.now in
    let ts = c.in_ok-run.run'.tables in
    inr (whole_lies (bytes_of (g.H.Host.state c.args.host.now) l.job) l (extents_of ts) (table_fences ts) (c.in_ok-run.ensures.whole tells))
