use Rattle.std.proofs.Common.{◌≡◌, ◌∙◌, inr, sym, ap, subst, refl, arith}
use Rattle.std.specs.Prelude.{IfSome, IsErrOf, IsSome}
use Rattle.std.proofs.lemmas.Result.{err_from_is_err_and}
use Rattle.dfs_host.specs.Counts.{RoseBy}
use Rattle.dfs_host.specs.Host.{bytes_of}
use Rattle.dfs_host.specs.declared.fault.Fault.TheVariants.{NoMemory}
use Rattle.dfs_table.specs.declared.open.OpenFault.TheVariants.{Fault}
use Rattle.dfs_host.proofs.Causes.{rose_by_sum}
use Rattle.dfs_manifest.specs.Manifest.{IsManifest}
use Rattle.dfs_table.specs.Stored.{part}
use Rattle.dfs_host.proofs.Moments.{reads_go_on, same_bytes}
use Rattle.dfs_change.specs.Whole.{AreTablesAt, IsWhole, end_of, extents_of, table_fences}
use Rattle.dfs_change.proofs.Opened.{changes_by, may_lie, other_count, reads_in, run_within, too_long, whole_by}
use Rattle.dfs_change.proofs.change.open_run.Goals as goal

pub returns-then-count-listed-clause-whole : goal.returns-then-count-listed-clause-whole
returns-then-count-listed-clause-whole g c tells =
    let l = c.args.listed.now in
    let file = bytes_of (g.H.Host.state c.args.host.now) l.job in
    let m = c.in-Some-read.manifest in
    let ts = c.in_ok-tables.tables in
    let before = c.find_end.ensures.only in
    let all = reads_go_on before c.read_manifest.ensures.only in
    let found : IsManifest (part file l.at l.len) m =
    subst (λ b. IsManifest b m) (c.deref.ensures.value ∙ c.in_ok-bytes.ensures.bytes (before.tells ∙ tells) ∙ ap (λ f. part f l.at l.len) (same_bytes before tells l.job)) c.in-Some-read.ensures.found in
    let opened = subst (λ f. AreTablesAt f l m (table_fences ts)) (same_bytes all tells l.job) (c.in_ok-tables.ensures.opened (all.tells ∙ tells)) in
    subst (λ es. IsWhole file l es (table_fences ts)) (sym c.in_ok-tables.ensures.places)
    (whole_by file l m ts found opened ((c.in_ok-end.ensures.logged tells).0 (subst IsSome (sym c.in-Some.is) refl)) c.in_ok-tables.ensures.tables (sym c.count.ensures.count ∙ c.if-count-listed.true))

pub returns-then-count-listed-clause-changes : goal.returns-then-count-listed-clause-changes
returns-then-count-listed-clause-changes g c tells =
    changes_by (bytes_of (g.H.Host.state c.args.host.now) c.args.listed.now.job) c.args.listed.now (extents_of c.in_ok-tables.tables) c.in_ok-tables.tables (returns-then-count-listed-clause-whole g c tells)

pub returns-then-count-listed-clause-within : goal.returns-then-count-listed-clause-within
returns-then-count-listed-clause-within g c tells =
    let l = c.args.listed.now in
    let all = reads_go_on c.find_end.ensures.only c.read_manifest.ensures.only in
    let m = c.in-Some-read.manifest in
    let ts = c.in_ok-tables.tables in
    let opened = subst (λ f. AreTablesAt f l m (table_fences ts)) (same_bytes all tells l.job) (c.in_ok-tables.ensures.opened (all.tells ∙ tells)) in
    run_within (bytes_of (g.H.Host.state c.args.host.now) l.job) l m ts opened

pub returns-clause-malformed : goal.returns-clause-malformed
returns-clause-malformed g c tells is =
    let l = c.args.listed.now in
    let file = bytes_of (g.H.Host.state c.args.host.now) l.job in
    let m = c.in-Some-read.manifest in
    let ts = c.in_ok-tables.tables in
    let before = c.find_end.ensures.only in
    let all = reads_go_on before c.read_manifest.ensures.only in
    let found : IsManifest (part file l.at l.len) m =
    subst (λ b. IsManifest b m) (c.deref.ensures.value ∙ c.in_ok-bytes.ensures.bytes (before.tells ∙ tells) ∙ ap (λ f. part f l.at l.len) (same_bytes before tells l.job)) c.in-Some-read.ensures.found in
    let opened = subst (λ f. AreTablesAt f l m (table_fences ts)) (same_bytes all tells l.job) (c.in_ok-tables.ensures.opened (all.tells ∙ tells)) in
    other_count file l m ts found opened (λ same. c.if-count-listed.false (c.count.ensures.count ∙ same))

pub returns-then-listed-gt-MOST_MANIFEST_BYTES-clause-malformed : goal.returns-then-listed-gt-MOST_MANIFEST_BYTES-clause-malformed
returns-then-listed-gt-MOST_MANIFEST_BYTES-clause-malformed g c tells is =
    too_long (bytes_of (g.H.Host.state c.args.host.now) c.args.listed.now.job) c.args.listed.now (λ short. absurd (omega (arith, short, c.if-listed-gt-MOST_MANIFEST_BYTES.true)))

pub returns-then-count-listed-clause-reads : goal.returns-then-count-listed-clause-reads
returns-then-count-listed-clause-reads g c =
    let ts = c.in_ok-tables.tables in
    let begun : RoseBy 1 (g.H.Host.state c.args.host.now).reads (g.H.Host.state c.find_end.new.host).reads = subst (λ o. IfSome o (λ _. RoseBy 1 (g.H.Host.state c.args.host.now).reads (g.H.Host.state c.find_end.new.host).reads)) c.in-Some.is c.in_ok-end.ensures.reads in
    subst (λ n. RoseBy n (g.H.Host.state c.args.host.now).reads (g.H.Host.state c.open_tables.new.host).reads) (reads_in ts)
    (rose_by_sum (rose_by_sum begun c.in_ok-bytes.ensures.reads) c.in_ok-tables.ensures.reads)

pub returns-in_err-tables-clause-memory_indexes : goal.returns-in_err-tables-clause-memory_indexes
returns-in_err-tables-clause-memory_indexes g c tells is =
    let l = c.args.listed.now in
    let file = bytes_of (g.H.Host.state c.args.host.now) l.job in
    let m = c.in-Some-read.manifest in
    let before = c.find_end.ensures.only in
    let found : IsManifest (part file l.at l.len) m =
    subst (λ b. IsManifest b m) (c.deref.ensures.value ∙ c.in_ok-bytes.ensures.bytes (before.tells ∙ tells) ∙ ap (λ f. part f l.at l.len) (same_bytes before tells l.job)) c.in-Some-read.ensures.found in
    let same : c.in-Some.end ≡ end_of l = subst (λ o. IfSome o (λ end. end ≡ end_of l)) c.in-Some.is c.in_ok-end.ensures.end in
    let p = err_from_is_err_and c.from_residual-in_err-tables.result c.from_residual-in_err-tables.ensures.1 in
    let none : IsErrOf c.open_tables.result (Fault NoMemory) = cc (is, c.in_err-tables.was, p.1, p.2) in
    inr (may_lie file l m c.in-Some.end found same (c.open_tables.ensures.memory none))
