use Rattle.std.proofs.Common.{◌≡◌, ◌∙◌, List, ℕ, ap, inr, sym, subst}
use Rattle.std.specs.Prelude.{Err}
use Rattle.std.specs.List.{AllByRecursion}
use Rattle.std.proofs.lemmas.Result.{err_from_is_err_and}
use Rattle.dfs_host.specs.Host.{bytes_of}
use Rattle.dfs_table.specs.declared.open.OpenFault.TheVariants.{Malformed}
use Rattle.dfs_table.specs.Opened.{IsBlockIn, IsTableAt}
use Rattle.dfs_table.specs.Stored.{blocks_by}
use Rattle.dfs_host.proofs.Moments.{same_bytes}
use Rattle.dfs_table.proofs.Opening.{each_lies, lies_of, may_lie, no_table, stored_by, table_by}
use Rattle.dfs_table.proofs.table.Table.open.Goals as goal

pub returns-then-not-lies-clause-malformed : goal.returns-then-not-lies-clause-malformed
returns-then-not-lies-clause-malformed g c = λ tells is fs at.
    let bytes = bytes_of (g.H.Host.state c.args.host.now) c.args.file in
    let yes = c.lies.ensures.1 (lies_of bytes c.args.file c.args.end c.args.at c.args.len fs at) in
    absurd (cc (yes, c.if-not-lies.true))

pub returns-in_err-fences-clause-malformed : goal.returns-in_err-fences-clause-malformed
returns-in_err-fences-clause-malformed g c = λ tells is fs at.
    let bytes = bytes_of (g.H.Host.state c.args.host.now) c.args.file in
    let p = err_from_is_err_and c.from_residual.result c.from_residual.ensures.1 in
    let same : c.in_err-fences.field-0.0 ≡ Malformed = cc (p.1, p.2, is) in
    c.in_err-fences.ensures.malformed tells (ap Err same) fs at.index (each_lies bytes c.args.file c.args.end fs at.each at.each_ends)

pub returns-in_err-blocks-clause-memory_blocks : goal.returns-in_err-blocks-clause-memory_blocks
returns-in_err-blocks-clause-memory_blocks g c = λ tells _.
    let bytes = bytes_of (g.H.Host.state c.args.host.now) c.args.file in
    inr (may_lie bytes c.args.file c.args.end c.args.at c.args.len c.in_ok-fences.fences (c.in_ok-fences.ensures.index tells) c.in_ok-fences.ensures.lie)

pub returns-in_err-new-clause-memory_blocks : goal.returns-in_err-new-clause-memory_blocks
returns-in_err-new-clause-memory_blocks g c = λ tells _.
    let bytes = bytes_of (g.H.Host.state c.args.host.now) c.args.file in
    inr (may_lie bytes c.args.file c.args.end c.args.at c.args.len c.in_ok-fences.fences (c.in_ok-fences.ensures.index tells) c.in_ok-fences.ensures.lie)

pub returns-in_err-blocks-clause-malformed : goal.returns-in_err-blocks-clause-malformed
returns-in_err-blocks-clause-malformed g c = λ tells is.
    let bytes = bytes_of (g.H.Host.state c.args.host.now) c.args.file in
    let only = c.in_ok-fences.ensures.only in
    let fs = c.in_ok-fences.fences in
    let p = err_from_is_err_and c.from_residual-in_err-blocks.result c.from_residual-in_err-blocks.ensures.1 in
    let same : c.in_err-blocks.field-0.0 ≡ Malformed = cc (p.1, p.2, is) in
    let out = c.in_err-blocks.ensures.malformed (only.tells ∙ tells) (ap Err same) in
    no_table bytes c.args.file c.args.end c.args.at c.args.len fs (c.in_ok-fences.ensures.index tells)
    (λ all. out (subst (λ (l : List ℕ). AllByRecursion (IsBlockIn l c.args.file c.args.end) fs) (sym (same_bytes only tells c.args.file)) all))

pub returns-clause-table : goal.returns-clause-table
returns-clause-table g c = λ tells.
    let bytes = bytes_of (g.H.Host.state c.args.host.now) c.args.file in
    let only = c.in_ok-fences.ensures.only in
    let all = subst (λ (l : List ℕ). AllByRecursion (IsBlockIn l c.args.file c.args.end) c.in_ok-fences.fences) (same_bytes only tells c.args.file) (c.in_ok-blocks.ensures.each (only.tells ∙ tells)) in
    subst (IsTableAt bytes c.args.file c.args.at c.args.len c.args.end) (sym c.in_ok-new.ensures.fences)
    (table_by bytes c.args.file c.args.end c.args.at c.args.len c.in_ok-fences.fences (c.lies.ensures.0 c.if-not-lies.false).ends (c.in_ok-fences.ensures.index tells) all)

pub returns-clause-stored : goal.returns-clause-stored
returns-clause-stored g c = λ tells.
    let bytes = bytes_of (g.H.Host.state c.args.host.now) c.args.file in
    let only = c.in_ok-fences.ensures.only in
    let new = c.in_ok-new.ensures in
    let same : c.in_ok-new.field-0.blocks ≡ blocks_by bytes c.in_ok-new.field-0.fences =
    new.blocks ∙ c.in_ok-blocks.ensures.blocks (only.tells ∙ tells) ∙ ap (λ (l : List ℕ). blocks_by l c.in_ok-fences.fences) (same_bytes only tells c.args.file) ∙ ap (blocks_by bytes) (sym new.fences) in
    stored_by bytes c.args.file c.args.end c.args.at c.args.len c.in_ok-new.field-0 (returns-clause-table g c tells) new.index.1 new.index.2 same
