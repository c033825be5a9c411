use Rattle.std.proofs.Common.{◌≡◌, sym}
use Rattle.dfs_session.specs.Kept.{IsInside, IsOpened}
use Rattle.dfs_session.proofs.Taking.{found_taken, kept_taken, of_shared}
use Rattle.dfs_session.proofs.selection.take.Goals as goal

pub returns-in-Some-clause-opened : goal.returns-in-Some-clause-opened
returns-in-Some-clause-opened g c = λ tells.
    let host = g.H.Host.state c.args.host.now in
    let l = c.args.listed.now in
    let at = c.in-Some.ensures.found in
    of_shared (IsOpened host l) (λ r. r.value) c.shared.result c.in-Some.change.now.value c.shared.ensures.same ((kept_taken host c.args.kept.now l at.0 c.in-Some.change.now.value c.requires.kept c.requires.of_kept at.1).opened tells)

pub returns-in-Some-clause-listed : goal.returns-in-Some-clause-listed
returns-in-Some-clause-listed g c =
    let l = c.args.listed.now in
    let at = c.in-Some.ensures.found in
    of_shared (λ d. d.listed ≡ l) (λ r. r.value) c.shared.result c.in-Some.change.now.value c.shared.ensures.same (kept_taken (g.H.Host.state c.args.host.now) c.args.kept.now l at.0 c.in-Some.change.now.value c.requires.kept c.requires.of_kept at.1).listed

pub returns-in-Some-clause-inside : goal.returns-in-Some-clause-inside
returns-in-Some-clause-inside g c =
    let at = c.in-Some.ensures.found in
    of_shared IsInside (λ r. r.value) c.shared.result c.in-Some.change.now.value c.shared.ensures.same (kept_taken (g.H.Host.state c.args.host.now) c.args.kept.now c.args.listed.now at.0 c.in-Some.change.now.value c.requires.kept c.requires.of_kept at.1).inside

pub returns-in-Some-made_by-clause-opened : goal.returns-in-Some-made_by-clause-opened
returns-in-Some-made_by-clause-opened g c = λ tells.
    let host = g.H.Host.state c.args.host.now in
    let l = c.args.listed.now in
    let change = c.in-Some-made_by.change.now in
    of_shared (IsOpened host l) (λ r. r.value) c.shared-in-Some-made_by.result change.value c.shared-in-Some-made_by.ensures.same ((found_taken host l (λ r. r.value) c.args.changes.now change c.requires.of_changes (sym c.in-Some-made_by.ensures)).opened tells)

pub returns-in-Some-made_by-clause-listed : goal.returns-in-Some-made_by-clause-listed
returns-in-Some-made_by-clause-listed g c =
    let l = c.args.listed.now in
    let change = c.in-Some-made_by.change.now in
    of_shared (λ d. d.listed ≡ l) (λ r. r.value) c.shared-in-Some-made_by.result change.value c.shared-in-Some-made_by.ensures.same (found_taken (g.H.Host.state c.args.host.now) l (λ r. r.value) c.args.changes.now change c.requires.of_changes (sym c.in-Some-made_by.ensures)).listed

pub returns-in-Some-made_by-clause-inside : goal.returns-in-Some-made_by-clause-inside
returns-in-Some-made_by-clause-inside g c =
    let change = c.in-Some-made_by.change.now in
    of_shared IsInside (λ r. r.value) c.shared-in-Some-made_by.result change.value c.shared-in-Some-made_by.ensures.same (found_taken (g.H.Host.state c.args.host.now) c.args.listed.now (λ r. r.value) c.args.changes.now change c.requires.of_changes (sym c.in-Some-made_by.ensures)).inside
