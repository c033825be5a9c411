use Rattle.std.proofs.Common.{length, sym, ap, subst, ◌∙◌, refl, arith, drop, List, ℕ}
use Rattle.dfs_manifest.specs.Manifest.{IsManifest, IsNoManifest}
use Rattle.dfs_manifest.specs.Tables.{tables_in, HoldsTables}
use Rattle.dfs_manifest.proofs.Manifests.{holds, only, made}
use Rattle.dfs_manifest.proofs.manifest.Manifest.read.Goals as goal
use Rattle.dfs_manifest.proofs.manifest.Manifest.read.Goals.{Then-tables-count, Else-tables-count}

no_room : (c : Then-tables-count) → IsNoManifest c.args.bytes.now
no_room c ts is =
    let h = holds c.in_ok-count.count c.args.bytes.now ts c.in_ok-count.ensures.exact is in
    c.if-tables-count.true (ap length c.split_at.ensures.back ∙ h.len)

pub returns-then-tables-count-clause-only : goal.returns-then-tables-count-clause-only
returns-then-tables-count-clause-only c = λ ts is. absurd (no_room c ts is)

pub returns-then-tables-count-clause-none : goal.returns-then-tables-count-clause-none
returns-then-tables-count-clause-none c = ((λ _. no_room c), (λ _. refl))

found : (c : Else-tables-count) → IsManifest c.args.bytes.now (tables_in c.in_ok-count.count c.split_at.result.1.now)
found c =
    let back = c.split_at.ensures.back in
    let h : HoldsTables c.in_ok-count.count (drop 4 c.args.bytes.now) = record { few = omega (arith, c.if-count-gt-MOST_TABLES.false); len = ap length (sym back) ∙ c.if-tables-count.false } in
    subst (λ (l : List ℕ). IsManifest c.args.bytes.now (tables_in c.in_ok-count.count l)) (sym back)
    (made c.in_ok-count.count c.args.bytes.now (λ i. omega (arith, c.type_inv.bytes i)) c.in_ok-count.ensures.spelled h)

pub returns-clause-found : goal.returns-clause-found
returns-clause-found c = found c

pub returns-clause-only : goal.returns-clause-only
returns-clause-only c = λ ts is.
    ap (tables_in c.in_ok-count.count) c.split_at.ensures.back ∙ only c.in_ok-count.count c.args.bytes.now ts c.in_ok-count.ensures.exact is

pub returns-clause-none : goal.returns-clause-none
returns-clause-none c = ((λ e. absurd cc), (λ no. absurd (no _ (found c))))
