use Rattle.std.proofs.Common.{◌∙◌, ℕ, List, [], ◌∷◌, ◌++◌, ap, sym}
use Rattle.dfs_record.specs.declared.SnapName.{SnapName}
use Rattle.dfs_session.proofs.Lists.{map_next, when_ok}
use Rattle.dfs_session.proofs.commands.snapshots.Goals as goal

pub loop-index-preserved : goal.loop-index-preserved
loop-index-preserved c =
    let listed = c.entry-listed.result.now in
    when_ok c.push.result _ c.if-is_err.ensures.value c.push.ensures.ok
    ∙ ap (λ (name : SnapName). c.loop-index.list ++ (name, listed.job) ∷ []) c.in-Ok.ensures.equal
    ∙ ap (λ (l : List (SnapName × ℕ)). l ++ (listed.name, listed.job) ∷ []) c.loop-index.invariant
    ∙ sym (map_next c.args.registry.now.entries c.loop-index.index listed c.entry-listed.ensures (λ p. (p.name, p.job)))
