use Rattle.std.proofs.Common.{◌≡◌, Some, subst}
use Rattle.std.specs.Prelude.{◌⊎◌}
use Rattle.std.specs.BTreeMap.{get}
use Rattle.dfs_change.specs.declared.change.Change.{Change}
use Rattle.dfs_session.specs.declared.keeping.Kept.{Kept}
use Rattle.dfs_session.specs.declared.keeping.Use.{Use}
use Rattle.dfs_session.specs.Kept.{kept_at, use_cmp, use_of}
use Rattle.dfs_session.proofs.Uses.{other_uses}
use Rattle.dfs_session.proofs.keeping.Kept.add.Goals as goal

pub returns-in-Ok-clause-others : goal.returns-in-Ok-clause-others
returns-in-Ok-clause-others c =
    let old = c.args.self.now in
    let new : Kept = record old { uses = c.insert.new.self } in
    subst (λ (d : Change). (u : Use) → (u ≡ use_of c.args.number d) ⊎ (kept_at new u ≡ kept_at old u)) c.deref.ensures
    (other_uses (λ r. r.value) (use_of c.args.number c.deref.result.now) (Some c.in_ok-clone.field-0) (get use_cmp old.uses) (get use_cmp c.insert.new.self) c.in-Ok.ensures.updates.0)
