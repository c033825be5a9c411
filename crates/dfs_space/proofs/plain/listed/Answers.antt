use Rattle.std.proofs.Common.{All, subst}
use Rattle.std.proofs.lemmas.List.Elements.{All-tail}
use Rattle.dfs_space.specs.PlainSpace.{IsStored}
use Rattle.dfs_space.proofs.Stored.{child_stored, one_listed}
use Rattle.dfs_space.proofs.plain.listed.Goals as goal

pub push-requires : goal.push-requires
push-requires c = child_stored _ _ _ _ c.in-Some.ensures.steps c.loop-key.invariant.1 c.in_ok-copy.ensures.equal c.in_ok-copy-2.ensures.equal

pub loop-key-preserved : goal.loop-key-preserved
loop-key-preserved c = (
  one_listed _ _ _ _ _ _ _ c.in-Some.ensures.steps c.in_ok-copy.ensures.equal c.in_ok-copy-2.ensures.equal c.in_ok-push.ensures.ok c.loop-key.invariant.0,
  All-tail IsStored _ _ (subst (All IsStored) c.in-Some.ensures.steps c.loop-key.invariant.1),
)
