-- That fences are apart is a fact: it cannot be so in two ways.
use Rattle.std.specs.Prelude.{List, [], ◌∷◌}
use Rattle.std.proofs.Props.{props}
use Rattle.dfs_fence.specs.declared.fence.Fence.{Fence}
use Rattle.dfs_fence.specs.Index.{AreApart}

pub AreApart-prop : (fs : List Fence) → IsProp (AreApart fs)
AreApart-prop [] = hlevel props
AreApart-prop (f ∷ []) = hlevel props
AreApart-prop (f ∷ g ∷ fs) = hlevel (props, AreApart-prop (g ∷ fs))
