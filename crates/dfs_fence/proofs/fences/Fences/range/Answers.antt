use Rattle.std.proofs.Common.{◌≤◌, sym, ◌∙◌}
use Rattle.std.specs.Prelude.{option_copied}
use Rattle.dfs_fence.proofs.Finding.{in_order, those_that_meet, no_room, none_meets}
use Rattle.dfs_fence.proofs.fences.Fences.range.Goals as goal
use Rattle.dfs_fence.proofs.fences.Fences.range.Goals.{After-to}

pub returns-then-not-has_room-clause-those : goal.returns-then-not-has_room-clause-those
returns-then-not-has_room-clause-those c = no_room c.args.self.now (option_copied c.args.low) (option_copied c.args.high) (sym c.has_room.ensures ∙ c.if-not-has_room.true)

ordered : (c : After-to) → c.from.result ≤ c.to.result
ordered c = in_order c.args.self.now (option_copied c.args.low) (option_copied c.args.high) c.from.result c.to.result c.from.ensures.fences c.from.ensures.point c.to.ensures.point c.from.ensures.within (sym c.has_room.ensures ∙ c.if-not-has_room.false)

pub returns-clause-those : goal.returns-clause-those
returns-clause-those c = those_that_meet c.args.self.now (option_copied c.args.low) (option_copied c.args.high) c.from.result c.to.result c.from.ensures.point c.to.ensures.point (sym c.has_room.ensures ∙ c.if-not-has_room.false)

pub returns-clause-order : goal.returns-clause-order
returns-clause-order c = ordered c

pub returns-clause-empty : goal.returns-clause-empty
returns-clause-empty c = none_meets c.args.self.now (option_copied c.args.low) (option_copied c.args.high) c.from.result c.to.result (returns-clause-those c) (ordered c) c.to.ensures.within
