use Rattle.std.proofs.Common.{◌∙◌, arith}
use Rattle.dfs_host.proofs.Moments.{changes_on, changes_widened, only_goes_on}
use Rattle.dfs_registry.proofs.Commit.{gate_low}
use Rattle.dfs_registry.proofs.Steps.{close_first, close_second, close_done}
use Rattle.dfs_registry.proofs.opening.close.Goals as goal

pub returns-in_err-cut_and_sync-clause-images : goal.returns-in_err-cut_and_sync-clause-images
returns-in_err-cut_and_sync-clause-images g c tells settled =
    changes_widened (c.cut_and_sync.ensures.images tells settled) (close_first _ c.gate-gate.ensures.listing _ _ c.gate-gate.ensures.gate (c.requires.ends tells))

pub write_and_sync-requires-clause-end : goal.write_and_sync-requires-clause-end
write_and_sync-requires-clause-end g c = let low = gate_low _ _ c.gate-gate.ensures.listing c.gate-gate.ensures.gate in omega (arith, low)

pub returns-clause-stands : goal.returns-clause-stands
returns-clause-stands g c tells =
    let tells_then = c.cut_and_sync.ensures.cause.tells ∙ tells in
    record {
      settled = c.in_ok-write_and_sync.ensures.settled tells_then;
      listing = c.gate-gate.ensures.listing;
      file = close_done _ c.gate-gate.ensures.listing _ _ c.gate-gate.ensures.gate (c.requires.ends tells) _ _ (c.in_ok-cut_and_sync.ensures.cut tells) (c.in_ok-write_and_sync.ensures.written tells_then);
    }

pub returns-in_err-write_and_sync-clause-images : goal.returns-in_err-write_and_sync-clause-images
returns-in_err-write_and_sync-clause-images g c tells settled =
    changes_on (changes_widened (c.cut_and_sync.ensures.images tells settled) (close_first _ c.gate-gate.ensures.listing _ _ c.gate-gate.ensures.gate (c.requires.ends tells)))
    (c.write_and_sync.ensures.images (c.cut_and_sync.ensures.cause.tells ∙ tells) (c.in_ok-cut_and_sync.ensures.settled tells))
    (close_second _ c.gate-gate.ensures.listing _ _ c.gate-gate.ensures.gate (c.requires.ends tells) _ (c.in_ok-cut_and_sync.ensures.cut tells))

pub returns-clause-images : goal.returns-clause-images
returns-clause-images g c tells settled =
    changes_on (changes_widened (c.cut_and_sync.ensures.images tells settled) (close_first _ c.gate-gate.ensures.listing _ _ c.gate-gate.ensures.gate (c.requires.ends tells)))
    (c.write_and_sync.ensures.images (c.cut_and_sync.ensures.cause.tells ∙ tells) (c.in_ok-cut_and_sync.ensures.settled tells))
    (close_second _ c.gate-gate.ensures.listing _ _ c.gate-gate.ensures.gate (c.requires.ends tells) _ (c.in_ok-cut_and_sync.ensures.cut tells))

pub returns-in_err-write_and_sync-clause-only : goal.returns-in_err-write_and_sync-clause-only
returns-in_err-write_and_sync-clause-only g c = only_goes_on c.cut_and_sync.ensures.only c.write_and_sync.ensures.only

pub returns-clause-only : goal.returns-clause-only
returns-clause-only g c = only_goes_on c.cut_and_sync.ensures.only c.write_and_sync.ensures.only
