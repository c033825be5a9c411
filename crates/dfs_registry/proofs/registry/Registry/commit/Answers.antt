use Rattle.std.proofs.Common.{refl, sym, ◌∙◌, ap, length, arith}
use Rattle.dfs_host.proofs.Moments.{changes_on, changes_widened}
use Rattle.dfs_registry.specs.Reading.{at_rest}
use Rattle.dfs_registry.proofs.Commit.{added, ready, gate_low, low_gate, short_piece, placed_push, first, second, stands_after}
use Rattle.dfs_registry.proofs.Standing.{leaves_list}
use Rattle.dfs_registry.proofs.registry.Registry.commit.Goals as goal

pub overflow_add-place : goal.overflow_add-place
overflow_add-place g c = let low = gate_low _ _ c.self.invariant.listing c.self.invariant.place in omega (arith, low)

pub write_and_sync-requires-clause-end : goal.write_and_sync-requires-clause-end
write_and_sync-requires-clause-end g c =
    let is = ready _ _ _ _ _ _ _ _ _ _ c.self.view_is c.self.invariant c.pending.view_is c.pending.invariant c.deref-body.ensures.value c.requires.apart c.requires.few in
    omega (arith, low_gate is, short_piece is)

pub returns-in_err-write_and_sync-clause-images : goal.returns-in_err-write_and_sync-clause-images
returns-in_err-write_and_sync-clause-images g c tells =
    let is = ready _ _ _ _ _ _ _ _ _ _ c.self.view_is c.self.invariant c.pending.view_is c.pending.invariant c.deref-body.ensures.value c.requires.apart c.requires.few in
    changes_widened (c.write_and_sync.ensures.images tells (c.requires.stands tells).settled) (first is _ (c.requires.stands tells).file)

pub write_and_sync-requires-2-clause-end : goal.write_and_sync-requires-2-clause-end
write_and_sync-requires-2-clause-end g c =
    let is = ready _ _ _ _ _ _ _ _ _ _ c.self.view_is c.self.invariant c.pending.view_is c.pending.invariant c.deref-body.ensures.value c.requires.apart c.requires.few in
    omega (arith, low_gate is, short_piece is)

pub returns-in_err-write_and_sync-2-clause-images : goal.returns-in_err-write_and_sync-2-clause-images
returns-in_err-write_and_sync-2-clause-images g c tells =
    let is = ready _ _ _ _ _ _ _ _ _ _ c.self.view_is c.self.invariant c.pending.view_is c.pending.invariant c.deref-body.ensures.value c.requires.apart c.requires.few in
    let file = (c.requires.stands tells).file in
    changes_on (changes_widened (c.write_and_sync.ensures.images tells (c.requires.stands tells).settled) (first is _ file))
    (c.write_and_sync-2.ensures.images (c.write_and_sync.ensures.cause.tells ∙ tells) (c.in_ok-write_and_sync.ensures.settled tells)) (second is _ file _ (c.in_ok-write_and_sync.ensures.written tells))

pub returns-clause-images : goal.returns-clause-images
returns-clause-images g c tells =
    let is = ready _ _ _ _ _ _ _ _ _ _ c.self.view_is c.self.invariant c.pending.view_is c.pending.invariant c.deref-body.ensures.value c.requires.apart c.requires.few in
    let file = (c.requires.stands tells).file in
    changes_on (changes_widened (c.write_and_sync.ensures.images tells (c.requires.stands tells).settled) (first is _ file))
    (c.write_and_sync-2.ensures.images (c.write_and_sync.ensures.cause.tells ∙ tells) (c.in_ok-write_and_sync.ensures.settled tells)) (second is _ file _ (c.in_ok-write_and_sync.ensures.written tells))

pub overflow_add-self : goal.overflow_add-self
overflow_add-self g c =
    let is = ready _ _ _ _ _ _ _ _ _ _ c.self.view_is c.self.invariant c.pending.view_is c.pending.invariant c.deref-body.ensures.value c.requires.apart c.requires.few in
    omega (arith, low_gate is, short_piece is, c.len.ensures, ap length c.deref-body.ensures.value)

pub invariant_of-self-2 : goal.invariant_of-self-2
invariant_of-self-2 g c =
    let is = ready _ _ _ _ _ _ _ _ _ _ c.self.view_is c.self.invariant c.pending.view_is c.pending.invariant c.deref-body.ensures.value c.requires.apart c.requires.few in
    placed_push is _ _ (added c.self.view_is c.pending.view_is c.keep.ensures.items) (omega (arith, c.len.ensures, ap length c.deref-body.ensures.value))

pub returns-clause-stands : goal.returns-clause-stands
returns-clause-stands g c tells =
    let is = ready _ _ _ _ _ _ _ _ _ _ c.self.view_is c.self.invariant c.pending.view_is c.pending.invariant c.deref-body.ensures.value c.requires.apart c.requires.few in
    let told = c.write_and_sync.ensures.cause.tells ∙ tells in
    let items = added c.self.view_is c.pending.view_is c.keep.ensures.items in
    record {
      settled = c.in_ok-write_and_sync-2.ensures.settled told;
      listing = (placed_push is _ _ items refl).listing;
      file = stands_after is _ (c.requires.stands tells).file _ _ (c.in_ok-write_and_sync.ensures.written tells) (c.in_ok-write_and_sync-2.ensures.written told) ∙ ap at_rest (sym items);
    }

pub returns-clause-durable : goal.returns-clause-durable
returns-clause-durable g c tells =
    let is = ready _ _ _ _ _ _ _ _ _ _ c.self.view_is c.self.invariant c.pending.view_is c.pending.invariant c.deref-body.ensures.value c.requires.apart c.requires.few in
    let told = c.write_and_sync.ensures.cause.tells ∙ tells in
    leaves_list (g.H.Host.state c.write_and_sync-2.new.host) _ (c.in_ok-write_and_sync-2.ensures.settled told)
    (stands_after is _ (c.requires.stands tells).file _ _ (c.in_ok-write_and_sync.ensures.written tells) (c.in_ok-write_and_sync-2.ensures.written told))
    (placed_push is _ _ refl refl).listing
