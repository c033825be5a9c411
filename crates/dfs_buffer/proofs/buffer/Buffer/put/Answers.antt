use Rattle.std.proofs.Common.{ap, arith}
use Rattle.std.specs.Prelude.{flat_map}
use Rattle.dfs_record.specs.Delta.{delta}
use Rattle.dfs_record.specs.KeyMap.{len}
use Rattle.dfs_buffer.proofs.Puts.{one_key_more}
use Rattle.dfs_buffer.proofs.buffer.Buffer.put.Goals as goal

pub invariant_of-self-2 : goal.invariant_of-self-2
invariant_of-self-2 c = record {
  all = c.put.ensures.all;
  few = λ below.
      let was = c.self.invariant.few (omega (arith, below, c.saturating_add-self-inside.ensures)) in
      omega (arith, below, was, c.saturating_add-self-inside.ensures, ap len c.in_ok-put.ensures.ok, one_key_more (delta (flat_map (λ x. x.items) c.self.inside.chunks.items)) c.args.rec);
}
