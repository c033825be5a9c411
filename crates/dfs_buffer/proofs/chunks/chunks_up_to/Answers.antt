use Rattle.std.proofs.Common.{rules, of_calls}
use Rattle.std.proofs.lemmas.Fn.{always_returns_same}
use Rattle.dfs_record.specs.Lend.{key_of}
use Rattle.dfs_buffer.specs.Chunks.{begins_up_to}
use Rattle.dfs_buffer.proofs.Places.{partitioned}
use Rattle.dfs_buffer.proofs.chunks.chunks_up_to.Goals as goal

pub returns-clause-place : goal.returns-clause-place
returns-clause-place c =
    c.partition_point.ensures.partitioned (λ x. begins_up_to (key_of c.args.key) x.items) (always_returns_same _ _ _ (λ a r f k. search (rules, of_calls)))
    (partitioned (λ x. x.items) c.args.chunks.now c.requires (key_of c.args.key))
