use Rattle.std.proofs.Common.{sym, ap, ◌∙◌, refl}
use Rattle.dfs_record.specs.Lend.{record_of}
use Rattle.dfs_block.specs.Block.{first_key}
use Rattle.dfs_block.proofs.Blocks.{first_of, has_first}
use Rattle.dfs_block.proofs.block.Block.first_key.Goals as goal

pub unreachable-requires : goal.unreachable-requires
unreachable-requires c = has_first c.self.inside.count c.self.inside.records.now _ c.self.invariant.some c.self.invariant.are (c.in-None.ensures.none.0 refl)

pub returns-clause-key : goal.returns-clause-key
returns-clause-key c =
    ap first_key (sym c.self.view_is)
    ∙ first_of c.self.inside.count c.self.inside.records.now _ c.self.invariant.some c.self.invariant.are (record_of c.in-Some.rec) c.in-Some.field-0-1 c.in-Some.ensures.found
