use Rattle.std.proofs.Common.{subst, sym}
use Rattle.dfs_table.specs.Steps.{IsAboveAll}
use Rattle.dfs_table.specs.Tables.{all_fences}
use Rattle.dfs_table.proofs.Closing.{last_behind}
use Rattle.dfs_table.proofs.writer.TableWriter.close_block.Goals as goal

pub write_block-requires-clause-above : goal.write_block-requires-clause-above
write_block-requires-clause-above g c key first =
    last_behind (all_fences c.self.inside.closed) c.self.inside.fences key (subst IsAboveAll (sym c.self.view_is) c.requires.sound.above key first)
