use Rattle.std.proofs.Common.{◌∙◌, ◌++◌, ◌∷◌, [], ap, subst, length}
use Rattle.dfs_fence.specs.Index.{IsIndex, index_bytes}
use Rattle.dfs_table.specs.Writer.{WriterState}
use Rattle.dfs_table.proofs.writer.TableWriter.close_table.Goals as goal

pub returns-clause-closes : goal.returns-clause-closes
returns-clause-closes g c = record {
  index = subst (λ (w : WriterState). IsIndex (index_bytes w.fences) w.fences) c.self.view_is c.write_index.ensures.index;
  table = c.in-Ok.table;
  file = c.in-Ok.ensures.index.0 ∙ c.file.ensures.file ∙ c.in_ok-index_at.ensures.left.file;
  index_at = c.in-Ok.ensures.index.1 ∙ c.in_ok-index_at.ensures.place.0;
  index_len = c.in-Ok.ensures.index.2 ∙ c.in_ok-index_at.ensures.place.1 ∙ ap (λ (w : WriterState). length (index_bytes w.fences)) c.self.view_is;
  table_fences = c.in-Ok.ensures.fences ∙ c.replace-fences.ensures.value ∙ ap (λ (w : WriterState). w.fences) c.self.view_is;
  table_blocks = c.in-Ok.ensures.blocks ∙ c.replace-blocks.ensures.value ∙ ap (λ (w : WriterState). w.blocks) c.self.view_is;
  closed = c.in-Ok-push.ensures.pushed ∙ ap (λ (w : WriterState). w.closed ++ c.in-Ok.table ∷ []) c.self.view_is;
  fences = c.replace-fences.ensures.after ∙ c.new.ensures;
  blocks = c.replace-blocks.ensures.after ∙ c.new-2.ensures;
  records = ap (λ (w : WriterState). w.records) c.self.view_is;
}
