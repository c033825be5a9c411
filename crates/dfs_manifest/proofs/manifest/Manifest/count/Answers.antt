use Rattle.std.proofs.Common.{length, sym, ap, ◌∙◌}
use Rattle.dfs_manifest.proofs.Tables.{length_tables}
use Rattle.dfs_manifest.proofs.manifest.Manifest.count.Goals as goal

pub returns : goal.returns
returns c = sym (length_tables c.self.inside.count c.self.inside.tables.now) ∙ ap length c.self.view_is
