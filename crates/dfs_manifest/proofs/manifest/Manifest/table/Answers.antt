use Rattle.std.proofs.Common.{◌<◌, length, Some, sym, ap, ◌∙◌, arith, List, ℕ}
use Rattle.std.specs.Prelude.{slice_get}
use Rattle.dfs_manifest.specs.Manifest.{Extent}
use Rattle.dfs_manifest.specs.Tables.{extent_in}
use Rattle.dfs_manifest.proofs.Tables.{length_tables, table_at}
use Rattle.dfs_manifest.proofs.manifest.Manifest.table.Goals as goal

pub split_at-requires : goal.split_at-requires
split_at-requires c = omega (arith, c.requires, ap length c.self.view_is, length_tables c.self.inside.count c.self.inside.tables.now, c.self.invariant.len)

pub extent-requires : goal.extent-requires
extent-requires c =
    omega (arith, c.requires, ap length c.self.view_is, length_tables c.self.inside.count c.self.inside.tables.now, c.self.invariant.len, c.split_at.ensures.back_len)

pub returns : goal.returns
returns c =
    let below : c.args.index < c.self.inside.count = omega (arith, c.requires, ap length c.self.view_is, length_tables c.self.inside.count c.self.inside.tables.now) in
    ap (λ (ts : List Extent). slice_get ts c.args.index) (sym c.self.view_is)
    ∙ table_at c.self.inside.count c.self.inside.tables.now c.args.index below
    ∙ ap (λ (l : List ℕ). Some (extent_in l)) (sym c.split_at.ensures.back)
    ∙ ap (λ (t : Extent). Some t) (sym c.extent.ensures)
