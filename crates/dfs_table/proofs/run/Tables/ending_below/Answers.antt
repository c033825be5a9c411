use Rattle.std.proofs.Common.{sym, subst, ◌∙◌, rules, List, true, false, ◌≡◌}
use Rattle.std.specs.List.Sorted.{IsPartitionPoint}
use Rattle.std.proofs.lemmas.List.Sorted.{IsPartitionPoint-from_clause}
use Rattle.dfs_record.specs.Lend.{key_of}
use Rattle.dfs_table.specs.declared.table.Table.{Table}
use Rattle.dfs_table.specs.Spans.{ends_below}
use Rattle.dfs_table.specs.Tables.{AreTables}
use Rattle.dfs_table.proofs.Searching.{ends_parted}
use Rattle.dfs_table.proofs.run.Tables.ending_below.Goals as goal

pub returns-clause-point : goal.returns-clause-point
returns-clause-point c =
    let key = key_of c.args.key in
    let tables = c.as_slice-tables.result.now in
    let parted = ends_parted tables key (subst AreTables (sym c.as_slice-tables.ensures.value) c.self.invariant) in
    subst (λ (ts : List Table). IsPartitionPoint (λ t. ends_below key t ≡ true) (λ t. ends_below key t ≡ false) ts c.partition_point.result) (c.as_slice-tables.ensures.value ∙ c.self.view_is)
    (IsPartitionPoint-from_clause (ends_below key) tables c.partition_point.result c.partition_point.ensures.partitioned parted (λ a r q k. search rules))
