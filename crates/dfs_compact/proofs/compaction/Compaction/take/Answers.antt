use Rattle.std.proofs.Common.{◌≡◌, ◌++◌, ◌∷◌, [], ◌∙◌, sym, ap, subst, arith, length, map, List}
use Rattle.std.specs.Prelude.{IsSome}
use Rattle.std.specs.List.{AllByRecursion}
use Rattle.dfs_record.specs.Delta.{Delta}
use Rattle.dfs_record.specs.Namespace.{replay}
use Rattle.dfs_record.proofs.Replays.{merged_replays}
use Rattle.dfs_table.specs.declared.run.Run.{Run}
use Rattle.dfs_table.specs.declared.table.Table.{Table}
use Rattle.dfs_table.specs.Counts.{count_of}
use Rattle.dfs_table.specs.Tables.{AreTables, all_fences}
use Rattle.dfs_compact.specs.Compaction.{CompactionState, Stands}
use Rattle.dfs_compact.specs.Parts.{count_all}
use Rattle.dfs_compact.proofs.Counting.{few_in_all}
use Rattle.dfs_compact.proofs.Covering.{all_stored, all_tables, join_few, only_merged}
use Rattle.dfs_compact.proofs.compaction.Compaction.take.Goals as goal

pub from_vec-requires : goal.from_vec-requires
from_vec-requires c =
    let self = c.self.inside in
    subst AreTables (sym c.join.ensures)
    (all_tables (map (λ r. r.value) self.sources.items) self.plan.keys self.plan.parts self.merged.items c.self.invariant.0
    (subst (λ (s : CompactionState). AllByRecursion IsSome s.merged) (sym c.self.view_is) c.requires.merged))

pub returns-clause-stored : goal.returns-clause-stored
returns-clause-stored c = λ files file ds stands.
    let self = c.self.inside in
    let state : CompactionState = record { sources = map (λ r. r.value) self.sources.items; keys = self.plan.keys; parts = self.plan.parts; merged = self.merged.items; spent = self.spent } in
    all_stored files file state ds c.self.invariant.0 (subst (λ (s : CompactionState). AllByRecursion IsSome s.merged) (sym c.self.view_is) c.requires.merged)
    (subst (λ (s : CompactionState). Stands files file s ds) (sym c.self.view_is) stands) (record { tables = c.from_vec.result }) (c.from_vec.ensures ∙ c.join.ensures)

pub returns-clause-replays : goal.returns-clause-replays
returns-clause-replays c = λ files file ds d stands is below above rs.
    let run : Run = record { tables = c.from_vec.result } in
    subst (λ (x : Delta). replay (below ++ ds ++ above) rs ≡ replay (below ++ x ∷ [] ++ above) rs) (sym (only_merged files file run ds d (returns-clause-stored c files file ds stands) is)) (merged_replays below ds above rs)

pub returns-clause-most : goal.returns-clause-most
returns-clause-most c = λ files file ds stands.
    let self = c.self.inside in
    let state : CompactionState = record { sources = map (λ r. r.value) self.sources.items; keys = self.plan.keys; parts = self.plan.parts; merged = self.merged.items; spent = self.spent } in
    let few = few_in_all files file state ds c.self.invariant.0 (subst (λ (s : CompactionState). Stands files file s ds) (sym c.self.view_is) stands) in
    omega (arith, few, ap (λ (ts : List Table). count_of (all_fences ts)) (c.from_vec.ensures ∙ c.join.ensures), ap (λ (s : CompactionState). count_all s.sources) c.self.view_is)

pub returns-clause-few : goal.returns-clause-few
returns-clause-few c = omega (arith, ap length (c.from_vec.ensures ∙ c.join.ensures), c.self.invariant.0.tables)

pub returns-clause-enough : goal.returns-clause-enough
returns-clause-enough c =
    let self = c.self.inside in
    let is = c.self.invariant.0 in
    let same = c.from_vec.ensures ∙ c.join.ensures in
    omega (
      arith,
      join_few self.merged.items (λ j run at. (is.each j run at).enough),
      ap length same,
      ap (λ (ts : List Table). count_of (all_fences ts)) same,
      is.len,
      ap (λ (s : CompactionState). s.parts) c.self.view_is,
    )
