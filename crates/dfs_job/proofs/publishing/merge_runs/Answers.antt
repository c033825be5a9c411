use Rattle.std.proofs.Common.{◌∙◌, inl, inr, ap, arith, length, map, refl, subst}
use Rattle.std.proofs.lemmas.Result.{err_from_is_err_and}
use Rattle.std.specs.List.{sum_by}
use Rattle.dfs_host.specs.Host.{bytes_of}
use Rattle.dfs_record.specs.Delta.{delta}
use Rattle.dfs_table.specs.Stored.{IsStored}
use Rattle.dfs_table.specs.Writer.{table_len}
use Rattle.std.proofs.lemmas.List.{length-map}
use Rattle.dfs_compact.specs.Parts.{count_all, first_keys, tables_below}
use Rattle.dfs_compact.proofs.Sorted.{sorted_once}
use Rattle.dfs_view.specs.Layers.{run_count}
use Rattle.dfs_job.proofs.Parting.{merged_layers, passes_more, runs_are_sources}
use Rattle.dfs_job.proofs.Plans.{counted_runs}
use Rattle.dfs_job.proofs.Sealing.{stored_lengths}
use Rattle.dfs_job.proofs.publishing.merge_runs.Goals as goal

pub returns-in_err-merge_parts-clause-full : goal.returns-in_err-merge_parts-clause-full
returns-in_err-merge_parts-clause-full g c is =
    let rs = map (λ r. r.value) c.args.runs.now in
    let p = err_from_is_err_and c.from_residual.result c.from_residual.ensures.1 in
    elim (c.merge_parts.ensures.full (cc (is, c.in_err-merge_parts.was, p.1, p.2))) [
      | inl some ↦ inl some
      | inr many ↦ inr (passes_more (count_all c.in-Ok.compaction.sources) (sum_by run_count rs) c.args.parts (omega (arith, ap count_all c.in-Ok.ensures.sources, counted_runs rs)) many)
    ]

pub returns-in_err-merge_parts-clause-overfull : goal.returns-in_err-merge_parts-clause-overfull
returns-in_err-merge_parts-clause-overfull g c = λ ls tells stored is.
    let rs = map (λ r. r.value) c.args.runs.now in
    let files = bytes_of (g.H.Host.state c.args.host.now) in
    let file = c.args.log.now.file in
    let p = err_from_is_err_and c.from_residual.result c.from_residual.ensures.1 in
    let stands = c.in-Ok.ensures.stands files file (map delta ls) (runs_are_sources files file rs ls c.requires.own stored) in
    elim (c.merge_parts.ensures.overfull (map delta ls) tells stands (cc (is, c.in_err-merge_parts.was, p.1, p.2))) [
      | inl some ↦ inl some
      | inr many ↦ inr (omega (arith, many, ap count_all c.in-Ok.ensures.sources, counted_runs rs, c.in-Ok.ensures.parts))
    ]

pub returns-in_err-merge_parts-clause-growth : goal.returns-in_err-merge_parts-clause-growth
returns-in_err-merge_parts-clause-growth g c = λ ls tells stored.
    let rs = map (λ r. r.value) c.args.runs.now in
    let files = bytes_of (g.H.Host.state c.args.host.now) in
    let file = c.args.log.now.file in
    let stands = c.in-Ok.ensures.stands files file (map delta ls) (runs_are_sources files file rs ls c.requires.own stored) in
    omega (arith, c.merge_parts.ensures.growth (map delta ls) tells stands, ap count_all c.in-Ok.ensures.sources, counted_runs rs)

pub returns-clause-stored : goal.returns-clause-stored
returns-clause-stored g c = λ ls tells stored.
    let rs = map (λ r. r.value) c.args.runs.now in
    let before = bytes_of (g.H.Host.state c.args.host.now) in
    let after = bytes_of (g.H.Host.state c.merge_parts.new.host) in
    let file = c.args.log.now.file in
    let stands = c.in-Ok.ensures.stands before file (map delta ls) (runs_are_sources before file rs ls c.requires.own stored) in
    subst (λ d. IsStored (after file) c.take.result d) (merged_layers ls) (c.take.ensures.stored after file (map delta ls) (c.in_ok-merge_parts.ensures.kept (map delta ls) tells stands))

pub returns-clause-count : goal.returns-clause-count
returns-clause-count g c = λ ls tells stored.
    let rs = map (λ r. r.value) c.args.runs.now in
    let before = bytes_of (g.H.Host.state c.args.host.now) in
    let after = bytes_of (g.H.Host.state c.merge_parts.new.host) in
    let file = c.args.log.now.file in
    let stands = c.in-Ok.ensures.stands before file (map delta ls) (runs_are_sources before file rs ls c.requires.own stored) in
    omega (arith, c.take.ensures.most after file (map delta ls) (c.in_ok-merge_parts.ensures.kept (map delta ls) tells stands), ap count_all c.merge_parts.ensures.sources, ap count_all c.in-Ok.ensures.sources, counted_runs rs)

pub returns-clause-growth : goal.returns-clause-growth
returns-clause-growth g c = λ ls tells stored.
    let rs = map (λ r. r.value) c.args.runs.now in
    let files = bytes_of (g.H.Host.state c.args.host.now) in
    let file = c.args.log.now.file in
    let stands = c.in-Ok.ensures.stands files file (map delta ls) (runs_are_sources files file rs ls c.requires.own stored) in
    omega (arith, c.merge_parts.ensures.growth (map delta ls) tells stands, ap count_all c.in-Ok.ensures.sources, counted_runs rs)

pub returns-in_err-merge_parts-clause-passes : goal.returns-in_err-merge_parts-clause-passes
returns-in_err-merge_parts-clause-passes g c = λ ls tells stored is.
    let rs = map (λ r. r.value) c.args.runs.now in
    let files = bytes_of (g.H.Host.state c.args.host.now) in
    let file = c.args.log.now.file in
    let p = err_from_is_err_and c.from_residual.result c.from_residual.ensures.1 in
    let stands = c.in-Ok.ensures.stands files file (map delta ls) (runs_are_sources files file rs ls c.requires.own stored) in
    elim (c.merge_parts.ensures.passes (map delta ls) tells stands (cc (is, c.in_err-merge_parts.was, p.1, p.2))) [
      | inl some ↦ inl some
      | inr many ↦ inr (record { merged = λ one. c.requires.several (omega (arith, length-map c.args.runs.now (λ r. r.value), stored_lengths (files file) rs ls stored, length-map ls delta, one)); tables = tables_below c.in-Ok.compaction.keys c.args.parts (map delta ls) c.args.parts; needed = record { keys = c.in-Ok.compaction.keys; sorted = c.in-Ok.ensures.sorted; same = c.in-Ok.ensures.keys; all = refl }; many = many })
    ]

pub returns-clause-tables : goal.returns-clause-tables
returns-clause-tables g c = λ ls tells stored.
    let rs = map (λ r. r.value) c.args.runs.now in
    let files = bytes_of (g.H.Host.state c.args.host.now) in
    let file = c.args.log.now.file in
    let stands = c.in-Ok.ensures.stands files file (map delta ls) (runs_are_sources files file rs ls c.requires.own stored) in
    record {
      keys = c.in-Ok.compaction.keys;
      sorted = c.in-Ok.ensures.sorted;
      same = c.in-Ok.ensures.keys;
      all = ap length c.take.ensures.tables ∙ c.in_ok-merge_parts.ensures.needed (map delta ls) tells stands;
    }

pub returns-clause-too_many : goal.returns-clause-too_many
returns-clause-too_many g c = λ ls tells stored passes.
    let rs = map (λ r. r.value) c.args.runs.now in
    let files = bytes_of (g.H.Host.state c.args.host.now) in
    let file = c.args.log.now.file in
    let stands = c.in-Ok.ensures.stands files file (map delta ls) (runs_are_sources files file rs ls c.requires.own stored) in
    let same = sorted_once (first_keys rs) passes.needed.keys c.in-Ok.compaction.keys passes.needed.sorted c.in-Ok.ensures.sorted passes.needed.same c.in-Ok.ensures.keys in
    absurd
    (omega (
      arith,
      passes.many,
      passes.needed.all,
      ap (λ keys. tables_below keys c.args.parts (map delta ls) c.args.parts) same,
      c.in_ok-merge_parts.ensures.needed (map delta ls) tells stands,
      ap length c.take.ensures.tables,
      c.take.ensures.few,
    ))

pub returns-clause-wrote : goal.returns-clause-wrote
returns-clause-wrote g c =
    omega (arith, c.in_ok-merge_parts.ensures.wrote, ap (sum_by table_len) c.take.ensures.tables)
