use Rattle.std.proofs.Common.{inl, inr, ◌≡◌, ◌≤◌, ◌+◌, ◌*◌, ◌∙◌, refl, sym, ap, subst, arith, length, map, List, true, false, Global}
use Rattle.std.specs.declared.rc.Rc.{Rc}
use Rattle.dfs_host.specs.Host.{bytes_of}
use Rattle.std.specs.Prelude.{Some, Option, slice_get}
use Rattle.std.specs.List.{sum_by}
use Rattle.std.proofs.lemmas.Option.{same_Some}
use Rattle.std.proofs.lemmas.Result.{err_from_is_err_and}
use Rattle.dfs_log.specs.Logs.{LogState}
use Rattle.dfs_table.specs.declared.run.Run.{Run}
use Rattle.dfs_table.specs.declared.table.Table.{Table}
use Rattle.dfs_table.specs.Counts.{count_of}
use Rattle.dfs_table.specs.Tables.{all_fences}
use Rattle.dfs_table.specs.Cut.{tables_needed}
use Rattle.dfs_table.proofs.Cutting.{needed_few}
use Rattle.dfs_table.specs.Writer.{AreIn, table_len}
use Rattle.dfs_compact.specs.Compaction.{CompactionState, IsMerged, IsPastWith, Stands, part_of}
use Rattle.dfs_compact.specs.Parts.{AreSources, count_all, tables_of}
use Rattle.dfs_compact.proofs.Counting.{few_in_all, few_with_next, set_counted}
use Rattle.dfs_compact.proofs.Covering.{join_few}
use Rattle.dfs_compact.proofs.Staying.{merged_there, never_done, none_there, not_merged, set_all, set_here, set_sum, set_tables, stands_on, stands_still, written_by}
use Rattle.dfs_compact.proofs.compaction.Compaction.part.Goals as goal

pub keep-requires-clause-within : goal.keep-requires-clause-within
keep-requires-clause-within g c = none_there c.self.inside.merged.items c.args.part c.index.result.now (omega (arith, c.if-part-len.false, c.len-2.ensures)) c.index.ensures (sym c.is_some.ensures ∙ c.if-is_some.false)

pub returns-in_default-clause-done : goal.returns-in_default-clause-done
returns-in_default-clause-done g c =
    let there = none_there c.self.inside.merged.items c.args.part c.index.result.now (omega (arith, c.if-part-len.false, c.len-2.ensures)) c.index.ensures (sym c.is_some.ensures ∙ c.if-is_some.false) in (
      λ e. absurd (cc e),
      λ merged. absurd (not_merged c.self.inside.merged.items c.args.part there (subst (λ (s : CompactionState). IsMerged s c.args.part) (sym c.self.view_is) merged)),
    )

pub returns-clause-done : goal.returns-clause-done
returns-clause-done g c =
    let self = c.self-2.inside in
    let state : CompactionState = record { sources = map (λ r. r.value) self.sources.items; keys = self.plan.keys; parts = self.plan.parts; merged = self.merged.items; spent = false } in
    let there = none_there c.self.inside.merged.items c.args.part c.index.result.now (omega (arith, c.if-part-len.false, c.len-2.ensures)) c.index.ensures (sym c.is_some.ensures ∙ c.if-is_some.false) in (
      λ e. absurd (never_done state c.outcome.result c.outcome.ensures e),
      λ merged. absurd (not_merged c.self.inside.merged.items c.args.part there (subst (λ (s : CompactionState). IsMerged s c.args.part) (sym c.self.view_is) merged)),
    )

pub returns-clause-stands : goal.returns-clause-stands
returns-clause-stands g c = λ ds tells stands.
    let old = g.H.Host.state c.args.host.now in
    let new = g.H.Host.state c.write_part.new.host in
    let file = c.args.log.now.file in
    let start = stands_still {b = true} (subst (λ (s : CompactionState). Stands (bytes_of old) file s ds) (sym c.self.view_is) stands) in
    let after = stands_on old new file c.args.log.now.len tells c.in_ok-run.ensures.only c.in_ok-run.ensures.before _ ds c.args.part c.in_ok-run.run' c.in_ok-run.ensures.file start
    (λ are. c.in_ok-run.ensures.stored ds tells (subst (λ (rs : List (Rc Run Global)). AreSources (bytes_of old) (map (λ r. r.value) rs) ds) (sym c.deref.ensures.value) are))
    (λ are. c.in_ok-run.ensures.cut ds tells (subst (λ (rs : List (Rc Run Global)). AreSources (bytes_of old) (map (λ r. r.value) rs) ds) (sym c.deref.ensures.value) are)) in
    let same = c.self-2.view_is ∙ c.in-Ok.ensures.kept in
    subst (λ (s : CompactionState). Stands (bytes_of new) file s ds) (sym (ap (λ (s : CompactionState). record s { spent = false }) same)) (stands_still after)

pub returns-clause-file : goal.returns-clause-file
returns-clause-file g c =
    let file = c.args.log.now.file in
    let same = ap (λ (s : CompactionState). s.merged) (c.self-2.view_is ∙ c.in-Ok.ensures.kept) in
    let before = subst (λ (s : CompactionState). AreIn file (tables_of s.merged)) (sym c.self.view_is) c.requires.file in
    subst (λ (ms : List (Option Run)). AreIn file (tables_of ms)) (sym same) (set_all (λ (t : Table). t.file ≡ file) c.self.inside.merged.items c.args.part c.in_ok-run.run' c.in_ok-run.ensures.file before)

pub returns-clause-growth : goal.returns-clause-growth
returns-clause-growth g c =
    let same = ap (λ (s : CompactionState). s.merged) (c.self-2.view_is ∙ c.in-Ok.ensures.kept) in
    let there = none_there c.self.inside.merged.items c.args.part c.index.result.now (omega (arith, c.if-part-len.false, c.len-2.ensures)) c.index.ensures (sym c.is_some.ensures ∙ c.if-is_some.false) in
    omega (
      arith,
      c.in_ok-run.ensures.growth,
      ap (λ (ms : List (Option Run)). count_of (all_fences (tables_of ms))) same,
      set_counted c.self.inside.merged.items c.args.part c.in_ok-run.run' there,
      ap (λ (s : CompactionState). count_of (all_fences (tables_of s.merged))) c.self.view_is,
    )

pub returns-clause-tables : goal.returns-clause-tables
returns-clause-tables g c =
    let same = ap (λ (s : CompactionState). s.merged) (c.self-2.view_is ∙ c.in-Ok.ensures.kept) in
    let there = none_there c.self.inside.merged.items c.args.part c.index.result.now (omega (arith, c.if-part-len.false, c.len-2.ensures)) c.index.ensures (sym c.is_some.ensures ∙ c.if-is_some.false) in
    omega (
      arith,
      c.in_ok-run.ensures.enough,
      c.in_ok-run.ensures.most,
      ap (λ (ms : List (Option Run)). length (tables_of ms)) same,
      set_tables c.self.inside.merged.items c.args.part c.in_ok-run.run' there,
      ap (λ (s : CompactionState). length (tables_of s.merged)) c.self.view_is,
      ap (λ (rs : List (Rc Run Global)). count_all (map (λ r. r.value) rs)) c.deref.ensures.value,
      ap (λ (s : CompactionState). count_all s.sources) c.self.view_is,
    )

pub returns-clause-most : goal.returns-clause-most
returns-clause-most g c = λ written run at.
    let same = ap (λ (s : CompactionState). s.merged) (c.self-2.view_is ∙ c.in-Ok.ensures.kept) in
    let here = set_here c.self.inside.merged.items c.args.part (Some c.in_ok-run.run') (Some run) (subst (λ (ms : List (Option Run)). slice_get ms c.args.part ≡ Some (Some run)) same at) in
    omega (
      arith,
      c.in_ok-run.ensures.most,
      ap (λ (r : Run). count_of (all_fences r.tables)) (same_Some c.in_ok-run.run' run here),
      ap (λ (rs : List (Rc Run Global)). count_all (map (λ r. r.value) rs)) c.deref.ensures.value,
      ap (λ (s : CompactionState). count_all s.sources) c.self.view_is,
    )

pub returns-clause-most_of_all : goal.returns-clause-most_of_all
returns-clause-most_of_all g c = λ written files file ds stands.
    let self = c.self-2.inside in
    few_in_all files file (record { sources = map (λ r. r.value) self.sources.items; keys = self.plan.keys; parts = self.plan.parts; merged = self.merged.items; spent = false }) ds c.self-2.invariant.0 stands

pub returns-then-is_some-clause-done : goal.returns-then-is_some-clause-done
returns-then-is_some-clause-done g c =
    let there = merged_there c.self.inside.merged.items c.args.part c.index.result.now (omega (arith, c.if-part-len.false, c.len-2.ensures)) c.index.ensures (sym c.is_some.ensures ∙ c.if-is_some.true) in
    (λ e. subst (λ (s : CompactionState). IsMerged s c.args.part) c.self.view_is there, λ merged. refl)

pub returns-in_err-run-clause-done : goal.returns-in_err-run-clause-done
returns-in_err-run-clause-done g c =
    let there = none_there c.self.inside.merged.items c.args.part c.index.result.now (omega (arith, c.if-part-len.false, c.len-2.ensures)) c.index.ensures (sym c.is_some.ensures ∙ c.if-is_some.false) in
    let p = err_from_is_err_and c.from_residual.result c.from_residual.ensures.1 in (
      λ e. absurd (cc (e, p.1)),
      λ merged. absurd (not_merged c.self.inside.merged.items c.args.part there (subst (λ (s : CompactionState). IsMerged s c.args.part) (sym c.self.view_is) merged)),
    )

pub returns-then-part-len-clause-growth_of_all : goal.returns-then-part-len-clause-growth_of_all
returns-then-part-len-clause-growth_of_all g c = λ ds tells stands.
    let self = c.self.inside in
    let state : CompactionState = record { sources = map (λ r. r.value) self.sources.items; keys = self.plan.keys; parts = self.plan.parts; merged = self.merged.items; spent = self.spent } in
    let files = bytes_of (g.H.Host.state c.args.host.now) in
    let start = subst (λ (s : CompactionState). Stands files c.args.log.now.file s ds) (sym c.self.view_is) stands in
    omega (arith, few_in_all files c.args.log.now.file state ds c.self.invariant.0 start, c.len.ensures.sound.none_refused c.requires.log_live, ap (λ (s : CompactionState). count_of (all_fences (tables_of s.merged))) c.self.view_is, ap (λ (s : CompactionState). count_all s.sources) c.self.view_is)

pub returns-then-is_some-clause-growth_of_all : goal.returns-then-is_some-clause-growth_of_all
returns-then-is_some-clause-growth_of_all g c = λ ds tells stands.
    let self = c.self.inside in
    let state : CompactionState = record { sources = map (λ r. r.value) self.sources.items; keys = self.plan.keys; parts = self.plan.parts; merged = self.merged.items; spent = self.spent } in
    let files = bytes_of (g.H.Host.state c.args.host.now) in
    let start = subst (λ (s : CompactionState). Stands files c.args.log.now.file s ds) (sym c.self.view_is) stands in
    omega (arith, few_in_all files c.args.log.now.file state ds c.self.invariant.0 start, c.len.ensures.sound.none_refused c.requires.log_live, ap (λ (s : CompactionState). count_of (all_fences (tables_of s.merged))) c.self.view_is, ap (λ (s : CompactionState). count_all s.sources) c.self.view_is)

pub returns-in_err-run-clause-growth_of_all : goal.returns-in_err-run-clause-growth_of_all
returns-in_err-run-clause-growth_of_all g c = λ ds tells stands.
    let self = c.self.inside in
    let state : CompactionState = record { sources = map (λ r. r.value) self.sources.items; keys = self.plan.keys; parts = self.plan.parts; merged = self.merged.items; spent = self.spent } in
    let files = bytes_of (g.H.Host.state c.args.host.now) in
    let start = subst (λ (s : CompactionState). Stands files c.args.log.now.file s ds) (sym c.self.view_is) stands in
    let there = none_there c.self.inside.merged.items c.args.part c.index.result.now (omega (arith, c.if-part-len.false, c.len-2.ensures)) c.index.ensures (sym c.is_some.ensures ∙ c.if-is_some.false) in
    let sources = subst (λ (rs : List (Rc Run Global)). AreSources files (map (λ r. r.value) rs) ds) (sym c.deref.ensures.value) start.sources in
    let next = few_with_next files c.args.log.now.file state ds c.self.invariant.0 start c.args.part there in
    omega (arith, next, c.in_err-run.ensures.growth_of_part ds tells sources, ap (λ (s : CompactionState). count_of (all_fences (tables_of s.merged))) c.self.view_is, ap (λ (s : CompactionState). count_all s.sources) c.self.view_is)

pub returns-in_default-clause-growth_of_all : goal.returns-in_default-clause-growth_of_all
returns-in_default-clause-growth_of_all g c = λ ds tells stands.
    let self = c.self.inside in
    let state : CompactionState = record { sources = map (λ r. r.value) self.sources.items; keys = self.plan.keys; parts = self.plan.parts; merged = self.merged.items; spent = self.spent } in
    let files = bytes_of (g.H.Host.state c.args.host.now) in
    let start = subst (λ (s : CompactionState). Stands files c.args.log.now.file s ds) (sym c.self.view_is) stands in
    let there = none_there c.self.inside.merged.items c.args.part c.index.result.now (omega (arith, c.if-part-len.false, c.len-2.ensures)) c.index.ensures (sym c.is_some.ensures ∙ c.if-is_some.false) in
    let sources = subst (λ (rs : List (Rc Run Global)). AreSources files (map (λ r. r.value) rs) ds) (sym c.deref.ensures.value) start.sources in
    let next = few_with_next files c.args.log.now.file state ds c.self.invariant.0 start c.args.part there in
    omega (
      arith,
      next,
      c.in_ok-run.ensures.growth_of_part ds tells sources,
      ap (λ (s : CompactionState). count_of (all_fences (tables_of s.merged))) c.self.view_is,
      ap (λ (s : CompactionState). count_all s.sources) c.self.view_is,
      ap (λ (l : LogState). l.len + l.refused) c.spend.ensures.spent,
    )

pub returns-clause-growth_of_all : goal.returns-clause-growth_of_all
returns-clause-growth_of_all g c = λ ds tells stands.
    let self = c.self.inside in
    let state : CompactionState = record { sources = map (λ r. r.value) self.sources.items; keys = self.plan.keys; parts = self.plan.parts; merged = self.merged.items; spent = self.spent } in
    let files = bytes_of (g.H.Host.state c.args.host.now) in
    let start = subst (λ (s : CompactionState). Stands files c.args.log.now.file s ds) (sym c.self.view_is) stands in
    let there = none_there c.self.inside.merged.items c.args.part c.index.result.now (omega (arith, c.if-part-len.false, c.len-2.ensures)) c.index.ensures (sym c.is_some.ensures ∙ c.if-is_some.false) in
    let sources = subst (λ (rs : List (Rc Run Global)). AreSources files (map (λ r. r.value) rs) ds) (sym c.deref.ensures.value) start.sources in
    let next = few_with_next files c.args.log.now.file state ds c.self.invariant.0 start c.args.part there in
    omega (arith, next, c.in_ok-run.ensures.growth_of_part ds tells sources, ap (λ (s : CompactionState). count_of (all_fences (tables_of s.merged))) c.self.view_is, ap (λ (s : CompactionState). count_all s.sources) c.self.view_is)

pub returns-in_err-run-clause-overfull : goal.returns-in_err-run-clause-overfull
returns-in_err-run-clause-overfull g c = λ ds tells stands is.
    let self = c.self.inside in
    let state : CompactionState = record { sources = map (λ r. r.value) self.sources.items; keys = self.plan.keys; parts = self.plan.parts; merged = self.merged.items; spent = self.spent } in
    let files = bytes_of (g.H.Host.state c.args.host.now) in
    let start = subst (λ (s : CompactionState). Stands files c.args.log.now.file s ds) (sym c.self.view_is) stands in
    let there = none_there c.self.inside.merged.items c.args.part c.index.result.now (omega (arith, c.if-part-len.false, c.len-2.ensures)) c.index.ensures (sym c.is_some.ensures ∙ c.if-is_some.false) in
    let sources = subst (λ (rs : List (Rc Run Global)). AreSources files (map (λ r. r.value) rs) ds) (sym c.deref.ensures.value) start.sources in
    let next = few_with_next files c.args.log.now.file state ds c.self.invariant.0 start c.args.part there in
    let p = err_from_is_err_and c.from_residual.result c.from_residual.ensures.1 in
    elim (c.write_part.ensures.too_many ds tells sources (cc (is, c.in_err-run.was, p.1, p.2))) [
      | inl some ↦ inl some
      | inr many ↦ inr (omega (arith, many, needed_few (part_of state ds c.args.part), next, join_few self.merged.items (λ j run at. (c.self.invariant.0.each j run at).enough), c.self.invariant.0.len, c.self.invariant.1, c.self.invariant.0.tables, ap (λ (s : CompactionState). count_of (all_fences (tables_of s.merged))) c.self.view_is, ap (λ (s : CompactionState). count_all s.sources) c.self.view_is, ap (λ (s : CompactionState). s.parts) c.self.view_is))
    ]

pub returns-in_err-run-clause-passes : goal.returns-in_err-run-clause-passes
returns-in_err-run-clause-passes g c = λ ds tells stands is.
    let self = c.self.inside in
    let state : CompactionState = record { sources = map (λ r. r.value) self.sources.items; keys = self.plan.keys; parts = self.plan.parts; merged = self.merged.items; spent = self.spent } in
    let files = bytes_of (g.H.Host.state c.args.host.now) in
    let start = subst (λ (s : CompactionState). Stands files c.args.log.now.file s ds) (sym c.self.view_is) stands in
    let there = none_there c.self.inside.merged.items c.args.part c.index.result.now (omega (arith, c.if-part-len.false, c.len-2.ensures)) c.index.ensures (sym c.is_some.ensures ∙ c.if-is_some.false) in
    let sources = subst (λ (rs : List (Rc Run Global)). AreSources files (map (λ r. r.value) rs) ds) (sym c.deref.ensures.value) start.sources in
    let p = err_from_is_err_and c.from_residual.result c.from_residual.ensures.1 in
    elim (c.write_part.ensures.too_many ds tells sources (cc (is, c.in_err-run.was, p.1, p.2))) [
      | inl some ↦ inl some
      | inr many ↦ inr (subst (λ (s : CompactionState). IsPastWith s ds c.args.part) c.self.view_is (omega (arith, many, c.self.invariant.1, c.self.invariant.0.tables)))
    ]

pub returns-in_err-run-clause-growth_of_part : goal.returns-in_err-run-clause-growth_of_part
returns-in_err-run-clause-growth_of_part g c = λ ds tells stands.
    let self = c.self.inside in
    let state : CompactionState = record { sources = map (λ r. r.value) self.sources.items; keys = self.plan.keys; parts = self.plan.parts; merged = self.merged.items; spent = self.spent } in
    let files = bytes_of (g.H.Host.state c.args.host.now) in
    let start = subst (λ (s : CompactionState). Stands files c.args.log.now.file s ds) (sym c.self.view_is) stands in
    let there = none_there c.self.inside.merged.items c.args.part c.index.result.now (omega (arith, c.if-part-len.false, c.len-2.ensures)) c.index.ensures (sym c.is_some.ensures ∙ c.if-is_some.false) in
    let sources = subst (λ (rs : List (Rc Run Global)). AreSources files (map (λ r. r.value) rs) ds) (sym c.deref.ensures.value) start.sources in
    subst (λ (s : CompactionState). c.write_part.new.log.len + c.write_part.new.log.refused ≤ c.args.log.now.len + 1100 * length (part_of s ds c.args.part)) c.self.view_is (c.in_err-run.ensures.growth_of_part ds tells sources)

pub returns-in_default-clause-growth_of_part : goal.returns-in_default-clause-growth_of_part
returns-in_default-clause-growth_of_part g c = λ ds tells stands.
    let self = c.self.inside in
    let state : CompactionState = record { sources = map (λ r. r.value) self.sources.items; keys = self.plan.keys; parts = self.plan.parts; merged = self.merged.items; spent = self.spent } in
    let files = bytes_of (g.H.Host.state c.args.host.now) in
    let start = subst (λ (s : CompactionState). Stands files c.args.log.now.file s ds) (sym c.self.view_is) stands in
    let there = none_there c.self.inside.merged.items c.args.part c.index.result.now (omega (arith, c.if-part-len.false, c.len-2.ensures)) c.index.ensures (sym c.is_some.ensures ∙ c.if-is_some.false) in
    let sources = subst (λ (rs : List (Rc Run Global)). AreSources files (map (λ r. r.value) rs) ds) (sym c.deref.ensures.value) start.sources in
    subst (λ (l : LogState). l.len + l.refused ≤ c.args.log.now.len + 1100 * length (part_of c.args.self.now ds c.args.part)) (sym c.spend.ensures.spent)
    (subst (λ (s : CompactionState). c.write_part.new.log.len + c.write_part.new.log.refused ≤ c.args.log.now.len + 1100 * length (part_of s ds c.args.part)) c.self.view_is (c.in_ok-run.ensures.growth_of_part ds tells sources))

pub returns-clause-growth_of_part : goal.returns-clause-growth_of_part
returns-clause-growth_of_part g c = λ ds tells stands.
    let self = c.self.inside in
    let state : CompactionState = record { sources = map (λ r. r.value) self.sources.items; keys = self.plan.keys; parts = self.plan.parts; merged = self.merged.items; spent = self.spent } in
    let files = bytes_of (g.H.Host.state c.args.host.now) in
    let start = subst (λ (s : CompactionState). Stands files c.args.log.now.file s ds) (sym c.self.view_is) stands in
    let there = none_there c.self.inside.merged.items c.args.part c.index.result.now (omega (arith, c.if-part-len.false, c.len-2.ensures)) c.index.ensures (sym c.is_some.ensures ∙ c.if-is_some.false) in
    let sources = subst (λ (rs : List (Rc Run Global)). AreSources files (map (λ r. r.value) rs) ds) (sym c.deref.ensures.value) start.sources in
    subst (λ (s : CompactionState). c.write_part.new.log.len + c.write_part.new.log.refused ≤ c.args.log.now.len + 1100 * length (part_of s ds c.args.part)) c.self.view_is (c.in_ok-run.ensures.growth_of_part ds tells sources)

pub returns-clause-needed : goal.returns-clause-needed
returns-clause-needed g c = λ ds tells stands written.
    let self = c.self.inside in
    let state : CompactionState = record { sources = map (λ r. r.value) self.sources.items; keys = self.plan.keys; parts = self.plan.parts; merged = self.merged.items; spent = self.spent } in
    let files = bytes_of (g.H.Host.state c.args.host.now) in
    let start = subst (λ (s : CompactionState). Stands files c.args.log.now.file s ds) (sym c.self.view_is) stands in
    let there = none_there c.self.inside.merged.items c.args.part c.index.result.now (omega (arith, c.if-part-len.false, c.len-2.ensures)) c.index.ensures (sym c.is_some.ensures ∙ c.if-is_some.false) in
    let sources = subst (λ (rs : List (Rc Run Global)). AreSources files (map (λ r. r.value) rs) ds) (sym c.deref.ensures.value) start.sources in
    let same = ap (λ (s : CompactionState). s.merged) (c.self-2.view_is ∙ c.in-Ok.ensures.kept) in
    omega (
      arith,
      (c.in_ok-run.ensures.cut ds tells sources).needed,
      ap (λ (ms : List (Option Run)). length (tables_of ms)) same,
      set_tables c.self.inside.merged.items c.args.part c.in_ok-run.run' there,
      ap (λ (s : CompactionState). length (tables_of s.merged)) c.self.view_is,
      ap (λ (s : CompactionState). tables_needed (part_of s ds c.args.part)) c.self.view_is,
    )

pub returns-clause-too_many : goal.returns-clause-too_many
returns-clause-too_many g c = λ ds tells stands many.
    let after = c.self-2.inside in
    let state : CompactionState = record { sources = map (λ r. r.value) after.sources.items; keys = after.plan.keys; parts = after.plan.parts; merged = after.merged.items; spent = false } in
    absurd (omega (arith, many, returns-clause-needed g c ds tells stands (written_by state c.outcome.result c.outcome.ensures), c.self-2.invariant.0.tables))

pub returns-clause-wrote : goal.returns-clause-wrote
returns-clause-wrote g c =
    let same = ap (λ (s : CompactionState). s.merged) (c.self-2.view_is ∙ c.in-Ok.ensures.kept) in
    let there = none_there c.self.inside.merged.items c.args.part c.index.result.now (omega (arith, c.if-part-len.false, c.len-2.ensures)) c.index.ensures (sym c.is_some.ensures ∙ c.if-is_some.false) in
    omega (
      arith,
      c.in_ok-run.ensures.wrote,
      ap (λ (ms : List (Option Run)). sum_by table_len (tables_of ms)) same,
      set_sum table_len c.self.inside.merged.items c.args.part c.in_ok-run.run' there,
      ap (λ (s : CompactionState). sum_by table_len (tables_of s.merged)) c.self.view_is,
    )
