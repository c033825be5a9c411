use Rattle.std.proofs.Common.{inl, inr, ◌≡◌, ◌<◌, ◌+◌, ◌∙◌, ◌*◌, List, IsTrue, ap, arith, length, sym, subst}
use Rattle.std.proofs.lemmas.Result.{err_from_is_err_and}
use Rattle.dfs_host.specs.Host.{bytes_of}
use Rattle.dfs_host.proofs.Causes.{none_by}
use Rattle.dfs_record.specs.Delta.{Delta}
use Rattle.dfs_table.specs.Writer.{AreIn}
use Rattle.dfs_table.proofs.Writings.{appends_on, only_on}
use Rattle.dfs_compact.specs.Compaction.{IsRefusal, Stands, part_of}
use Rattle.dfs_compact.specs.Parts.{count_all, merged_part, tables_below, tables_of}
use Rattle.dfs_plan.specs.Parts.{boundary}
use Rattle.dfs_table.specs.Cut.{tables_needed}
use Rattle.dfs_job.proofs.Parting.{below_more, few_on, left_on, len_on, merged_on, merged_whole, none_refused, none_yet_merged, one_below, passes_so, written_now}
use Rattle.dfs_job.proofs.publishing.merge_parts.Goals as goal

pub loop-part-init : goal.loop-part-init
loop-part-init g c =
    none_yet_merged (g.H.Host.state c.args.host.now) c.args.log.now c.args.compaction.now c.args.parts c.requires.none c.requires.parts c.requires.live c.requires.log_live (c.len.ensures.sound.none_refused c.requires.log_live) c.requires.stands

pub loop-part-preserved : goal.loop-part-preserved
loop-part-preserved g c =
    let h = c.loop-part.invariant in
    let x = c.in_ok-part.ensures in
    let all = c.part.ensures in
    let start = g.H.Host.state c.args.host.now in
    let mid = g.H.Host.state c.loop-part.host in
    let new = g.H.Host.state c.part.new.host in
    let before = c.loop-part.compaction in
    let after = c.part.new.self in
    let part = c.loop-part.part in
    let answer = c.in_ok-part.field-0 in
    let was = c.in_ok-part.was in
    let file = h.left.file in
    let refused : IsRefusal answer → after ≡ before = λ refusal. (x.refused refusal).0 in
    let stands : (ds : List Delta) → IsTrue start.tells → Stands (bytes_of start) c.args.log.now.file c.args.compaction.now ds → Stands (bytes_of new) c.args.log.now.file after ds = λ ds tells held.
    subst (λ n. Stands (bytes_of new) n after ds) file (x.stands ds (h.left.only.tells ∙ tells) (subst (λ n. Stands (bytes_of mid) n before ds) (sym file) (h.stands ds tells held))) in
    record {
      merged = merged_on before after part c.part.result answer was refused x.added (omega (arith, c.loop-part-test.true, h.parts, c.requires.parts)) h.len all.range all.done h.merged;
      left_out = left_on before after part c.part.result answer was refused x.added h.left_out;
      len = len_on before after part c.part.result answer was refused x.added h.len all.same.2;
      sources = all.same.0 ∙ h.sources;
      keys = all.same.1 ∙ h.keys;
      parts = all.same.2 ∙ h.parts;
      live = x.live.0;
      log_live = x.live.1;
      refused = none_refused c.part.new.log.refused (λ some. absurd (cc (all.refuses some, was)));
      inside = subst (λ n. AreIn n (tables_of after.merged)) file x.file;
      log_stands = λ tells. x.log (h.left.only.tells ∙ tells);
      stands = stands;
      few = λ ds tells held.
          few_on before after part c.part.result answer was refused x.added (count_all c.args.compaction.now.sources) (h.few ds tells held)
          (λ written. omega (arith, x.most_of_all written (bytes_of new) c.args.log.now.file ds (stands ds tells held), ap count_all all.same.0, ap count_all h.sources));
      needed = λ ds tells held.
          let of = subst (λ n. Stands (bytes_of mid) n before ds) (sym file) (h.stands ds tells held) in
          let now = written_now before after part c.part.result answer was refused x.added (omega (arith, c.loop-part-test.true, h.parts, c.requires.parts)) h.len all.range all.done h.merged (h.left_out part (omega arith)) in
          x.needed ds (h.left.only.tells ∙ tells) of now
          ∙ ap (λ n. n + tables_needed (part_of before ds part)) (h.needed ds tells held)
          ∙ ap (λ ks. tables_below c.args.compaction.now.keys c.args.compaction.now.parts ds part + tables_needed (merged_part (boundary ks before.parts part) (boundary ks before.parts (part + 1)) ds)) h.keys
          ∙ ap (λ n. tables_below c.args.compaction.now.keys c.args.compaction.now.parts ds part + tables_needed (merged_part (boundary c.args.compaction.now.keys n part) (boundary c.args.compaction.now.keys n (part + 1)) ds)) h.parts
          ∙ sym (one_below c.args.compaction.now.keys c.args.compaction.now.parts ds part);
      tables = omega (arith, h.tables, x.tables, ap count_all h.sources);
      wrote = omega (arith, h.wrote, x.wrote);
      growth = omega (arith, h.growth, x.growth);
      left = appends_on new c.requires.stands h.log_stands h.left all.before all.only all.reads all.log_same.0 all.log_same.1 all.over;
      no_fault = none_by h.no_fault all.cause (λ is. cc (is, was));
    }

pub returns-in_err-part-clause-full : goal.returns-in_err-part-clause-full
returns-in_err-part-clause-full g c is =
    let h = c.loop-part.invariant in
    let p = err_from_is_err_and c.from_residual.result c.from_residual.ensures.1 in
    elim (c.part.ensures.full (cc (is, c.in_err-part.was, p.1, p.2))) [
      | inl some ↦ inl some
      | inr many ↦
          inr
          (passes_so (4096 * length (tables_of c.loop-part.compaction.merged)) c.loop-part.part (count_all c.args.compaction.now.sources) c.args.parts h.tables (omega (arith, c.loop-part-test.true))
          (omega (arith, many, ap count_all h.sources)))
    ]

pub returns-in_err-part-clause-only : goal.returns-in_err-part-clause-only
returns-in_err-part-clause-only g c = only_on c.loop-part.invariant.left c.part.ensures.only

pub returns-clause-merged : goal.returns-clause-merged
returns-clause-merged g c = merged_whole c.loop-part.invariant (omega (arith, c.loop-part-test.false, c.requires.parts))

pub returns-in_err-part-clause-passes : goal.returns-in_err-part-clause-passes
returns-in_err-part-clause-passes g c = λ ds tells held is.
    let h = c.loop-part.invariant in
    let before = c.loop-part.compaction in
    let old = c.args.compaction.now in
    let part = c.loop-part.part in
    let mid = g.H.Host.state c.loop-part.host in
    let of = subst (λ n. Stands (bytes_of mid) n before ds) (sym h.left.file) (h.stands ds tells held) in
    let p = err_from_is_err_and c.from_residual.result c.from_residual.ensures.1 in
    elim (c.part.ensures.passes ds (h.left.only.tells ∙ tells) of (cc (is, c.in_err-part.was, p.1, p.2))) [
      | inl some ↦ inl some
      | inr many ↦
          inr
          (subst (λ n. 131072 < tables_below old.keys n ds n) c.requires.parts
          (omega (
            arith,
            many,
            h.needed ds tells held,
            ap (λ ks. tables_needed (merged_part (boundary ks before.parts part) (boundary ks before.parts (part + 1)) ds)) h.keys,
            ap (λ n. tables_needed (merged_part (boundary old.keys n part) (boundary old.keys n (part + 1)) ds)) h.parts,
            one_below old.keys old.parts ds part,
            below_more old.keys old.parts ds (part + 1) old.parts (omega (arith, c.loop-part-test.true, c.requires.parts)),
          )))
    ]

pub returns-clause-needed : goal.returns-clause-needed
returns-clause-needed g c = λ ds tells held.
    let h = c.loop-part.invariant in
    let old = c.args.compaction.now in
    let last : c.loop-part.part ≡ c.args.parts = omega (arith, c.loop-part-test.false, c.loop-part.far-part) in
    h.needed ds tells held ∙ ap (λ n. tables_below old.keys n ds c.loop-part.part) c.requires.parts ∙ ap (tables_below old.keys c.args.parts ds) last
