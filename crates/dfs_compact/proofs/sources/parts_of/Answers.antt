use Rattle.std.proofs.Common.{◌<◌, [], ◌∷◌, ◌∙◌, sym, ap, subst, arith, length, map, take, take_all, Global}
use Rattle.std.specs.Prelude.{option_copied}
use Rattle.std.specs.List.{AllByRecursion}
use Rattle.std.specs.declared.rc.Rc.{Rc}
use Rattle.dfs_record.specs.Delta.{Delta, records_of}
use Rattle.dfs_cursor.specs.Ranges.{part}
use Rattle.dfs_table.specs.declared.run.Run.{Run}
use Rattle.dfs_table.proofs.Stays.{all_append}
use Rattle.dfs_compact.specs.Parts.{IsSource, count_all}
use Rattle.dfs_compact.proofs.Rounds.{as_many, count_further, rests_further, sum_of_run}
use Rattle.dfs_compact.proofs.sources.parts_of.Goals as goal

pub loop-run-preserved : goal.loop-run-preserved
loop-run-preserved c =
    let h = c.loop-run.invariant in
    let v = λ (s : Rc Run Global). s.value in
    let x = c.run-item.result in
    let i = c.loop-run.run-index in
    let below : i < length c.args.sources.now = omega (arith, c.loop-run-test.true) in
    let pushed = c.in-Ok.ensures.items in
    record {
      rests = λ files ds are.
          rests_further v _ c.loop-run.parts.items c.push.new.self.items c.in_ok-part.part (λ (d : Delta). part (option_copied c.args.low) (option_copied c.args.high) (records_of d)) files c.args.sources.now ds i x pushed
          (λ d source. c.in_ok-part.ensures.rest files d (subst (λ (r : Run). IsSource files r d) (sym c.deref.ensures) source)) are below c.run-item.is (h.rests files ds are);
      loaded = subst (AllByRecursion _) (sym pushed) (all_append _ c.loop-run.parts.items (c.in_ok-part.part ∷ []) h.loaded (c.in_ok-part.ensures.loaded, tt));
      few =
          let one = sum_of_run _ c.loop-run.parts.items c.push.new.self.items c.in_ok-part.part (count_all (map v (take i c.args.sources.now))) c.deref.result.now x.value pushed h.few c.in_ok-part.ensures.few c.deref.ensures in
          omega (arith, one, count_further v c.args.sources.now i x below c.run-item.is);
      within = subst (AllByRecursion _) (sym pushed) (all_append _ c.loop-run.parts.items (c.in_ok-part.part ∷ []) h.within (c.in_ok-part.ensures.within, tt));
    }

pub returns-clause-rests : goal.returns-clause-rests
returns-clause-rests c = λ files ds are.
    let v = λ (s : Rc Run Global). s.value in
    c.loop-run.invariant.rests files ds are
    ∙ ap (map (λ (d : Delta). part (option_copied c.args.low) (option_copied c.args.high) (records_of d))) (take_all c.loop-run.run-index ds (omega (arith, c.loop-run-test.false, as_many v files c.args.sources.now ds are)))
