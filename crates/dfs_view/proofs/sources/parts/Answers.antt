use Rattle.std.proofs.Common.{[], ◌∷◌, sym, subst, arith}
use Rattle.std.specs.Prelude.{Some, option_copied}
use Rattle.std.specs.List.{AllByRecursion}
use Rattle.dfs_cursor.specs.Ranges.{part}
use Rattle.dfs_table.specs.declared.run.Run.{Run}
use Rattle.dfs_table.proofs.Stays.{all_append}
use Rattle.dfs_view.specs.Layers.{records_on, runs_of}
use Rattle.dfs_view.proofs.Parts.{lies_at, rests_end, rests_more}
use Rattle.dfs_view.proofs.sources.parts.Goals as goal

pub loop-index-preserved : goal.loop-index-preserved
loop-index-preserved c =
    let h = c.loop-index.invariant in
    let layers = c.args.layers.now in
    let run = c.run_below.result.now in
    record {
      rests = λ host stand.
          let lies = lies_at host (runs_of layers) c.loop-index.index run stand.runs c.run_below.ensures in
          rests_more _ _ _ c.in_ok-source.source (λ (r : Run). part (Some c.args.low.now) (option_copied c.args.high) (records_on host r)) (runs_of layers) c.loop-index.index run c.in-Ok.ensures.items (h.rests host stand)
          (c.in_ok-source.ensures.rest host lies.0 lies.1) c.run_below.ensures;
      loaded = subst (AllByRecursion _) (sym c.in-Ok.ensures.items) (all_append _ c.loop-index.sources.items (c.in_ok-source.source ∷ []) h.loaded (c.in_ok-source.ensures.loaded, tt));
    }

pub returns-in-Ok-push-clause-rests : goal.returns-in-Ok-push-clause-rests
returns-in-Ok-push-clause-rests c = λ host stand.
    let h = c.loop-index.invariant in
    let layers = c.args.layers.now in
    rests_end _ _ _ c.part_of_buffer.result (λ (r : Run). part (Some c.args.low.now) (option_copied c.args.high) (records_on host r)) (runs_of layers) c.loop-index.index _ c.in-Ok-push.ensures.items (h.rests host stand) c.part_of_buffer.ensures.rest
    (omega (arith, c.loop-index-test.false, c.runs_below-index-end.ensures))
