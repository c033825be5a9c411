use Rattle.std.proofs.Common.{◌++◌, ◌∙◌, ap, map, drop, Global}
use Rattle.std.specs.declared.rc.Rc.{Rc}
use Rattle.dfs_table.specs.declared.run.Run.{Run}
use Rattle.dfs_job.specs.Parted.{placed_run}
use Rattle.dfs_job.proofs.Plans.{behind, map-drop}
use Rattle.dfs_job.proofs.planning.joined.Goals as goal

pub returns : goal.returns
returns c =
    c.in_ok-add_runs.ensures
    ∙ ap (λ l. map (λ (r : Rc Run Global). r.value) c.in_ok-joined.joined.items ++ map (λ (r : Rc Run Global). r.value) l) (behind c.args.covered c.args.runs.now)
    ∙ ap (λ l. l ++ map (λ (r : Rc Run Global). r.value) (drop c.args.covered c.args.runs.now)) c.in_ok-joined.ensures
    ∙ ap (λ l. placed_run c.args.run ++ l) (map-drop (λ (r : Rc Run Global). r.value) c.args.covered c.args.runs.now)
