use Rattle.std.proofs.Common.{List, ℕ, [], length, ◌++◌, ◌∷◌, ◌∙◌, ap}
use Rattle.std.specs.Prelude.{decimal, codes}
use Rattle.dfs_reply.specs.Text.{line, snapshot_line}
use Rattle.dfs_reply.proofs.Lines.{one_more, keeps_front}
use Rattle.dfs_reply.proofs.printing.write_snapshots.Goals as goal

pub returns-in_err-write_line-clause-err : goal.returns-in_err-write_line-clause-err
returns-in_err-write_line-clause-err c = keeps_front _ _ c.args.out.now.items _ _ c.loop-index.invariant c.in_err-write_line.ensures.err

pub loop-index-preserved : goal.loop-index-preserved
loop-index-preserved c =
    let snapshot = c.get.result.now in
    c.in_ok-write_line.ensures.ok
    ∙ ap (λ (name : List ℕ). c.loop-index.out.items ++ line (name ∷ decimal snapshot.1 ∷ [])) c.bytes.ensures.value
    ∙ ap (λ (t : List ℕ). t ++ snapshot_line snapshot) c.loop-index.invariant
    ∙ one_more snapshot_line c.args.out.now.items (line (codes "ok" ∷ decimal (length c.args.snapshots.now) ∷ [])) c.args.snapshots.now c.loop-index.index snapshot c.get.ensures
