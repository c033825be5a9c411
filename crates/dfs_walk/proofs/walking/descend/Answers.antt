use Rattle.std.proofs.Common.{◌≡◌, Err, ap, ◌∙◌, arith}
use Rattle.std.proofs.lemmas.Result.{err_from_is_err_and}
use Rattle.dfs_space.proofs.Reading.{read_on}
use Rattle.dfs_walk.proofs.Walks.{stepped, refused, reached}
use Rattle.dfs_walk.proofs.walking.descend.Goals as goal

pub returns-in_err-dir-clause-leads : goal.returns-in_err-dir-clause-leads
returns-in_err-dir-clause-leads g c =
    let on_way = c.loop-index.invariant in
    let p = err_from_is_err_and c.from_residual-in_err-dir.result c.from_residual-in_err-dir.ensures.1 in
    let same : c.from_residual-in_err-dir.result ≡ Err c.in_err-dir.field-0.0 = p.1 ∙ ap Err p.2 in
    rw same (λ m stands. refused m c.args.path.now c.loop-index.passed c.push.new.self c.loop-index.index c.loop-index.dir _ _ c.get.ensures.value (omega arith)
    (c.in_err-dir.ensures.step m (on_way.reads.map m stands)) (on_way.so_far m stands))

pub returns-in_err-dir-clause-reads : goal.returns-in_err-dir-clause-reads
returns-in_err-dir-clause-reads g c =
    let p = err_from_is_err_and c.from_residual-in_err-dir.result c.from_residual-in_err-dir.ensures.1 in
    let same : c.from_residual-in_err-dir.result ≡ Err c.in_err-dir.field-0.0 = p.1 ∙ ap Err p.2 in
    rw same (read_on g.met.S.Space.follows_on c.loop-index.invariant.reads c.in_err-dir.ensures.reads)

pub loop-index-preserved : goal.loop-index-preserved
loop-index-preserved g c =
    let on_way = c.loop-index.invariant in
    record {
      reads = read_on g.met.S.Space.follows_on on_way.reads c.in_ok-dir.ensures.reads;
      so_far = λ m stands. stepped m c.args.path.now c.loop-index.passed _ c.loop-index.index c.loop-index.dir _ _ c.get.ensures.value (omega arith) c.in_ok-push.ensures.ok
          (c.in_ok-dir.ensures.step m (on_way.reads.map m stands)) (on_way.so_far m stands);
    }

pub returns-clause-leads : goal.returns-clause-leads
returns-clause-leads g c = λ m stands.
    reached m c.args.path.now c.loop-index.passed _ c.loop-index.index c.loop-index.dir (omega arith) c.in_ok-push-2.ensures.ok (c.loop-index.invariant.so_far m stands)
