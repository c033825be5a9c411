use Rattle.std.proofs.Common.{◌≡◌, false, [], ◌∷◌, Err, ap, ◌∙◌}
use Rattle.std.proofs.lemmas.Result.{err_from_is_err_and}
use Rattle.dfs_record.specs.declared.Record.{Record}
use Rattle.dfs_space.proofs.Reading.{read_on, read_passed, read_answered}
use Rattle.dfs_ops.specs.Op.{makes, del}
use Rattle.dfs_ops.proofs.Plans.{removed}
use Rattle.dfs_ops.proofs.planning.remove_dir.Goals as goal

pub returns-in_err-answer-2-clause-reads : goal.returns-in_err-answer-2-clause-reads
returns-in_err-answer-2-clause-reads g c =
    let p = err_from_is_err_and c.from_residual-in_err-answer-2.result c.from_residual-in_err-answer-2.ensures.1 in
    let same : c.from_residual-in_err-answer-2.result ≡ Err c.in_err-answer-2.field-0.0 = p.1 ∙ ap Err p.2 in
    rw same (read_passed (read_on g.met.S.Space.follows_on c.in_ok-answer.ensures.reads c.in_err-answer-2.ensures.reads))

pub returns-in-Some-clause-planned : goal.returns-in-Some-clause-planned
returns-in-Some-clause-planned g c = λ m stands.
    let ids = c.args.ids in
    let key = c.in-At.spot.key in
    removed m ids c.args.path.now c.in_ok-answer.field-0 c.in-At.spot c.removal.result c.in_ok-answer-2.field-0 _ (makes ids (del key ∷ []) false)
    (c.in_ok-answer.ensures.reached m stands) c.in-At.is (c.removal.ensures.hit m ids key) (c.in_ok-answer-2.ensures.blocked m (c.in_ok-answer.ensures.reads.map m stands) _) c.in-Some.is

pub returns-in-Some-clause-reads : goal.returns-in-Some-clause-reads
returns-in-Some-clause-reads g c = read_answered _ (read_on g.met.S.Space.follows_on c.in_ok-answer.ensures.reads c.in_ok-answer-2.ensures.reads)

pub returns-clause-planned : goal.returns-clause-planned
returns-clause-planned g c = λ m stands.
    let ids = c.args.ids in
    let key = c.in-At.spot.key in
    c.one.ensures.planned
    ∙ ap (λ (rec : Record). makes ids (rec ∷ []) false) c.del.ensures
    ∙ removed m ids c.args.path.now c.in_ok-answer.field-0 c.in-At.spot c.removal.result c.in_ok-answer-2.field-0 _ (makes ids (del key ∷ []) false)
    (c.in_ok-answer.ensures.reached m stands) c.in-At.is (c.removal.ensures.hit m ids key) (c.in_ok-answer-2.ensures.blocked m (c.in_ok-answer.ensures.reads.map m stands) _) c.in_default.is

pub returns-clause-reads : goal.returns-clause-reads
returns-clause-reads g c = read_answered _ (read_on g.met.S.Space.follows_on c.in_ok-answer.ensures.reads c.in_ok-answer-2.ensures.reads)
