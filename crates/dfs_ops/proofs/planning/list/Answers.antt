use Rattle.std.proofs.Common.{◌≡◌, Err, ap, ◌∙◌}
use Rattle.std.proofs.lemmas.Result.{err_from_is_err_and}
use Rattle.dfs_space.proofs.Reading.{read_on, read_passed, read_answered}
use Rattle.dfs_ops.proofs.Plans.{read_of}
use Rattle.dfs_ops.proofs.planning.list.Goals as goal

pub returns-in_err-listing-in-Found-Dir-clause-reads : goal.returns-in_err-listing-in-Found-Dir-clause-reads
returns-in_err-listing-in-Found-Dir-clause-reads g c =
    let listed = c.in_err-listing-in-Found-Dir.ensures in
    let p = err_from_is_err_and c.from_residual-in_err-listing-in-Found-Dir.result c.from_residual-in_err-listing-in-Found-Dir.ensures.1 in
    let same : c.from_residual-in_err-listing-in-Found-Dir.result ≡ Err c.in_err-listing-in-Found-Dir.field-0.0 = p.1 ∙ ap Err p.2 in
    rw same (read_passed (read_on g.met.S.Space.follows_on c.in_ok-answer.ensures.reads (read_of listed.map listed.follows listed.cause listed.never_full)))

pub returns-clause-reads : goal.returns-clause-reads
returns-clause-reads g c =
    let listed = c.in_ok-listing-in-Found-Dir.ensures in
    read_answered _ (read_on g.met.S.Space.follows_on c.in_ok-answer.ensures.reads (read_of listed.map listed.follows listed.cause listed.never_full))
