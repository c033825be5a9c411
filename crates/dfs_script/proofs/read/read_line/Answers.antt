use Rattle.std.proofs.Common.{subst}
use Rattle.dfs_script.specs.Line.{said_by}
use Rattle.dfs_script.specs.Read.{IsSaid}
use Rattle.dfs_script.proofs.Meanings.{answer_means, answers_all}
use Rattle.dfs_script.proofs.Validity.{answer_is_valid}
use Rattle.dfs_script.proofs.read.read_line.Goals as goal

pub returns-clause-means : goal.returns-clause-means
returns-clause-means c =
    answer_means c.read_text.result c.args.line.now (subst (λ text. IsSaid c.read_text.result (said_by text)) c.drop_cr.ensures c.read_text.ensures.said)

pub returns-clause-all : goal.returns-clause-all
returns-clause-all c =
    answers_all c.read_text.result c.args.line.now (subst (λ text. IsSaid c.read_text.result (said_by text)) c.drop_cr.ensures c.read_text.ensures.said)

pub returns-clause-valid : goal.returns-clause-valid
returns-clause-valid c =
    answer_is_valid c.read_text.result c.args.line.now (subst (λ text. IsSaid c.read_text.result (said_by text)) c.drop_cr.ensures c.read_text.ensures.said)
