use Rattle.std.proofs.Common.{sym, ◌∙◌}
use Rattle.dfs_path.proofs.Cuts.{cut_some, cut_none, cut_shorter}
use Rattle.dfs_path.proofs.components.cut.Goals as goal

pub returns-in-Some : goal.returns-in-Some
returns-in-Some c =
    (cut_some c.args.separator c.in-Some.at c.args.bytes.now (sym c.in-Some.is ∙ c.separator_at.ensures), cut_shorter c.args.separator c.in-Some.at c.args.bytes.now (sym c.in-Some.is ∙ c.separator_at.ensures))

pub returns-in-None : goal.returns-in-None
returns-in-None c = cut_none c.args.separator c.args.bytes.now (sym c.in-None.is ∙ c.separator_at.ensures)
