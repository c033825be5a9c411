use Rattle.std.proofs.Common.{◌∙◌, ap, sym, arith}
use Rattle.std.proofs.lemmas.List.{take_all}
use Rattle.std.specs.Prelude.{is_some}
use Rattle.std.specs.List.{list_all}
use Rattle.dfs_session.specs.Selected.{is_listed}
use Rattle.dfs_session.specs.Sound.{listed_in}
use Rattle.dfs_session.proofs.Lists.{not_all, all_next, lent_some}
use Rattle.dfs_session.proofs.session.Session.lists.Goals as goal

pub returns-then-is_none : goal.returns-then-is_none
returns-then-is_none c =
    sym (not_all (is_listed (listed_in c.args.self.now)) c.args.names.now c.loop-index.index c.get.result.now c.get.ensures.value (ap is_some (sym c.find.ensures) ∙ lent_some c.find.result ∙ c.if-is_none.ensures))

pub loop-index-preserved : goal.loop-index-preserved
loop-index-preserved c =
    all_next (is_listed (listed_in c.args.self.now)) c.args.names.now c.loop-index.index c.get.result.now c.get.ensures.value c.loop-index.invariant (ap is_some (sym c.find.ensures) ∙ lent_some c.find.result ∙ c.if-is_none.ensures)

pub returns : goal.returns
returns c =
    sym (ap (list_all (is_listed (listed_in c.args.self.now))) (sym (take_all c.loop-index.index c.args.names.now (omega (arith, c.len-index-end.ensures.length)))) ∙ c.loop-index.invariant)
