use Rattle.std.proofs.Common.{refl, ◌≡◌, ◌∙◌, ap, sym, subst, false}
use Rattle.dfs_merge.specs.Sources.{sources}
use Rattle.dfs_merge.specs.Rank.{better_of}
use Rattle.dfs_merge.specs.Tree.{winner_of, IsTournament, ArePassedIn}
use Rattle.dfs_merge.proofs.Passing.{others_step}
use Rattle.dfs_merge.proofs.Matches.{passed_none, passed_both}
use Rattle.dfs_merge.proofs.tree.Tree.+pass_others.Goals as goal

pub returns-then-not-has_key_of : goal.returns-then-not-has_key_of
returns-then-not-has_key_of g t c =
    let ss = sources g.C.Records.rest g.C.Records.unread g.C.Records.bound c.args.sources.now.items in record {
      passed = λ low high tour behind. (
        passed_none g.C.Records.rest g.C.Records.unread g.C.Records.bound g.C.Records.Comes g.met.C.Records.rest_rises
            (λ s files l h. record { rises = g.met.C.Records.comes_rises s files l h; begins = g.met.C.Records.comes_begins s files l h; loaded = g.met.C.Records.comes_loaded s files l h })
            c.args.self.now c.args.sources.now.items c.deref.result.now c.args.first c.in-Match.winner (sym (ap winner_of c.in-Match.is)) c.deref.ensures.value (subst (λ b. b ≡ false) c.has_key_of.ensures c.if-not-has_key_of.true) low high tour behind,
        subst (IsTournament ss low high) c.in-Match.is tour,
      );
      same = λ _. (refl, sym (ap winner_of c.in-Match.is));
    }

pub returns-in-Source : goal.returns-in-Source
returns-in-Source g t c =
    let ss = sources g.C.Records.rest g.C.Records.unread g.C.Records.bound c.args.sources.now.items in record {
      passed = λ low high tour behind. (
        others_step g.C.Records.rest g.C.Records.unread g.C.Records.bound g.C.Records.Comes g.met.C.Records.rest_rises
            (λ s files l h. record { rises = g.met.C.Records.comes_rises s files l h; begins = g.met.C.Records.comes_begins s files l h; loaded = g.met.C.Records.comes_loaded s files l h })
            c.args.sources.now.items c.pass_same.new.sources.items c.args.first c.in-Source.index low high (subst (IsTournament ss low high) c.in-Source.is tour).0 (subst (IsTournament ss low high) c.in-Source.is tour).1 c.pass_same.ensures.passed,
        subst (IsTournament ss low high) c.in-Source.is tour,
      );
      same = λ f. (c.pass_same.ensures.same f, sym (ap winner_of c.in-Source.is));
    }

pub returns-else-not-in_left-clause-passed : goal.returns-else-not-in_left-clause-passed
returns-else-not-in_left-clause-passed g t c low high tour behind =
    let ss = sources g.C.Records.rest g.C.Records.unread g.C.Records.bound c.args.sources.now.items in
    let at = subst (IsTournament ss low high) c.in-Match.is tour in
    let both = passed_both g.C.Records.rest g.C.Records.unread g.C.Records.bound g.C.Records.Comes g.met.C.Records.rest_rises
    (λ s files l h. record { rises = g.met.C.Records.comes_rises s files l h; begins = g.met.C.Records.comes_begins s files l h; loaded = g.met.C.Records.comes_loaded s files l h })
    c.args.sources.now.items c.pass_others-in_left.new.sources.items c.pass_others-in_right.new.sources.items c.args.first c.in-Match.middle c.in-Match.left.value c.in-Match.right.value c.pass_others-in_left.new.self c.pass_others-in_right.new.self
    (subst (λ x. ArePassedIn g.C.Records.rest g.C.Records.unread g.C.Records.bound g.C.Records.Comes c.args.first x c.pass_others-in_left.new.self c.args.sources.now.items c.pass_others-in_left.new.sources.items) c.deref_mut.ensures.value c.pass_others-in_left.ensures.passed)
    (subst (λ x. ArePassedIn g.C.Records.rest g.C.Records.unread g.C.Records.bound g.C.Records.Comes c.args.first x c.pass_others-in_right.new.self c.pass_others-in_left.new.sources.items c.pass_others-in_right.new.sources.items) c.deref_mut-in-Match.ensures.value c.pass_others-in_right.ensures.passed)
    low high at.2 at.3 behind in
    let winner : c.better.result ≡ better_of (sources g.C.Records.rest g.C.Records.unread g.C.Records.bound c.pass_others-in_right.new.sources.items) (winner_of c.pass_others-in_left.new.self) (winner_of c.pass_others-in_right.new.self) =
    c.better.ensures ∙ (λ i. better_of (sources g.C.Records.rest g.C.Records.unread g.C.Records.bound (c.deref-in-Match.ensures.value i)) ((c.winner.ensures ∙ ap winner_of c.deref-in-Match-2.ensures) i) ((c.winner-in-Match.ensures ∙ ap winner_of c.deref-in-Match-3.ensures) i)) in
    (both.0, (at.0, winner, both.1, both.2))
