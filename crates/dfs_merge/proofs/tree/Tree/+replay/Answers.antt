use Rattle.std.proofs.Common.{◌≡◌, ◌∙◌, ap, sym, subst}
use Rattle.dfs_merge.specs.Sources.{sources}
use Rattle.dfs_merge.specs.Rank.{better_of}
use Rattle.dfs_merge.specs.Tree.{winner_of, IsTournament, AreReplayed}
use Rattle.dfs_merge.proofs.Matches.{replayed_left, replayed_right}
use Rattle.dfs_merge.proofs.tree.Tree.+replay.Goals.{then-source-middle, else-source-middle}
use Rattle.dfs_merge.proofs.tree.Tree.+replay.Goals as goal

pub returns-after-source-middle : goal.returns-after-source-middle
returns-after-source-middle g t c low high old same tour =
    let now = sources g.C.Records.rest g.C.Records.unread g.C.Records.bound c.args.sources.now in
    let at = subst (IsTournament old low high) c.in-Match.is tour in
    let winner : c.better.result ≡ better_of now (winner_of c.if-source-middle.left.value) (winner_of c.if-source-middle.right.value) =
    c.better.ensures ∙ (λ i. better_of now ((c.winner.ensures ∙ ap winner_of c.deref.ensures) i) ((c.winner-in-Match.ensures ∙ ap winner_of c.deref-in-Match.ensures) i)) in
    elim c.if-source-middle.branch [
      | then-source-middle w ↦
          let l : c.if-source-middle.left.value ≡ w.replay.new.self = ap (λ b. b.value) w.left-is in
          let r : c.if-source-middle.right.value ≡ c.in-Match.right.value = ap (λ b. b.value) w.right-is in
          let again = replayed_left now c.args.source c.in-Match.middle c.in-Match.left.value w.replay.new.self c.in-Match.right.value w.if-source-middle.true
          (subst (λ x. AreReplayed now c.args.source x w.replay.new.self) w.deref_mut.ensures.value w.replay.ensures) low high old same at.2 at.3 in
          (at.0, winner, subst (IsTournament now low c.in-Match.middle) (sym l) again.0, subst (IsTournament now c.in-Match.middle high) (sym r) again.1)
      | else-source-middle w ↦
          let l : c.if-source-middle.left.value ≡ c.in-Match.left.value = ap (λ b. b.value) w.left-is in
          let r : c.if-source-middle.right.value ≡ w.replay-else-source-middle.new.self = ap (λ b. b.value) w.right-is in
          let again = replayed_right now c.args.source c.in-Match.middle c.in-Match.left.value c.in-Match.right.value w.replay-else-source-middle.new.self w.if-source-middle.false
          (subst (λ x. AreReplayed now c.args.source x w.replay-else-source-middle.new.self) w.deref_mut-else-source-middle.ensures.value w.replay-else-source-middle.ensures) low high old same at.2 at.3 in
          (at.0, winner, subst (IsTournament now low c.in-Match.middle) (sym l) again.0, subst (IsTournament now c.in-Match.middle high) (sym r) again.1)
    ]
