use Rattle.std.proofs.Common.{sym, subst, get_or}
use Rattle.std.proofs.lemmas.List.{length-map}
use Rattle.dfs_record.specs.Records.{IsHead}
use Rattle.dfs_merge.specs.Sources.{source, sources, ended, merged_rest, all_unread}
use Rattle.dfs_merge.specs.Rank.{IsFirst}
use Rattle.dfs_merge.specs.Tree.{IsTreeOf, IsTournament}
use Rattle.dfs_merge.proofs.Firsts.{head_is}
use Rattle.dfs_merge.proofs.Passing.{all_rise}
use Rattle.dfs_merge.proofs.Matches.{winner_first}
use Rattle.dfs_merge.proofs.merge.MergeRecords.head.Goals as goal

pub returns-in-Some : goal.returns-in-Some
returns-in-Some g c =
    let olds = c.self.inside.sources.items in
    let tour = subst (IsTreeOf (sources g.C.Records.rest g.C.Records.unread g.C.Records.bound olds)) c.in-Some.is c.self.invariant in
    let first : IsFirst (sources g.C.Records.rest g.C.Records.unread g.C.Records.bound olds) c.winner.result = subst (IsFirst (sources g.C.Records.rest g.C.Records.unread g.C.Records.bound olds)) (sym c.winner.ensures)
    (winner_first g.C.Records.rest g.C.Records.unread g.C.Records.bound g.C.Records.Comes g.met.C.Records.rest_rises
    (λ s files l h. record { rises = g.met.C.Records.comes_rises s files l h; begins = g.met.C.Records.comes_begins s files l h; loaded = g.met.C.Records.comes_loaded s files l h })
    olds c.in-Some.tree (subst (λ n. IsTournament (sources g.C.Records.rest g.C.Records.unread g.C.Records.bound olds) 0 n c.in-Some.tree) (length-map olds (source g.C.Records.rest g.C.Records.unread g.C.Records.bound)) tour)) in
    subst (λ l. IsHead (merged_rest (sources g.C.Records.rest g.C.Records.unread g.C.Records.bound l)) (all_unread (sources g.C.Records.rest g.C.Records.unread g.C.Records.bound l)) c.head_at.result) c.self.view_is
    (head_is (sources g.C.Records.rest g.C.Records.unread g.C.Records.bound olds) c.winner.result first
    (all_rise g.C.Records.rest g.C.Records.unread g.C.Records.bound g.C.Records.Comes g.met.C.Records.rest_rises
    (λ s files l h. record { rises = g.met.C.Records.comes_rises s files l h; begins = g.met.C.Records.comes_begins s files l h; loaded = g.met.C.Records.comes_loaded s files l h })
    olds)
    c.head_at.result
    (subst (λ l. IsHead (get_or (sources g.C.Records.rest g.C.Records.unread g.C.Records.bound l) c.winner.result ended).rest (get_or (sources g.C.Records.rest g.C.Records.unread g.C.Records.bound l) c.winner.result ended).unread c.head_at.result) c.deref.ensures.value c.head_at.ensures))
