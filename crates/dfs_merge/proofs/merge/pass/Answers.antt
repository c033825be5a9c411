use Rattle.std.proofs.Common.{arith, ◌<◌, length, sym, subst, set}
use Rattle.dfs_merge.specs.Sources.{sources}
use Rattle.dfs_merge.specs.Tree.{AreReplayed}
use Rattle.dfs_merge.proofs.Passing.{merge_passed, advanced_set, still_some, len_source}
use Rattle.dfs_merge.proofs.Matches.{passed_whole, replayed_whole}
use Rattle.dfs_merge.proofs.merge.pass.Goals as goal

pub index_mut-requires : goal.index_mut-requires
index_mut-requires g c =
    let whole = passed_whole g.C.Records.rest g.C.Records.unread g.C.Records.bound g.C.Records.Comes g.met.C.Records.rest_rises
    (λ s files l h. record { rises = g.met.C.Records.comes_rises s files l h; begins = g.met.C.Records.comes_begins s files l h; loaded = g.met.C.Records.comes_loaded s files l h })
    c.args.sources.now.items c.pass_others.new.sources.items c.args.tree.now c.pass_others.new.self c.winner-first.result c.winner-first.ensures c.requires.tree c.pass_others.ensures.passed in
    omega (arith, whole.1.len, len_source g.C.Records.rest g.C.Records.unread g.C.Records.bound c.args.sources.now.items c.winner-first.result whole.0.within)

pub advance-requires : goal.advance-requires
advance-requires g c =
    let whole = passed_whole g.C.Records.rest g.C.Records.unread g.C.Records.bound g.C.Records.Comes g.met.C.Records.rest_rises
    (λ s files l h. record { rises = g.met.C.Records.comes_rises s files l h; begins = g.met.C.Records.comes_begins s files l h; loaded = g.met.C.Records.comes_loaded s files l h })
    c.args.sources.now.items c.pass_others.new.sources.items c.args.tree.now c.pass_others.new.self c.winner-first.result c.winner-first.ensures c.requires.tree c.pass_others.ensures.passed in
    still_some g.C.Records.rest g.C.Records.unread g.C.Records.bound g.C.Records.Comes g.met.C.Records.rest_rises
    (λ s files l h. record { rises = g.met.C.Records.comes_rises s files l h; begins = g.met.C.Records.comes_begins s files l h; loaded = g.met.C.Records.comes_loaded s files l h })
    c.args.sources.now.items c.pass_others.new.sources.items c.winner-first.result c.index_mut.result.now whole.0 c.requires.some whole.1 c.index_mut.ensures.value

pub returns-clause-passed : goal.returns-clause-passed
returns-clause-passed g c =
    let olds = c.args.sources.now.items in
    let curs = c.pass_others.new.sources.items in
    let t = c.winner-first.result in
    let whole = passed_whole g.C.Records.rest g.C.Records.unread g.C.Records.bound g.C.Records.Comes g.met.C.Records.rest_rises
    (λ s files l h. record { rises = g.met.C.Records.comes_rises s files l h; begins = g.met.C.Records.comes_begins s files l h; loaded = g.met.C.Records.comes_loaded s files l h })
    olds curs c.args.tree.now c.pass_others.new.self t c.winner-first.ensures c.requires.tree c.pass_others.ensures.passed in
    let within : t < length curs = omega (arith, whole.1.len, len_source g.C.Records.rest g.C.Records.unread g.C.Records.bound olds t whole.0.within) in
    merge_passed g.C.Records.rest g.C.Records.unread g.C.Records.bound g.C.Records.Comes g.met.C.Records.rest_rises
    (λ s files l h. record { rises = g.met.C.Records.comes_rises s files l h; begins = g.met.C.Records.comes_begins s files l h; loaded = g.met.C.Records.comes_loaded s files l h })
    olds curs _ t whole.0 c.requires.some whole.1
    (advanced_set g.C.Records.rest g.C.Records.unread g.C.Records.bound g.C.Records.Comes g.met.C.Records.rest_rises
    (λ s files l h. record { rises = g.met.C.Records.comes_rises s files l h; begins = g.met.C.Records.comes_begins s files l h; loaded = g.met.C.Records.comes_loaded s files l h })
    curs t c.advance.new.self c.index_mut.result.now within c.index_mut.ensures.value c.advance.ensures.rest c.advance.ensures.unread c.advance.ensures.bound c.advance.ensures.comes)

pub returns-clause-tree : goal.returns-clause-tree
returns-clause-tree g c =
    let olds = c.args.sources.now.items in
    let curs = c.pass_others.new.sources.items in
    let t = c.winner-first.result in
    let whole = passed_whole g.C.Records.rest g.C.Records.unread g.C.Records.bound g.C.Records.Comes g.met.C.Records.rest_rises
    (λ s files l h. record { rises = g.met.C.Records.comes_rises s files l h; begins = g.met.C.Records.comes_begins s files l h; loaded = g.met.C.Records.comes_loaded s files l h })
    olds curs c.args.tree.now c.pass_others.new.self t c.winner-first.ensures c.requires.tree c.pass_others.ensures.passed in
    let within : t < length curs = omega (arith, whole.1.len, len_source g.C.Records.rest g.C.Records.unread g.C.Records.bound olds t whole.0.within) in
    replayed_whole g.C.Records.rest g.C.Records.unread g.C.Records.bound g.C.Records.Comes g.met.C.Records.rest_rises
    (λ s files l h. record { rises = g.met.C.Records.comes_rises s files l h; begins = g.met.C.Records.comes_begins s files l h; loaded = g.met.C.Records.comes_loaded s files l h })
    curs (set curs t c.advance.new.self) c.pass_others.new.self c.replay.new.self t (length olds) (sym whole.1.len) whole.2
    (advanced_set g.C.Records.rest g.C.Records.unread g.C.Records.bound g.C.Records.Comes g.met.C.Records.rest_rises
    (λ s files l h. record { rises = g.met.C.Records.comes_rises s files l h; begins = g.met.C.Records.comes_begins s files l h; loaded = g.met.C.Records.comes_loaded s files l h })
    curs t c.advance.new.self c.index_mut.result.now within c.index_mut.ensures.value c.advance.ensures.rest c.advance.ensures.unread c.advance.ensures.bound c.advance.ensures.comes)
    (subst (λ l. AreReplayed (sources g.C.Records.rest g.C.Records.unread g.C.Records.bound l) t c.pass_others.new.self c.replay.new.self) c.deref.ensures.value c.replay.ensures)
