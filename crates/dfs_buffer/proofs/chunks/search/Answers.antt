use Rattle.std.proofs.Common.{rules, of_calls}
use Rattle.std.proofs.lemmas.Fn.{always_returns_same}
use Rattle.dfs_record.specs.declared.Record.{Record}
use Rattle.dfs_record.specs.Key.{key_cmp}
use Rattle.dfs_record.specs.Lend.{key_of}
use Rattle.dfs_buffer.proofs.Rising.{searched}
use Rattle.dfs_buffer.proofs.chunks.search.Goals as goal

pub returns-clause-place : goal.returns-clause-place
returns-clause-place c =
    let by = c.binary_search_by.ensures.position (λ (x : Record). key_cmp x.key (key_of c.args.key)) (always_returns_same _ _ _ (λ a r f k. search (rules, of_calls))) in
    searched c.args.records.now (key_of c.args.key) _ c.requires c.binary_search_by.ensures.bound by
