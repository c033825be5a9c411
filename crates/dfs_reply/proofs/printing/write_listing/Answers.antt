use Rattle.std.proofs.Common.{List, ℕ, [], length, ◌++◌, ◌∷◌, ◌∙◌, ap}
use Rattle.std.specs.Prelude.{decimal, codes}
use Rattle.dfs_path.specs.Escape.{escaped}
use Rattle.dfs_reply.specs.Text.{line, entry_words, listing_line}
use Rattle.dfs_reply.proofs.Lines.{one_more, keeps_front}
use Rattle.dfs_reply.proofs.printing.write_listing.Goals as goal

pub returns-in_err-write_entry-clause-err : goal.returns-in_err-write_entry-clause-err
returns-in_err-write_entry-clause-err c = keeps_front _ _ c.args.out.now.items _ _ c.loop-index.invariant c.in_err-write_entry.ensures.err

pub loop-index-preserved : goal.loop-index-preserved
loop-index-preserved c =
    let entry = c.get.result.now in
    c.in_ok-write_entry.ensures.ok
    ∙ ap (λ (name : List ℕ). c.loop-index.out.items ++ line (escaped name ∷ entry_words entry.1)) c.bytes.ensures.value
    ∙ ap (λ (t : List ℕ). t ++ listing_line entry) c.loop-index.invariant
    ∙ one_more listing_line c.args.out.now.items (line (codes "ok" ∷ decimal (length c.args.listing.now) ∷ [])) c.args.listing.now c.loop-index.index entry c.get.ensures.value
