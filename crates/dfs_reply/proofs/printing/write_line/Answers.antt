use Rattle.std.proofs.Common.{ℕ, List, [], ◌∷◌, ◌++◌, flat_map, sym, ◌∙◌, ap, arith, append_assoc}
use Rattle.std.proofs.lemmas.List.{append-nil, take_all}
use Rattle.dfs_reply.specs.Piece.{piece_text}
use Rattle.dfs_reply.proofs.Lines.{behind, joined, word_more, keeps_front}
use Rattle.dfs_reply.proofs.printing.write_line.Goals as goal

pub loop-piece-init : goal.loop-piece-init
loop-piece-init c = c.in_ok-write_piece.ensures.ok ∙ ap (λ (t : List ℕ). c.args.out.now.items ++ t) (sym (append-nil _))

pub loop-piece-preserved : goal.loop-piece-preserved
loop-piece-preserved c =
    word_more _ _ _ _ _ c.args.others.now c.loop-piece.piece-index _ (omega arith) c.loop-piece.invariant c.in_ok-write_bytes.ensures.ok c.in_ok-write_piece-2.ensures.ok

pub returns-in_err-write_piece-2-clause-err : goal.returns-in_err-write_piece-2-clause-err
returns-in_err-write_piece-2-clause-err c =
    let longer = c.in_ok-write_bytes.ensures.ok ∙ ap (λ (t : List ℕ). t ++ 32 ∷ []) c.loop-piece.invariant ∙ append_assoc c.args.out.now.items _ (32 ∷ []) in
    keeps_front _ _ _ _ _ longer c.in_err-write_piece-2.ensures.err

pub returns-clause-ok : goal.returns-clause-ok
returns-clause-ok c =
    let old = c.args.out.now.items in
    let first = piece_text c.args.first in
    let all = take_all c.loop-piece.piece-index c.args.others.now (omega arith) in
    c.in_ok-write_bytes-2.ensures.ok
    ∙ ap (λ (t : List ℕ). t ++ 10 ∷ []) (c.loop-piece.invariant ∙ ap (λ ps. old ++ (first ++ flat_map behind ps)) all ∙ ap (λ (t : List ℕ). old ++ t) (sym (joined first c.args.others.now)))
    ∙ append_assoc old _ (10 ∷ [])
