use Rattle.std.proofs.Common.{arith, ap, sym, ◌∙◌, ◌+◌, ◌/◌, ◌<◌, ◌≤◌, ◌≡◌, ◌++◌, ◌∷◌, suc, length, subst, cond, set, take, drop}
use Rattle.std.specs.List.{insert}
use Rattle.std.proofs.lemmas.List.{length-take, length-drop}
use Rattle.dfs_buffer.specs.Chunks.{chunk_at, chunk_limit}
use Rattle.dfs_buffer.proofs.Places.{chunk_is}
use Rattle.dfs_buffer.proofs.Edits.{cut_is, cut_same, cut_all}
use Rattle.dfs_buffer.proofs.chunks.split.Goals as goal

pub returns-clause-cut : goal.returns-clause-cut
returns-clause-cut c =
    let cs = c.args.chunks.now.items in
    let ks = c.reserve.new.self.items in
    let i = c.args.chunk in
    let r = c.index_mut-records.result.now in
    let half = c.len-half.result / 2 in
    let x = c.split_off.new.self in
    let y = c.in_ok-behind.behind in
    let kept : ks ≡ cs = c.in_ok-reserve.ensures.items in
    let within : i < length ks = omega (arith, ap length kept, c.requires.within) in
    let here : r.items ≡ chunk_at (λ x. x.items) cs i = ap (λ x. x.items) c.index_mut-records.ensures.value ∙ sym (chunk_is (λ x. x.items) ks i r within) ∙ ap (λ l. chunk_at (λ x. x.items) l i) kept in
    let count : c.len-half.result ≡ length (chunk_at (λ x. x.items) cs i) = c.len-half.ensures ∙ r.ok.0 ∙ ap length here in
    let most : length (chunk_at (λ x. x.items) cs i) ≤ chunk_limit = subst (λ l. length l ≤ chunk_limit) (sym (chunk_is (λ x. x.items) cs i r c.requires.within)) (c.requires.all.short i r c.requires.within) in
    let first = c.in_ok-behind.ensures.items ∙ ap (take half) here in
    let others = c.in_ok-behind.ensures.tail ∙ ap (drop half) here in
    record {
      front = x;
      back = y;
      is = c.insert.ensures.items
          ∙ ap (λ b. cond b (insert (set ks i x) (i + 1) y) (set ks i x)) c.if-is_err.ensures.negation
          ∙ cut_is ks i x y within
          ∙ ap (λ l. take i l ++ x ∷ y ∷ drop (suc i) l) kept;
      first = first;
      others = others;
      first_fewer = omega (arith, ap length first, length-take half (chunk_at (λ x. x.items) cs i), count, most);
      others_fewer = omega (arith, ap length others, length-drop half (chunk_at (λ x. x.items) cs i), count, most, c.requires.full);
    }

pub returns-clause-all : goal.returns-clause-all
returns-clause-all c = cut_all (λ x. x.items) c.args.chunks.now.items _ c.args.chunk (c.len-half.result / 2) (returns-clause-cut c) c.requires.all c.requires.full

pub returns-clause-same : goal.returns-clause-same
returns-clause-same c = cut_same (λ x. x.items) c.args.chunks.now.items _ c.args.chunk (c.len-half.result / 2) (returns-clause-cut c)
