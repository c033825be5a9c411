use Rattle.std.proofs.Common.{◌≤◌, ◌-◌, ◌++◌, length, take, drop, ap, ◌∙◌, arith}
use Rattle.std.proofs.lemmas.List.{length-append, length-take}
use Rattle.dfs_gen.proofs.Moved.{filled_more}
use Rattle.dfs_gen.proofs.source.GenSourceSource.take.Goals as goal

pub loop-filled-preserved : goal.loop-filled-preserved
loop-filled-preserved c =
    let before = c.loop-filled.invariant in
    let filled = c.loop-filled.filled in
    let out = c.loop-filled.out in
    let left = length out - filled in
    let room : length (take left (drop filled out)) ≤ left = omega (arith, length-take left (drop filled out)) in
    let fits : c.give-count.result ≤ length c.give-count.new.out = omega (arith, c.give-count.ensures.bound) in
    record {
      within = simp (length-append, length-take) (omega (arith, before.within, c.give-count.ensures.bound));
      moved = before.moved ∙ ap (λ l. take filled out ++ l) c.give-count.ensures.moved
          ∙ filled_more filled c.give-count.result out c.give-count.new.out _ c.give-count.new.self before.within fits;
    }
