use Rattle.std.proofs.Common.{ℕ, ◌<◌, List, length, take, cond, eqb, sym, ◌∙◌, ap, arith, Vec}
use Rattle.std.specs.declared.alloc.Global.{Global}
use Rattle.dfs_mem.specs.Files.{bytes_at, bytes_in}
use Rattle.dfs_mem.proofs.Given.{bytes_in-take, bytes_at-put}
use Rattle.dfs_mem.proofs.files.copied.Goals as goal

pub loop-number-preserved : goal.loop-number-preserved
loop-number-preserved c n =
    let given = c.args.given.now in
    let one = c.loop-number-item.result in
    let i = c.loop-number.number-index in
    let below : i < length given = omega arith in
    bytes_at-put c.loop-number.files c.insert.new.self one.0 n c.in_ok-copy.copy (c.in_ok-insert.ensures.updates.0 n)
    ∙ ap (λ (l : List ℕ). cond (eqb one.0 n) l (bytes_at c.loop-number.files n)) (c.in_ok-copy.ensures.items_if_clones_equal (λ x y same. same) ∙ c.deref.ensures.value)
    ∙ ap (λ (l : List ℕ). cond (eqb one.0 n) one.1.items l) (c.loop-number.invariant n)
    ∙ ap (λ (p : ℕ × Vec ℕ Global). cond (eqb p.0 n) p.1.items (bytes_in (take i given) n)) c.loop-number-item.is
    ∙ sym (bytes_in-take given i one n c.requires below)
