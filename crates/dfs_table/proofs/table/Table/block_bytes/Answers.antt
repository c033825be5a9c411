use Rattle.std.proofs.Common.{length, take, drop, arith, ap, sym, ◌∙◌}
use Rattle.std.proofs.lemmas.Option.{same_Some}
use Rattle.dfs_fence.specs.declared.fence.Fence.{Fence}
use Rattle.dfs_table.proofs.Finding.{has_block, is_block, length-starts}
use Rattle.dfs_table.proofs.table.Table.block_bytes.Goals as goal

pub index-requires : goal.index-requires
index-requires c = omega (arith, c.requires, ap length c.args.self.now.starts_are, length-starts 0 c.args.self.now.fences, c.args.self.now.starts.ok.0)

pub returns-in_err-behind : goal.returns-in_err-behind
returns-in_err-behind c = λ file f is at.
    absurd (omega (arith, c.in_err-behind.ensures.cases, has_block c.args.self.now c.args.index c.index.result.now c.index.ensures file f is at, ap length c.bytes.ensures))

pub returns-in_err-block : goal.returns-in_err-block
returns-in_err-block c = λ file f is at.
    let len = ap (λ (g : Fence). g.len) (same_Some c.get.result.now f (sym c.get.ensures.fence ∙ at)) in
    absurd (omega (arith, c.in_ok-behind.ensures.cases, c.in_err-block.ensures.cases, has_block c.args.self.now c.args.index c.index.result.now c.index.ensures file f is at, ap length c.bytes.ensures, len))

pub returns : goal.returns
returns c = λ file f is at.
    let len = ap (λ (g : Fence). g.len) (same_Some c.get.result.now f (sym c.get.ensures.fence ∙ at)) in
    c.in_ok-block.ensures.cases.1
    ∙ ap (λ n. take n c.in_ok-behind.behind.now) len
    ∙ ap (take f.len) (c.in_ok-behind.ensures.cases.2 ∙ ap (drop c.index.result.now) c.bytes.ensures)
    ∙ is_block c.args.self.now c.args.index c.index.result.now c.index.ensures file f is at
