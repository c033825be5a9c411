use Rattle.std.proofs.Common.{◌∙◌, List, ℕ, subst}
use Rattle.dfs_host.specs.Host.{bytes_of}
use Rattle.dfs_table.specs.Opened.{IsBlockIn}
use Rattle.dfs_host.proofs.Causes.{rose_by_sum}
use Rattle.dfs_host.proofs.Moments.{reads_go_on, same_bytes}
use Rattle.dfs_table.proofs.Opening.{blocks_next, each_next, no_fault_by}
use Rattle.dfs_table.proofs.open.read_blocks.Goals as goal

pub loop-index-preserved : goal.loop-index-preserved
loop-index-preserved g c =
    let i = c.loop-index.invariant in
    let x = c.in_ok-read_block.ensures in
    let bytes = bytes_of (g.H.Host.state c.args.host.now) c.args.file in
    let later = bytes_of (g.H.Host.state c.loop-index.host) c.args.file in
    let fs = c.args.fences.now in
    let at = c.get.ensures.fence in
    record {
      so_far = λ tells. blocks_next bytes later fs c.loop-index.index c.get.result.now (same_bytes i.only tells c.args.file) at (i.so_far tells) (x.bytes (i.only.tells ∙ tells));
      each = λ tells.
          each_next (IsBlockIn bytes c.args.file c.args.end) fs c.loop-index.index c.get.result.now at (i.each tells)
          (subst (λ (l : List ℕ). IsBlockIn l c.args.file c.args.end c.get.result.now) (same_bytes i.only tells c.args.file) (x.block (i.only.tells ∙ tells)));
      only = reads_go_on i.only c.read_block.ensures.only;
      no_fault = no_fault_by i.no_fault c.read_block.ensures.cause (λ is. cc (is, c.in_ok-read_block.was));
      reads = rose_by_sum i.reads x.reads;
    }
