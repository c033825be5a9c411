use Rattle.dfs_path.proofs.Readback.{printed_reads_back}
use Rattle.dfs_path.proofs.printed_reads_back.Goals as goal

pub returns : goal.returns
returns c = printed_reads_back
