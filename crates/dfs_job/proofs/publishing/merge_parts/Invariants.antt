use Rattle.dfs_job.proofs.Parting.{IsMerging}
use Rattle.dfs_job.proofs.publishing.merge_parts.Given as goal

abbrev pub invariant-loop-part : goal.invariant-loop-part
invariant-loop-part g l = IsMerging (g.H.Host.state l.fn.host) (g.H.Host.state l.host) l.fn.log l.log l.fn.compaction l.compaction l.part
