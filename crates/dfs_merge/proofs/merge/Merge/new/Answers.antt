use Rattle.dfs_merge.specs.Laws.{rest_whole}
use Rattle.dfs_merge.proofs.merge.Merge.new.Goals as goal

pub returns-clause-whole : goal.returns-clause-whole
returns-clause-whole g c z = rest_whole g.C.Records.rest g.C.Records.unread g.C.Records.bound c.args.sources.items z
