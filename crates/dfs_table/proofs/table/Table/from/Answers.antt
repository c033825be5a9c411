use Rattle.dfs_table.proofs.Running.{begins_in}
use Rattle.dfs_table.proofs.table.Table.from.Goals as goal

pub returns : goal.returns
returns c = λ file is reach. begins_in _ file c.args.self.now c.range-next.result.0 c.range-next.result.1 c.bytes_from.result.now c.range-next.ensures.those reach (c.bytes_from.ensures file is)
