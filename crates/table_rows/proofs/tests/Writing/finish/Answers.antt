use Rattle.std.proofs.Common.{ℕ, refl, subst}
use Rattle.std.specs.List.{AllByRecursion}
use Rattle.dfs_host.specs.Host.{bytes_of}
use Rattle.dfs_mem.specs.MemHost.{state_of}
use Rattle.dfs_table.specs.Stored.{IsTableOf}
use Rattle.dfs_table.specs.Writer.{AreIn}
use Rattle.table_rows.proofs.tests.Writing.finish.Goals as goal

pub invariant_of-result : goal.invariant_of-result
invariant_of-result c = record {
  each = subst (λ (n : ℕ). AllByRecursion (IsTableOf (bytes_of (state_of c.finish.new.host) n)) c.in-Ok.run'.tables) c.args.self.log_file (c.in-Ok.ensures.stored refl).each;
  file = subst (λ (n : ℕ). AreIn n c.in-Ok.run'.tables) c.args.self.log_file c.in-Ok.ensures.file;
}
